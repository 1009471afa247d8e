-- The files whose methods have code that isn't too long.
use Rattle.ls_code.specs.Limits.{most_instructions}
use Rattle.std.specs.Prelude.{◌≤◌}
use Rattle.std.specs.List.{All}
use Rattle.ls_lowered.specs.LoweredTree.{File}
use Rattle.ls_emit.specs.Units.{method_size}

abbrev pub AllShort : File → Type 0
AllShort methods = All (λ m. method_size m ≤ most_instructions) methods
