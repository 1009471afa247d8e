-- What the loop `length` of `are_short` in src/files.rt keeps.

use Rattle.ls_code.specs.Limits.{most_instructions}
use Rattle.std.proofs.Common.{◌≤◌, take}
use Rattle.std.specs.Prelude.{All}
use Rattle.ls_linker.proofs.files.are_short.Given as goal

abbrev pub invariant-loop-length : goal.invariant-loop-length
invariant-loop-length l = All (λ n. n ≤ most_instructions) (take l.length-index l.lengths)
