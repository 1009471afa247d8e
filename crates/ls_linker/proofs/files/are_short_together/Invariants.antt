-- What the loop `length` of `are_short_together` in src/files.rt keeps.

use Rattle.ls_code.specs.Limits.{most_instructions}
use Rattle.std.proofs.Common.{◌≡◌, ◌+◌, ◌≤◌, drop}
use Rattle.ls_linker.specs.Costs.{sum}
use Rattle.ls_linker.proofs.files.are_short_together.Given as goal

abbrev pub invariant-loop-length : goal.invariant-loop-length
invariant-loop-length l =
    (l.left ≤ most_instructions) × (sum l.lengths + l.left ≡ sum (drop l.length-index l.lengths) + most_instructions)
