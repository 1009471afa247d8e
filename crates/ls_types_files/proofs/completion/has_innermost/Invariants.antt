-- What the loop `n` of `has_innermost` in src/completion.rt keeps.

use Rattle.std.proofs.Common.{◌≡◌, drop}
use Rattle.ls_types_files.specs.Left.{has}
use Rattle.ls_types_files.proofs.completion.has_innermost.Given as goal

abbrev pub invariant-loop-n : goal.invariant-loop-n
invariant-loop-n l = has 0 (drop l.n-index l.left) ≡ has 0 l.left
