-- What the loop `n` of `outward` in src/completion.rt keeps.

use Rattle.std.proofs.Common.{◌≡◌, ◌++◌, drop}
use Rattle.ls_types_files.specs.Left.{outward}
use Rattle.ls_types_files.proofs.completion.outward.Given as goal

abbrev pub invariant-loop-n : goal.invariant-loop-n
invariant-loop-n l = l.left.items ++ outward (drop l.n-index l.inner) ≡ l.initial.left.items ++ outward l.inner
