-- What `push_marks` in src/explaining.rt keeps.

use Rattle.std.proofs.Common.{◌≡◌, ◌++◌, replicate}
use Rattle.ls_explanations.proofs.explaining.push_marks.Given as goal

abbrev pub invariant-loop : goal.invariant-loop
invariant-loop l = l.out.items ≡ l.fn.out.items ++ replicate l.counter 94
