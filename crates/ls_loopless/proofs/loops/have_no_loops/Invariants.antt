-- What the loop `method` of `have_no_loops` in src/loops.rt keeps.

use Rattle.std.proofs.Common.{◌↔◌, drop, map}
use Rattle.ls_checked.specs.Plain.{plain_method}
use Rattle.ls_loopless.specs.Loops.{HaveNoLoops}
use Rattle.ls_loopless.proofs.loops.have_no_loops.Given as goal

abbrev pub invariant-loop-method : goal.invariant-loop-method
invariant-loop-method l =
    HaveNoLoops (map plain_method (drop l.method-index l.methods)) ↔ HaveNoLoops (map plain_method l.methods)
