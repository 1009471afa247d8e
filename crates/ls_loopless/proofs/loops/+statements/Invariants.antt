-- What the loop `s` of the cycle `statements` in src/loops.rt keeps.

use Rattle.std.proofs.Common.{◌↔◌, drop}
use Rattle.ls_checked.specs.Plain.{statements_of}
use Rattle.ls_loopless.specs.Loops.{AreLoopless}
use Rattle.ls_loopless.proofs.loops.+statements.Given as goal

abbrev pub invariant-are_loopless-loop-s : goal.invariant-are_loopless-loop-s
invariant-are_loopless-loop-s l = AreLoopless (statements_of (drop l.s-index l.ss)) ↔ AreLoopless (statements_of l.ss)
