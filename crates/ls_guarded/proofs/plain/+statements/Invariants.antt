-- What the loop `s` of the cycle `statements` in src/plain.rt keeps.

use Rattle.std.proofs.Common.{◌↔◌, drop, map}
use Rattle.ls_checked.specs.Plain.{plain_class, statements_of}
use Rattle.ls_guarded.specs.Marks.{IsMarked}
use Rattle.ls_one_at_a_time.specs.Inner.{RunPlain}
use Rattle.ls_guarded.proofs.plain.+statements.Given as goal

abbrev pub invariant-run_plain-loop-s : goal.invariant-run_plain-loop-s
invariant-run_plain-loop-s l =
    RunPlain (IsMarked l.marks) (map plain_class l.classes) l.slot (statements_of (drop l.s-index l.ss)) ↔
    RunPlain (IsMarked l.marks) (map plain_class l.classes) l.slot (statements_of l.ss)
