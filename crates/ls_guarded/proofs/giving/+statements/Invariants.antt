-- What the loop `s` of the cycle `statements` in src/giving.rt keeps.

use Rattle.std.proofs.Common.{◌≡◌, drop, map}
use Rattle.ls_checked.specs.Plain.{plain_class, statements_of}
use Rattle.ls_guarded.specs.Giving.{uses_by_all}
use Rattle.ls_guarded.proofs.giving.+statements.Given as goal

abbrev pub invariant-uses_by_all-loop-s : goal.invariant-uses_by_all-loop-s
invariant-uses_by_all-loop-s l =
    uses_by_all l.how l.marks (map plain_class l.classes) (statements_of (drop l.s-index l.ss)) ≡
    uses_by_all l.how l.marks (map plain_class l.classes) (statements_of l.ss)
