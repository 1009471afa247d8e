-- What the loop `method` of `next_marks` in src/giving.rt keeps.

use Rattle.std.proofs.Common.{◌≡◌, ◌++◌, drop, map}
use Rattle.ls_checked.specs.CheckedTree.{Method}
use Rattle.ls_checked.specs.Plain.{plain_class, plain_method}
use Rattle.ls_guarded.specs.Giving.{uses_by}
use Rattle.ls_guarded.proofs.giving.next_marks.Given as goal

abbrev pub invariant-loop-method : goal.invariant-loop-method
invariant-loop-method l =
    l.next.items ++ map (λ (m : Method). uses_by l.how l.marks (map plain_class l.file.classes.items) m.body)
    (map plain_method (drop l.method-index l.method-items)) ≡
    map (λ (m : Method). uses_by l.how l.marks (map plain_class l.file.classes.items) m.body)
    (map plain_method l.method-items)
