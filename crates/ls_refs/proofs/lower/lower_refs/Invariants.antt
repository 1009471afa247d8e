-- What the loop `method` of `lower_refs` in src/lower.rt keeps.

use Rattle.std.proofs.Common.{◌≡◌, map, take}
use Rattle.ls_checked.specs.Plain.{plain_method as checked_method, plain_class}
use Rattle.ls_lowered.specs.Plain.{plain_method}
use Rattle.ls_refs.specs.Lowered.{lowered_method}
use Rattle.ls_refs.proofs.lower.lower_refs.Given as goal

abbrev pub invariant-loop-method : goal.invariant-loop-method
invariant-loop-method l = map plain_method l.methods.items ≡ map
    (λ m. lowered_method (map plain_class l.file.classes.items) (checked_method m))
    (take l.method-index l.file.methods.items)
