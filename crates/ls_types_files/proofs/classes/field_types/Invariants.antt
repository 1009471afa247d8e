-- What the loop `f` of `field_types` in src/classes.rt keeps.

use Rattle.std.proofs.Common.{◌≡◌, take, map}
use Rattle.ls_types_elaboration.specs.Tables.{field_sign_of}
use Rattle.ls_types_files.proofs.classes.field_types.Given as goal

abbrev pub invariant-loop-f : goal.invariant-loop-f
invariant-loop-f l =
    l.types.items ≡ map (λ f. f.type) (map field_sign_of (take l.f-index l.fields))
