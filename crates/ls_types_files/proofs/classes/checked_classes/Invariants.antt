-- What the loop `c` of `checked_classes` in src/classes.rt keeps.

use Rattle.std.proofs.Common.{◌≡◌, take, map}
use Rattle.ls_checked.specs.Plain.{plain_class}
use Rattle.ls_types_elaboration.specs.Elaboration.{checked_class}
use Rattle.ls_types_elaboration.specs.Tables.{class_sign_of}
use Rattle.ls_types_files.proofs.classes.checked_classes.Given as goal

abbrev pub invariant-loop-c : goal.invariant-loop-c
invariant-loop-c l =
    map plain_class l.classes.items ≡ map checked_class (map class_sign_of (take l.c-index l.signs))
