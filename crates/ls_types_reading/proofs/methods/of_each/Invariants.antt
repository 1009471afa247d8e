-- What the loop `c` of `of_each` in src/methods.rt keeps.

use Rattle.std.proofs.Common.{◌≡◌, take, map}
use Rattle.ls_types_elaboration.specs.Tables.{class_sign_of}
use Rattle.ls_types_reading.specs.MethodsByName.{finds, declares}
use Rattle.ls_types_reading.proofs.methods.of_each.Given as goal

abbrev pub invariant-loop-c : goal.invariant-loop-c
invariant-loop-c l = map finds l.all.items ≡ map declares (map class_sign_of (take l.c-index l.classes))
