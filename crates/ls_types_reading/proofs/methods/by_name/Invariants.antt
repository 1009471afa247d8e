-- What the loop `m` of `by_name` in src/methods.rt keeps.

use Rattle.std.proofs.Common.{◌≡◌, drop, map}
use Rattle.ls_types_elaboration.specs.Known.{method_named}
use Rattle.ls_types_elaboration.specs.Tables.{method_sign_of}
use Rattle.ls_types_elaboration.specs.Trees.{Text}
use Rattle.ls_types_reading.specs.MethodsByName.{finds}
use Rattle.ls_types_reading.proofs.ByName.{first_of}
use Rattle.ls_types_reading.proofs.methods.by_name.Given as goal

abbrev pub invariant-loop-m : goal.invariant-loop-m
invariant-loop-m l = (name : Text)
    → first_of (finds l.all name) (method_named (map method_sign_of (drop l.m-index l.methods)) name)
    ≡ method_named (map method_sign_of l.methods) name
