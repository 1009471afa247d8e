-- What the loop `m` of `are_plain_methods` in src/methods.rt keeps.

use Rattle.std.proofs.Common.{◌↔◌, drop, map}
use Rattle.ls_checked.specs.Plain.{plain_class, plain_method}
use Rattle.ls_guarded.specs.Methods.{ArePlainFrom}
use Rattle.ls_guarded.proofs.methods.are_plain_methods.Given as goal

abbrev pub invariant-loop-m : goal.invariant-loop-m
invariant-loop-m l =
    ArePlainFrom l.marks (map plain_class l.classes) l.m (map plain_method (drop l.m l.methods)) ↔
    ArePlainFrom l.marks (map plain_class l.classes) 0 (map plain_method l.methods)
