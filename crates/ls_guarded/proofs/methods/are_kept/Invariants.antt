-- What the loop `m` of `are_kept` in src/methods.rt keeps.

use Rattle.std.proofs.Common.{◌↔◌, drop, map}
use Rattle.ls_checked.specs.Plain.{plain_class, plain_method}
use Rattle.ls_guarded.specs.Methods.{AreKeptFrom}
use Rattle.ls_guarded.proofs.methods.are_kept.Given as goal

abbrev pub invariant-loop-m : goal.invariant-loop-m
invariant-loop-m l =
    AreKeptFrom l.callees.all.items l.callees.own.items l.callees.others.items (map plain_class l.classes) l.f l.m
    (map plain_method (drop l.m l.methods)) ↔
    AreKeptFrom l.callees.all.items l.callees.own.items l.callees.others.items (map plain_class l.classes) l.f 0
    (map plain_method l.methods)
