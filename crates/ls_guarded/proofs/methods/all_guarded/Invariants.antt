-- What the loop `m` of `all_guarded` in src/methods.rt keeps.

use Rattle.std.proofs.Common.{◌↔◌, drop}
use Rattle.ls_checked.specs.Plain.{plain_file}
use Rattle.ls_guarded.specs.Methods.{AllGuarded}
use Rattle.ls_guarded.proofs.methods.all_guarded.Given as goal

abbrev pub invariant-loop-m : goal.invariant-loop-m
invariant-loop-m l =
    AllGuarded l.callees.all.items l.callees.own.items l.callees.others.items (plain_file l.file) l.c l.f
    (drop l.m-index l.methods) ↔
    AllGuarded l.callees.all.items l.callees.own.items l.callees.others.items (plain_file l.file) l.c l.f l.methods
