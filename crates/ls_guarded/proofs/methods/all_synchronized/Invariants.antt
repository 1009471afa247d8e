-- What the loop `m` of `all_synchronized` in src/methods.rt keeps.

use Rattle.std.proofs.Common.{◌↔◌, drop}
use Rattle.ls_checked.specs.Plain.{plain_file}
use Rattle.ls_guarded.specs.Marks.{IsMarked}
use Rattle.ls_guarded.specs.Methods.{AllSynchronized}
use Rattle.ls_guarded.proofs.methods.all_synchronized.Given as goal

abbrev pub invariant-loop-m : goal.invariant-loop-m
invariant-loop-m l =
    AllSynchronized (IsMarked l.marks) (plain_file l.file) (drop l.m-index l.methods) ↔
    AllSynchronized (IsMarked l.marks) (plain_file l.file) l.methods
