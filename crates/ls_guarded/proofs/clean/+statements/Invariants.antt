-- What the loop `s` of the cycle `statements` in src/clean.rt keeps.

use Rattle.std.proofs.Common.{◌↔◌, drop, map}
use Rattle.ls_checked.specs.Plain.{plain_class, statements_of}
use Rattle.ls_guarded.specs.Marks.{OnOthers, OnThis}
use Rattle.ls_one_at_a_time.specs.Clean.{RunClean}
use Rattle.ls_guarded.proofs.clean.+statements.Given as goal

abbrev pub invariant-run_clean-loop-s : goal.invariant-run_clean-loop-s
invariant-run_clean-loop-s l =
    RunClean (OnThis l.callees) (OnOthers l.callees) (map plain_class l.classes) l.f l.this
    (statements_of (drop l.s-index l.ss)) ↔
    RunClean (OnThis l.callees) (OnOthers l.callees) (map plain_class l.classes) l.f l.this (statements_of l.ss)
