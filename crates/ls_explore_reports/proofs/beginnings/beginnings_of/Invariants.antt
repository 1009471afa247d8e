-- What the loop `place` of `beginnings_of` in src/beginnings.rt keeps.

use Rattle.std.proofs.Common.{Vec, map, take}
use Rattle.std.specs.Global.{Global}
use Rattle.ls_checked.specs.PlainProgram.{plain_program}
use Rattle.ls_events.specs.declared.event.Event.{Event}
use Rattle.ls_explore_reports.specs.Shortest.{AreBeginnings}
use Rattle.ls_explore_reports.proofs.beginnings.beginnings_of.Given as goal

abbrev pub invariant-loop-place : goal.invariant-loop-place
invariant-loop-place l = AreBeginnings (plain_program l.program) (take l.place l.judged)
    (map (λ (v : Vec Event Global). v.items) l.beginnings.items)
