-- What the loop `one` of `meeting_in` in src/meetings.rt keeps.
use Rattle.std.proofs.Common.{◌<◌}
use Rattle.ls_races.specs.declared.meetings.Met.{Met}
use Rattle.ls_races.specs.Met.{IsMet}
use Rattle.ls_races.proofs.meetings.meeting_in.Given as goal

abbrev pub invariant-loop-one : goal.invariant-loop-one
invariant-loop-one l = (m : Met) → m.one < l.one → IsMet l.accesses l.told m → ⊥
