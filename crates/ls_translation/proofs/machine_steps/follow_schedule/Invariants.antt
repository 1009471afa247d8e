-- What the loop `step` of `follow_schedule` in src/machine_steps.rt keeps.

use Rattle.std.proofs.Common.{drop, take}
use Rattle.ls_meaning.specs.Runs.{start}
use Rattle.ls_preservation.specs.Translations.{steps_all}
use Rattle.ls_source.specs.Shown.{progress_of}
use Rattle.ls_translation.specs.MachineRuns.{begun, gone}
use Rattle.ls_translation.specs.Texts.{file_of, program_of}
use Rattle.ls_translation.proofs.Following.{IsFollowed}
use Rattle.ls_translation.proofs.RoomLemmas.{HasRoom}
use Rattle.ls_translation.proofs.machine_steps.follow_schedule.Given as goal

abbrev pub invariant-loop-step : goal.invariant-loop-step
invariant-loop-step l =
    (HasRoom (file_of l.image) (program_of l.image) l.cells (take l.step l.thread-items) (progress_of l.source) l.free)
    × (IsFollowed (progress_of l.source) l.run (gone (begun l.fn.run.machine)
    (steps_all (file_of l.image) (program_of l.image) l.most (start (program_of l.image)) l.fn.run.machine
    l.thread-items)) l.most (drop l.step l.thread-items) l.is_long)
