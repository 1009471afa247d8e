-- Records of runs of the machine.
use Rattle.std.specs.Prelude.{◌≡◌, ℕ, List}
use Rattle.ls_code.specs.Code.{Code}
use Rattle.ls_code.specs.Machine.{machine_history}
use Rattle.ls_events.specs.declared.event.Event.{Event}
use Rattle.ls_schedule.specs.declared.replaying.Record.{Record}

abbrev pub scheduled : Record → List ℕ
scheduled r = r.schedule

abbrev pub happened : Record → List Event
happened r = r.machine.history

-- the record of a schedule of instructions on so many cells: the schedule, and the machine's history of it
pub record IsRecordOf (code : Code) (cells : ℕ) (steps : List ℕ) (r : Record) : Type 0 where
  pub schedule : scheduled r ≡ steps
  pub history : happened r ≡ machine_history code cells steps
