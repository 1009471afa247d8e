-- What of a machine changes as it runs.
use Rattle.std.specs.Prelude.{List, Bool}
use Rattle.ls_code.specs.Thread.{Thread}
use Rattle.ls_code.specs.Cells.{Cells}
use Rattle.ls_code.specs.Machine.{Machine}
use Rattle.ls_events.specs.declared.event.Event.{Event}

-- all of a machine but its code
pub record Standing : Type 0 where
  pub threads : List Thread
  pub cells : Cells
  pub stopped : Bool
  pub history : List Event

abbrev pub standing : Machine → Standing
standing m = record { threads = m.threads; cells = m.cells; stopped = m.stopped; history = m.history }

-- the machine of the same code that stands so
abbrev pub standing_so : Machine → Standing → Machine
standing_so m s = record {
  code = m.code;
  threads = s.threads;
  cells = s.cells;
  stopped = s.stopped;
  history = s.history;
}
