-- Rows that tell of schedules.
use Rattle.std.proofs.Common.{ℕ, List, Contains, sym, ◌∙◌, subst}
use Rattle.ls_events.specs.declared.event.Event.{Event}
use Rattle.ls_checked.specs.CheckedTree.{File}
use Rattle.ls_checked.specs.CheckedProgram.{Program}
use Rattle.ls_serial.specs.Serial.{HaveBeginning}
use Rattle.ls_linearizable.specs.Linearizable.{AreTrue, IsLinearizable}
use Rattle.ls_explore.specs.Rows.{IsToldBy, Told}
use Rattle.ls_explore.specs.Tellings.{TellTruth, schedule_of}
use Rattle.ls_explore_reports.specs.Rows.{histories}
use Rattle.ls_explore_reports.proofs.Collecting.{history_there, row_of_history}

pub told_true : (file : File) (program : Program) (k : ℕ) (rows : List Told) →
    TellTruth file program k rows →
    AreTrue file program (histories rows)
told_true file program k rows truth run there =
    let r = row_of_history rows run there in (schedule_of k r.0, sym r.2 ∙ truth.told r.0 r.1)

pub told_begins : (rows : List Told) (h : List Event) → IsToldBy rows h → HaveBeginning (histories rows) h
told_begins rows h told = record {
  run = told.row.history;
  there = history_there rows told.row told.there;
  begins = told.begins;
}

pub all_of_histories : (file : File) (program : Program) (rows : List Told) →
    ((r : Told) → Contains rows r → IsLinearizable file program r.history) →
    (run : List Event) →
    Contains (histories rows) run →
    IsLinearizable file program run
all_of_histories file program rows all run there =
    let r = row_of_history rows run there in subst (IsLinearizable file program) r.2 (all r.0 r.1)
