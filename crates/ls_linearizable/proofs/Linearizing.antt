-- Histories that are linearizable.
use Rattle.std.proofs.Common.{◌↔◌, ℕ, List, Contains, sym, ◌∙◌, subst}
use Rattle.ls_events.specs.declared.event.Event.{Event}
use Rattle.ls_checked.specs.CheckedTree.{File}
use Rattle.ls_checked.specs.CheckedProgram.{Program}
use Rattle.ls_meaning.specs.Runs.{source_history}
use Rattle.ls_serial.specs.Serial.{Explains, IsExplainedBy, IsSerial}
use Rattle.ls_serial.specs.Serial.{HaveBeginning}
use Rattle.ls_events.specs.Beginnings.{IsBeginning}
use Rattle.ls_linearizable.specs.Linearizable.{AreTrue, IsLinearizable, TellSerial}
use Rattle.ls_linearizable.proofs.Beginnings.{beginning}
use Rattle.ls_linearizable.proofs.Cuts.{cut_explains}

module _ (file : File) (program : Program) where
  -- a serial beginning of a schedule's history is that of a schedule
  by_beginning : (g h : List Event) (schedule : List ℕ) →
      IsBeginning g (source_history file program schedule) →
      IsSerial g →
      Explains g h →
      IsLinearizable file program h
  by_beginning g h schedule begins serial explains =
      let r = beginning file program schedule g begins in record {
        schedule = r.0;
        serial = subst IsSerial (sym r.3) serial;
        explains = subst (λ x. Explains x h) (sym r.3) explains;
      }

  pub first_linearizable : (h g : List Event) →
      IsBeginning h g →
      IsLinearizable file program g →
      IsLinearizable file program h
  first_linearizable h g begins l =
      let c = cut_explains (source_history file program l.schedule) g h begins.0 begins.1 l.serial l.explains in
      by_beginning c.front h l.schedule (c.back, c.is) c.serial c.explains

  pub explained_linearizable : (runs : List (List Event)) →
      AreTrue file program runs →
      (h : List Event) →
      IsExplainedBy runs h →
      IsLinearizable file program h
  explained_linearizable runs true h e =
      let begun = e.1.begun in
      let told = true begun.run begun.there in
      by_beginning e.0 h told.0 (begun.begins.0, begun.begins.1 ∙ told.1) e.1.serial e.1.explains

  pub told_explained : (runs : List (List Event)) (h : List Event) (schedule : List ℕ) →
      IsSerial (source_history file program schedule) →
      Explains (source_history file program schedule) h →
      HaveBeginning runs (source_history file program schedule) →
      IsExplainedBy runs h
  told_explained runs h schedule serial explains begun = (
    source_history file program schedule,
    record { begun = begun; serial = serial; explains = explains },
  )

  pub begun_linearizable : (runs : List (List Event)) →
      ((run : List Event) → Contains runs run → IsLinearizable file program run) →
      (h : List Event) →
      HaveBeginning runs h →
      IsLinearizable file program h
  begun_linearizable runs all h begun = first_linearizable h begun.run begun.begins (all begun.run begun.there)

  pub serial_decide : (runs : List (List Event)) →
      AreTrue file program runs →
      TellSerial file program runs →
      (h : List Event) →
      IsLinearizable file program h ↔ IsExplainedBy runs h
  serial_decide runs true told h = (
    λ l. told_explained runs h l.schedule l.serial l.explains (told l.schedule l.serial),
    explained_linearizable runs true h,
  )
