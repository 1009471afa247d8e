-- What rows with legal orders tell of all schedules.
use Rattle.std.specs.Prelude.{◌≡◌, ℕ, List, map, Some, Contains}
use Rattle.ls_events.specs.declared.event.Event.{Event as RunEvent}
use Rattle.ls_checked.specs.CheckedTree.{File}
use Rattle.ls_checked.specs.CheckedProgram.{Program}
use Rattle.ls_meaning.specs.Runs.{source_history}
use Rattle.ls_preservation.specs.Same.{Fits}
use Rattle.ls_report.specs.Events.{Event}
use Rattle.ls_report.specs.Printing.{named}
use Rattle.ls_order_search.specs.Answers.{HasOrder}
use Rattle.ls_explore.specs.Rows.{Told}
use Rattle.ls_explore.specs.Tellings.{TellAll, TellWhole}

-- each event has its call's names, and the events so named have a legal order
abbrev pub HasLegalOrder : Program → List RunEvent → Type 0
HasLegalOrder program history = (events : List Event) × (map (named program) history ≡ map Some events) ×
    HasOrder events

abbrev pub RowsAreLegal : Program → List Told → Type 0
RowsAreLegal program rows = (r : Told) → Contains rows r → HasLegalOrder program r.history

-- Complete rows with legal orders: the history of each schedule of source steps that fits the cells, of any length, has
-- one.
abbrev pub EachThatFitsIsLegal : Type 0
EachThatFitsIsLegal =
    (file : File) (program : Program) (cells : ℕ) (rows : List Told) → TellAll file program cells rows →
    RowsAreLegal program rows
    → (schedule : List ℕ) → Fits file program cells schedule →
    HasLegalOrder program (source_history file program schedule)

-- So does that of each schedule, where no schedule runs out of cells.
abbrev pub EachIsLegal : Type 0
EachIsLegal =
    (file : File) (program : Program) (rows : List Told) → TellWhole file program rows → RowsAreLegal program rows
    → (schedule : List ℕ) → HasLegalOrder program (source_history file program schedule)
