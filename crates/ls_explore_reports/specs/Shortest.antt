-- The shortest schedules of all whose histories have no legal order.
use Rattle.std.specs.Prelude.{◌≡◌, ◌⊎◌, ◌+◌, ◌<◌, ℕ, ◌++◌, ◌∷◌, [], Bool, true, false, List, None, All, Contains}
use Rattle.std.specs.Prelude.{length, take}
use Rattle.ls_checked.specs.CheckedTree.{File}
use Rattle.ls_checked.specs.CheckedProgram.{Program}
use Rattle.ls_events.specs.declared.event.Event.{Event}
use Rattle.ls_meaning.specs.Runs.{source_history, step}
use Rattle.ls_meaning.specs.Still.{IsActing}
use Rattle.ls_source.specs.Progress.{Progress}
use Rattle.ls_labels.specs.Names.{Names}
use Rattle.ls_verdicts.specs.Cuts.{IsCut, IsIllegalRun, IsLegalRun}
use Rattle.ls_fewest_switches.specs.Shortest.{IsShortestOf}
use Rattle.ls_verdicts.specs.Hopeless.{IsHopelessRun}
use Rattle.ls_verdicts.specs.declared.verdicts.Verdict.TheVariants as verdicts
use Rattle.ls_explore.specs.Rows.{ActAll}
use Rattle.ls_explore_reports.specs.Judged.{Judged}
use Rattle.ls_explore_reports.specs.declared.printing.Exploring.{Exploring}

-- no schedule of the program, of any length, whose history has no legal order is shorter
abbrev pub IsShortestIllegal : File → Program → List ℕ → Type 0
IsShortestIllegal file program schedule = IsShortestOf (IsIllegalRun program) file program schedule

-- where it is said so, it is so, and no cells were asked for
abbrev pub IsKnown : Bool → Names → Exploring → List ℕ → Type 0
IsKnown false names e schedule = Unit {0}
IsKnown true names e schedule = (e.cells ≡ None) × IsShortestIllegal names.file names.program schedule

-- The history has no legal order. Each shorter beginning of it has one.
pub record IsJustIllegal (program : Program) (history : List Event) : Type 0 where
  pub illegal : IsIllegalRun program history
  pub legal : (m : ℕ) → m < length history → IsLegalRun program (take m history)

-- A schedule with fewer than so many steps, with whose last event the history ceases to have a legal order. After it a
-- thread acts.
pub record IsShorter (names : Names) (steps : ℕ) (schedule : List ℕ) : Type 0 where
  pub fewer : length schedule < steps
  pub illegal : IsJustIllegal names.program (source_history names.file names.program schedule)
  pub goes : (t : ℕ) × ActAll names.file names.program (schedule ++ t ∷ [])

-- the schedule itself, or one of fewer steps, if no cells are asked for
abbrev pub IsCutOrShorter : Names → Exploring → List ℕ → List ℕ → Type 0
IsCutOrShorter names e cut schedule =
    (schedule ≡ cut) ⊎ ((e.cells ≡ None) × IsShorter names (length cut) schedule)

-- a thread acts after a run
abbrev pub ActsNext : Progress → Type 0
ActsNext r = (t : ℕ) × IsActing (step r.file r.program r.state t).did

-- ---- hopeless beginnings

-- if the row is illegal, one of these is the beginning of its history with whose last event that becomes hopeless
abbrev pub HasBeginning : Program → List (List Event) → Judged → Type 0
HasBeginning program beginnings j =
    j.verdict ≡ verdicts.Illegal →
    (at : ℕ) × IsHopelessRun program j.row.history at × Contains beginnings (take (at + 1) j.row.history)

-- each illegal row has its beginning among these, each of which is such a beginning
pub record AreBeginnings (program : Program) (judged : List Judged) (beginnings : List (List Event)) : Type 0 where
  pub each : All (HasBeginning program beginnings) judged
  pub only : All (IsJustIllegal program) beginnings

-- the first steps of the schedule of an illegal row, with the last of which its history ceases to have a legal order
pub record IsCutOf (file : File) (program : Program) (judged : List Judged) (schedule : List ℕ) : Type 0 where
  pub row : Judged
  pub there : Contains judged row
  pub illegal : row.verdict ≡ verdicts.Illegal
  pub whole : List ℕ
  pub history : row.row.history ≡ source_history file program whole
  pub steps : ℕ
  pub cut : IsCut file program whole steps
  pub first : schedule ≡ take steps whole
