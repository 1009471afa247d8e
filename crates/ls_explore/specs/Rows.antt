-- Histories with paths that lead to them.
pub use Rattle.ls_search_laws.specs.Stepping.{ActAll}
use Rattle.std.specs.Prelude.{◌≡◌, ◌≢◌, ℕ, ◌<◌, ◌++◌, [], ◌∷◌, AllPairs, Bool, true, false, List, Option, length, map}
use Rattle.std.specs.Prelude.{replicate, Contains, None, Some}
use Rattle.std.specs.declared.cmp.Ordering.{Ordering}
use Rattle.std.specs.Ordering.{nat_cmp, ordering_then}
use Rattle.std.specs.Cmp.Lexicographic.{slice_cmp}
use Rattle.ls_events.specs.declared.event.Event.{Event}
use Rattle.ls_checked.specs.CheckedTree.{File}
use Rattle.ls_checked.specs.CheckedProgram.{Program}
use Rattle.ls_meaning.specs.Runs.{source_run, source_trace, source_history}
use Rattle.ls_code.specs.Code.{Code}
use Rattle.ls_code.specs.Machine.{Machine, loaded, machine_run}
use Rattle.ls_code.specs.declared.step.Did.TheVariants as did
use Rattle.ls_preservation.specs.Same.{Fits, IsCells}
use Rattle.ls_preservation.specs.Acting.{ActsInTime, first_did}
use Rattle.ls_explore.specs.Bursts.{ActsAlong, burst}
use Rattle.ls_explore.specs.Ends.{AreQuiet, HasSteps}
use Rattle.ls_explore.specs.Room.{IsFull, StaysWithin, StopsForRoom}
use Rattle.ls_meaning.specs.Still.{IsOver}
use Rattle.ls_explore.specs.Explored.{HasHistories, IsSetUp}
use Rattle.ls_events.specs.Beginnings.{IsBeginning}
use Rattle.ls_explore.specs.declared.rows.Ending.{Ending}
use Rattle.ls_explore.specs.declared.rows.Ending.TheVariants as ending
use Rattle.ls_explore.specs.declared.searching.Seen.{Seen}

-- a path, a history, and how it ends
pub record Told : Type 0 where
  pub path : List ℕ
  pub history : List Event
  pub ending : Ending

-- The shorter path comes first, and of two of one length the lesser: by the first thread at which they differ.
abbrev pub row_order : Told → Told → Ordering
row_order r s = ordering_then (nat_cmp (length r.path) (length s.path)) (slice_cmp nat_cmp r.path s.path)

-- no two rows have one history
abbrev pub AreApart : List Told → Type 0
AreApart rows = AllPairs (λ (r s : Told). r.history ≢ s.history) rows

-- no row ends so
abbrev pub NoneEnds : Ending → List Told → Type 0
NoneEnds e rows = (r : Told) → Contains rows r → r.ending ≢ e

-- what so many threads do after a machine: all are quiet; or none acts, and one would stop the machine for want of
-- cells; or one acts
abbrev pub EndsAs : ℕ → ℕ → Machine → Ending → Type 0
EndsAs n threads m ending.Over = AreQuiet n threads m
EndsAs n threads m ending.OutOfCells =
    ((t : ℕ) → t < threads → burst n m t ≡ None) × ((t : ℕ) × (t < threads) × (first_did n m t ≡ did.Stopped))
EndsAs n threads m ending.GoesOn = (t : ℕ) × (t < threads) × ((m' : Machine) × (burst n m t ≡ Some m'))
EndsAs n threads m ending.NotSeen = Unit {0}

-- whether no thread acts any more
abbrev pub IsEnd : Ending → Type 0
IsEnd ending.Over = Unit {0}
IsEnd ending.OutOfCells = Unit {0}
IsEnd ending.GoesOn = ⊥
IsEnd ending.NotSeen = ⊥

-- the history of a row that doesn't end begins that of no other
abbrev pub StandAlone : List Told → Type 0
StandAlone rows = (r s : Told) → Contains rows r → Contains rows s → (IsEnd r.ending → ⊥) →
    IsBeginning r.history s.history → r.history ≡ s.history

-- how a path ends, by what is seen after it
abbrev pub ending_of_seen : Bool → Bool → Ending
ending_of_seen true stops = ending.GoesOn
ending_of_seen false true = ending.OutOfCells
ending_of_seen false false = ending.Over

abbrev pub ending_of : Option Seen → Ending
ending_of None = ending.NotSeen
ending_of (Some seen) = ending_of_seen seen.acts seen.stops

-- the path leads to a machine, each of its threads acting in turn, that has this history and ends so
abbrev pub IsTold : ℕ → ℕ → Machine → Told → Type 0
IsTold n threads root r = (m : Machine) × ActsAlong n root r.path m × (r.history ≡ m.history) ×
    EndsAs n threads m r.ending

-- one of the rows has this history, and ends
pub record HasEnd (rows : List Told) (history : List Event) : Type 0 where
  pub row : Told
  pub there : Contains rows row
  pub same : row.history ≡ history
  pub ends : IsEnd row.ending

-- one of the rows has a history that begins so
pub record IsToldBy (rows : List Told) (history : List Event) : Type 0 where
  pub row : Told
  pub there : Contains rows row
  pub begins : IsBeginning history row.history

-- So many paths, no two the same, and those of the rows among them: after the setup's steps one step of each thread of
-- a path acts, and the history of these steps is the beginning of a row's.
pub record TellStates (file : File) (program : Program) (k : ℕ) (rows : List Told) (states : ℕ) : Type 0 where
  pub paths : List (List ℕ)
  pub many : length paths ≡ states
  pub apart : AllPairs (λ (p q : List ℕ). p ≢ q) paths
  pub acts : (path : List ℕ) →
      Contains paths path →
      ActAll file program (replicate k 0 ++ path)
  pub told : (path : List ℕ) → Contains paths path → IsToldBy rows (source_history file program (replicate k 0 ++ path))
  pub own : (r : Told) → Contains rows r → Contains paths r.path

-- For each file and program that the code runs as, and whose setup these steps are: so it is of so many states.
abbrev pub TellsStates : Code → ℕ → List ℕ → List Told → ℕ → Type 0
TellsStates code cells setup rows states =
    (file : File) (program : Program) (k : ℕ) → HasHistories file program code cells →
    HasSteps file program code cells →
    IsSetUp file program code cells k (machine_run (loaded code cells) setup) → TellStates file program k rows states

-- Each row's history is that of a schedule of source steps: those of the setup, and then one of each thread of its
-- path; for each file and program that the code runs as, and whose setup these steps are.
abbrev pub TellsTruth : Code → ℕ → List ℕ → List Told → Type 0
TellsTruth code cells setup rows =
    (file : File) (program : Program) (k : ℕ) → HasHistories file program code cells →
    IsSetUp file program code cells k (machine_run (loaded code cells) setup) → (r : Told) → Contains rows r →
    r.history ≡ source_history file program (replicate k 0 ++ r.path)

-- Each step of that schedule acts; and where the row goes on, one more step of some thread does.
abbrev pub TellsActs : Code → ℕ → List ℕ → List Told → Type 0
TellsActs code cells setup rows =
    (file : File) (program : Program) (k : ℕ) → HasSteps file program code cells →
    IsSetUp file program code cells k (machine_run (loaded code cells) setup) → (r : Told) → Contains rows r →
    ActAll file program (replicate k 0 ++ r.path)
    × (r.ending ≡ ending.GoesOn → (t : ℕ) × ActAll file program ((replicate k 0 ++ r.path) ++ t ∷ []))

-- That schedule fits the cells.
abbrev pub TellsFits : Code → ℕ → List ℕ → List Told → Type 0
TellsFits code cells setup rows =
    (file : File) (program : Program) (k : ℕ) → IsCells code cells → StaysWithin file program code →
    IsSetUp file program code cells k (machine_run (loaded code cells) setup) → (r : Told) → Contains rows r →
    Fits file program cells (replicate k 0 ++ r.path)

-- After the schedule of a row that is out of cells some thread acts, and none for whose next step there is room.
abbrev pub TellsFull : Code → ℕ → List ℕ → ℕ → List Told → Type 0
TellsFull code cells setup threads rows =
    (file : File) (program : Program) (k : ℕ) → IsCells code cells → ActsInTime file program code →
    StopsForRoom file program code →
    IsSetUp file program code cells k (machine_run (loaded code cells) setup) → length program.threads ≡ threads →
    (r : Told) → Contains rows r → r.ending ≡ ending.OutOfCells → IsFull file program cells (replicate k 0 ++ r.path)

-- Some schedule doesn't fit the cells.
abbrev pub TellsNarrow : Code → ℕ → List ℕ → Type 0
TellsNarrow code cells setup =
    (file : File) (program : Program) (k : ℕ) → IsCells code cells → StopsForRoom file program code →
    IsSetUp file program code cells k (machine_run (loaded code cells) setup) →
    (schedule : List ℕ) × ¬ Fits file program cells schedule

-- After the schedule of a row that is over no thread of the source acts.
abbrev pub TellsOver : Code → ℕ → List ℕ → ℕ → List Told → Type 0
TellsOver code cells setup threads rows =
    (file : File) (program : Program) (k : ℕ) → IsCells code cells → ActsInTime file program code →
    IsSetUp file program code cells k (machine_run (loaded code cells) setup) → length program.threads ≡ threads →
    (r : Told) →
    Contains rows r → r.ending ≡ ending.Over → IsOver file program (source_run file program (replicate k 0 ++ r.path))

-- For each file and program that the code runs as, and whose setup these steps are: the history of each schedule of
-- source steps that fits the cells, of any length, is the beginning of a row's.
abbrev pub TellsAll : Code → ℕ → List ℕ → ℕ → List Told → Type 0
TellsAll code cells setup threads rows =
    (file : File) (program : Program) (k : ℕ) → IsCells code cells → ActsInTime file program code →
    HasHistories file program code cells →
    IsSetUp file program code cells k (machine_run (loaded code cells) setup) → length program.threads ≡ threads →
    (schedule : List ℕ) →
    Fits file program cells schedule → IsToldBy rows (source_history file program schedule)

-- So too: the history of each such schedule after which no thread acts is that of a row that ends.
abbrev pub TellsEnds : Code → ℕ → List ℕ → ℕ → List Told → Type 0
TellsEnds code cells setup threads rows =
    (file : File) (program : Program) (k : ℕ) → IsCells code cells → ActsInTime file program code →
    HasHistories file program code cells →
    HasSteps file program code cells → IsSetUp file program code cells k (machine_run (loaded code cells) setup) →
    length program.threads ≡ threads → (schedule : List ℕ) → Fits file program cells schedule →
    IsOver file program (source_run file program schedule) → HasEnd rows (source_history file program schedule)

-- Where no schedule runs out of cells: so it is of each schedule, whether it fits the cells or not.
abbrev pub TellsWhole : Code → ℕ → List ℕ → ℕ → List Told → Type 0
TellsWhole code cells setup threads rows =
    (file : File) (program : Program) (k : ℕ) → IsCells code cells → ActsInTime file program code →
    HasHistories file program code cells →
    HasSteps file program code cells → IsSetUp file program code cells k (machine_run (loaded code cells) setup) →
    length program.threads ≡ threads → (schedule : List ℕ) → IsToldBy rows (source_history file program schedule)
    × (IsOver file program (source_run file program schedule) → HasEnd rows (source_history file program schedule))
