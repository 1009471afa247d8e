-- What rows tell of all schedules of a program.
pub use Rattle.ls_search_laws.specs.Stepping.{ActAll}
use Rattle.std.specs.Prelude.{◌≡◌, ◌≢◌, ℕ, ◌++◌, List, AllPairs, Contains, length, map, replicate}
use Rattle.std.specs.declared.cmp.Ordering.{Ordering}
use Rattle.std.specs.Ordering.{nat_cmp, ordering_then}
use Rattle.std.specs.Cmp.Lexicographic.{slice_cmp}
use Rattle.ls_events.specs.Beginnings.{IsBeginning}
use Rattle.ls_events.specs.declared.event.Event.{Event}
use Rattle.ls_checked.specs.CheckedTree.{File}
use Rattle.ls_checked.specs.CheckedProgram.{Program}
use Rattle.ls_meaning.specs.declared.step.Did.TheVariants as did
use Rattle.ls_meaning.specs.Runs.{source_history, source_run, source_trace, step}
use Rattle.ls_meaning.specs.Still.{IsActing, IsOver}
use Rattle.ls_source_rows.specs.declared.rows.Ending.{Ending}
use Rattle.ls_source_rows.specs.declared.rows.Ending.TheVariants as ending
use Rattle.ls_source_rows.specs.declared.rows.Row.{Row}

-- ---- a row

-- the schedule of a row: so many steps of the setup, and then one of each thread of its path
abbrev pub schedule_of : ℕ → Row → List ℕ
schedule_of k r = replicate k 0 ++ r.path.items

-- after the schedule no thread acts, and none waits
pub record HaveEnded (file : File) (program : Program) (schedule : List ℕ) : Type 0 where
  pub over : IsOver file program (source_run file program schedule)
  pub free : (t : ℕ) → (step file program (source_run file program schedule) t).did ≢ did.Waits

-- after it no thread acts, and one waits
pub record LeaveWaiting (file : File) (program : Program) (schedule : List ℕ) : Type 0 where
  pub over : IsOver file program (source_run file program schedule)
  pub thread : ℕ
  pub waits : (step file program (source_run file program schedule) thread).did ≡ did.Waits

-- after it a thread acts
abbrev pub GoOn : File → Program → List ℕ → Type 0
GoOn file program schedule = (t : ℕ) × IsActing (step file program (source_run file program schedule) t).did

-- how the program stands after the schedule
abbrev pub EndsAs : File → Program → List ℕ → Ending → Type 0
EndsAs file program schedule ending.Ended = HaveEnded file program schedule
EndsAs file program schedule ending.Waiting = LeaveWaiting file program schedule
EndsAs file program schedule ending.GoesOn = GoOn file program schedule
EndsAs file program schedule ending.NotSeen = Unit {0}

-- its history is that of its schedule, each of whose steps acts, and it ends as the program does after that
pub record IsRow (file : File) (program : Program) (k : ℕ) (r : Row) : Type 0 where
  pub history : r.history.items ≡ source_history file program (schedule_of k r)
  pub acts : ActAll file program (schedule_of k r)
  pub ends : EndsAs file program (schedule_of k r) r.ending

-- no thread acts any more
abbrev pub IsEnd : Ending → Type 0
IsEnd ending.Ended = Unit {0}
IsEnd ending.Waiting = Unit {0}
IsEnd ending.GoesOn = ⊥
IsEnd ending.NotSeen = ⊥

-- ---- rows

abbrev pub AreTrue : File → Program → ℕ → List Row → Type 0
AreTrue file program k rows = (r : Row) → Contains rows r → IsRow file program k r

-- no two rows have one history
abbrev pub AreApart : List Row → Type 0
AreApart rows = AllPairs (λ (r s : Row). r.history.items ≢ s.history.items) rows

-- the history of a row that doesn't end begins that of no other
abbrev pub StandAlone : List Row → Type 0
StandAlone rows = (r s : Row) → Contains rows r → Contains rows s → (IsEnd r.ending → ⊥) →
    IsBeginning r.history.items s.history.items → r.history.items ≡ s.history.items

-- The shorter path comes first, and of two of one length the lesser: by the first thread at which they differ.
abbrev pub row_order : Row → Row → Ordering
row_order r s =
    ordering_then (nat_cmp (length r.path.items) (length s.path.items)) (slice_cmp nat_cmp r.path.items s.path.items)

-- a row's history begins so
pub record IsBegun (rows : List Row) (history : List Event) : Type 0 where
  pub row : Row
  pub there : Contains rows row
  pub begins : IsBeginning history row.history.items

-- a row that ends has this history
pub record HasEnd (rows : List Row) (history : List Event) : Type 0 where
  pub row : Row
  pub there : Contains rows row
  pub same : row.history.items ≡ history
  pub ends : IsEnd row.ending

-- So many paths, no two the same, and those of the rows among them: after the setup's steps one step of each thread of
-- a path acts, and the history of these steps is the beginning of a row's.
pub record TellStates (file : File) (program : Program) (k : ℕ) (rows : List Row) (states : ℕ) : Type 0 where
  pub paths : List (List ℕ)
  pub many : length paths ≡ states
  pub apart : AllPairs (λ (p q : List ℕ). p ≢ q) paths
  pub acts : (path : List ℕ) → Contains paths path → ActAll file program (replicate k 0 ++ path)
  pub told : (path : List ℕ) → Contains paths path →
      IsBegun rows (source_history file program (replicate k 0 ++ path))
  pub own : (r : Row) → Contains rows r → Contains paths r.path.items

-- Of every schedule of the program, of any length: its history is the beginning of a row's; and where no thread acts
-- after it, it is that of a row that ends. Of each row it is told how it ends.
pub record TellWhole (file : File) (program : Program) (rows : List Row) : Type 0 where
  pub begun : (schedule : List ℕ) → IsBegun rows (source_history file program schedule)
  pub ended : (schedule : List ℕ) → IsOver file program (source_run file program schedule) →
      HasEnd rows (source_history file program schedule)
  pub seen : (r : Row) → Contains rows r → r.ending ≢ ending.NotSeen
