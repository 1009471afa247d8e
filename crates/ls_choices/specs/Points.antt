-- States by numbers, and what a thread's next step does there.
use Rattle.std.specs.Prelude.{◌≡◌, ◌<◌, ℕ, Bool, true, false, List, [], Some, length, nat_eq, slice_get}
use Rattle.std.specs.Prelude.{if◌then◌else◌}
use Rattle.ls_checked.specs.CheckedTree.{File}
use Rattle.ls_meaning.specs.Runs.{has_ended}
use Rattle.ls_meaning.specs.Threads.{Next, Ended, Trapped}
use Rattle.ls_meaning.specs.declared.step.Did.TheVariants as did
use Rattle.ls_search_laws.specs.Configuration.{Configuration, stride}
use Rattle.ls_search.specs.Places.{IsThere, configuration_of}
use Rattle.ls_search.specs.Strides.{ActsBy}
use Rattle.ls_source.specs.Ends.{has_trapped}
use Rattle.ls_transitions.specs.Tables.{Table}
use Rattle.ls_transitions.specs.declared.moves.Step.{Step}
use Rattle.ls_choices.specs.Standing.{Standing}
use Rattle.ls_choices.specs.declared.points.Point.{Point}
use Rattle.ls_choices.specs.declared.turns.Turn.{Turn}
use Rattle.ls_choices.specs.declared.turns.Turn.TheVariants as turns

-- what a state stands for
abbrev pub standing_at : Table → Point → Standing
standing_at t p = record {
  configuration = configuration_of t p.place;
  labels = p.labels.items;
  calls = p.calls.items;
}

-- its numbers are those of a table of this file
pub record IsPlaced (file : File) (t : Table) (p : Point) : Type 0 where
  pub file_is : t.file ≡ file
  pub numbers : IsThere t p.place

abbrev pub ArePlaced : File → Table → List Point → Type 0
ArePlaced file t points = (number : ℕ) (p : Point) → slice_get points number ≡ Some p → IsPlaced file t p

-- the states have the same numbers, labels and calls, so they stand for the same
pub record IsSamePoint (p q : Point) : Type 0 where
  pub store : p.place.store ≡ q.place.store
  pub works : p.place.works.items ≡ q.place.works.items
  pub labels : p.labels.items ≡ q.labels.items
  pub calls : p.calls.items ≡ q.calls.items

-- the one of this number is the same
pub record IsKept (points : List Point) (p : Point) (number : ℕ) : Type 0 where
  pub kept : Point
  pub here : slice_get points number ≡ Some kept
  pub same : IsSamePoint kept p

-- ---- what a thread's next step does

-- the setup starts at once, and the other threads where it has ended without a trap
abbrev pub is_started : Configuration → ℕ → Bool
is_started c thread = if nat_eq thread 0 then true else has_ended (c.continues 0 [])

abbrev pub ended_by : Bool → Next
ended_by by_trap = if by_trap then Trapped else Ended

-- it hasn't started, and it is told whether the setup has trapped
pub record IsUnstarted (c : Configuration) (thread : ℕ) (trapped : Bool) : Type 0 where
  pub before : is_started c thread ≡ false
  pub trapped_is : trapped ≡ has_trapped (c.continues 0 [])

-- it has ended, and it is told whether by a trap
pub record IsEnded (c : Configuration) (thread : ℕ) (trapped : Bool) : Type 0 where
  pub started : is_started c thread ≡ true
  pub ended : c.continues thread [] ≡ ended_by trapped

-- it waits, and has this work
pub record IsHeld (file : File) (c : Configuration) (works : List ℕ) (thread work : ℕ) : Type 0 where
  pub started : is_started c thread ≡ true
  pub here : slice_get works thread ≡ Some work
  pub waits : stride file c thread ≡ record { did = did.Waits; after = c }

-- it acts, and what comes after has these numbers
pub record IsActing (file : File) (t : Table) (c : Configuration) (works : List ℕ) (thread : ℕ) (step : Step) : Type 0
  where
    pub within : thread < length works
    pub acts : ActsBy t works thread step (stride file c thread)

abbrev pub IsTurn : File → Table → Configuration → List ℕ → ℕ → Turn → Type 0
IsTurn file t c works thread (turns.NotStarted trapped) = IsUnstarted c thread trapped
IsTurn file t c works thread (turns.Ended trapped) = IsEnded c thread trapped
IsTurn file t c works thread (turns.Waits work) = IsHeld file c works thread work
IsTurn file t c works thread (turns.Acts step) = IsActing file t c works thread step
