-- The next accesses of threads, and two of them that conflict.
use Rattle.std.specs.Prelude.{◌≡◌, ◌≢◌, ◌<◌, ℕ, List, Option, Some, length, slice_get}
use Rattle.ls_checked.specs.CheckedTree.{File}
use Rattle.ls_meaning.specs.declared.step.Did.{Did}
use Rattle.ls_meaning.specs.Store.{Store}
use Rattle.ls_search_laws.specs.Configuration.{Configuration}
use Rattle.ls_race_laws.specs.declared.access.Access.{Access}
use Rattle.ls_race_laws.specs.declared.access.Kind.{Kind}
use Rattle.ls_race_laws.specs.Accesses.{Conflict, Volatile}
use Rattle.ls_race_laws.specs.Meeting.{Meets, access_by}
use Rattle.ls_races.specs.declared.meetings.Met.{Met}
use Rattle.ls_races.specs.Races.{IsUntold}

-- the thread's next access is this one
abbrev pub IsNext : List (Option Access) → ℕ → Access → Type 0
IsNext accesses u a = slice_get accesses u ≡ Some (Some a)

-- the accesses of these two threads conflict, and are to a variable of a kind that wasn't told
pub record IsMet (accesses : List (Option Access)) (told : List Kind) (m : Met) : Type 0 where
  pub apart : m.one ≢ m.other
  pub first : Access
  pub second : Access
  pub first_is : IsNext accesses m.one first
  pub second_is : IsNext accesses m.other second
  pub conflict : Conflict first second
  pub kind : first.kind ≡ m.on
  pub untold : IsUntold told m.on

-- the two threads the other way round
abbrev pub swapped : Met → Met
swapped m = record { one = m.other; other = m.one; on = m.on }

-- no two do
abbrev pub NoneMet : List (Option Access) → List Kind → Type 0
NoneMet accesses told = (m : Met) → IsMet accesses told m → ⊥

-- these are the next accesses of the first so many threads
pub record AreNext (volatile : Volatile) (s : Store) (next : ℕ → Did) (threads : ℕ) (accesses : List (Option Access)) :
    Type 0 where
  pub many : length accesses ≡ threads
  pub each : (u : ℕ) → u < threads → slice_get accesses u ≡ Some (access_by volatile s (next u))

-- there is a meeting on a variable of a kind that wasn't told
pub record MeetsUntold (volatile : Volatile) (told : List Kind) (file : File) (c : Configuration) : Type 0 where
  pub on : Kind
  pub untold : IsUntold told on
  pub meets : Meets volatile file c on
