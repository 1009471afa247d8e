-- The states of a program with what is noted, as nodes of a graph.
use Rattle.std.specs.Prelude.{◌≡◌, ◌⊎◌, ◌≤◌, ℕ, Bool, true, List, None, Option, Some}
use Rattle.ls_events.specs.declared.event.Event.{Event}
use Rattle.ls_checked.specs.CheckedTree.{File}
use Rattle.ls_checked.specs.CheckedProgram.{Program}
use Rattle.ls_meaning.specs.Constants.{FileHasConstants}
use Rattle.ls_meaning.specs.Still.{IsActing, IsStill}
use Rattle.ls_meaning.specs.declared.step.Did.{Did}
use Rattle.ls_meaning.specs.declared.step.Did.TheVariants as did
use Rattle.ls_search_laws.specs.Configuration.{Configuration, stride}
use Rattle.ls_search_laws.specs.Noticing.{Noticed, noticed_after}
use Rattle.ls_transitions.specs.Tables.{Table}
use Rattle.ls_search.specs.declared.places.Looked.{Looked}
use Rattle.ls_search.specs.declared.places.Looked.TheVariants as looked
use Rattle.ls_search.specs.declared.space.Kept.{Kept}
use Rattle.ls_search.specs.declared.space.Wanted.{Wanted}
use Rattle.ls_search.specs.declared.space.Wanted.TheVariants as wanted
use Rattle.ls_search.specs.Answers.{IsStuck}
pub use Rattle.ls_search.specs.Objects.{weight_of}
use Rattle.ls_search.specs.Places.{configuration_of}
use Rattle.ls_search.specs.Searched.{IsNode, Reaches}

-- the numbers stand for a state of a program of this file, for which no more objects are counted than it has
pub record IsPlaced {S : Type 0} (file : File) (threads : ℕ) (t : Table) (states : List S) (n : Kept) : Type 0 where
  pub file_is : t.file ≡ file
  pub constants : FileHasConstants file
  pub node : IsNode t states threads n.place
  pub weight : n.weight ≤ weight_of (configuration_of t n.place)

-- what is seen of a step
abbrev pub IsSeenAs : Looked → Did → Type 0
IsSeenAs looked.Idle d = d ≡ did.Idle
IsSeenAs looked.Waits d = d ≡ did.Waits
IsSeenAs looked.Acts d = IsActing d

-- it is what is left out
abbrev pub IsLost : {N S : Type 0} → (N → S) → Option N → S → Type 0
IsLost stands None m = ⊥
IsLost stands (Some n) m = stands n ≡ m

module _ {S : Type 0} (first : S) (next : S → Event → S) (file : File) (program : Program) where
  -- the thread doesn't act, or what is noted after its step is what is left out
  abbrev pub Rests : {N : Type 0} → (N → S) → Option N → Noticed S → ℕ → Type 0
  Rests stands lost p u =
      IsStill (stride file p.configuration u).did ⊎ IsLost stands lost (noticed_after first next file program p u).noted

  -- the thread acts, and that leads to the other with so many steps at once after it, but for names of objects
  pub record GoesTo (p : Noticed S) (u steps : ℕ) (q : Noticed S) : Type 0 where
    pub acts : IsActing (stride file p.configuration u).did
    pub reaches : Reaches file (noticed_after first next file program p u) q u steps

-- nothing is looked for, or no thread acts and one waits if that is asked
abbrev pub EndsAt : Wanted → File → Configuration → Type 0
EndsAt wanted.Nothing file c = ⊥
EndsAt wanted.Bad file c = Unit {0}
EndsAt wanted.Stuck file c = IsStuck file c

-- whatever stands for what is noted there, it is bad, and the state ends as is asked
pub record IsEnd {N S : Type 0} (stands : N → S) (is_bad : S → Bool) (w : Wanted) (file : File) (p : Noticed S) :
    Type 0 where
  pub bad : (n : N) → stands n ≡ p.noted → is_bad p.noted ≡ true
  pub ends : EndsAt w file p.configuration
