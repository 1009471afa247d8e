-- States that were found, as configurations with what is noted.
use Rattle.std.specs.Prelude.{◌≡◌, ℕ, ◌<◌, ◌≤◌, ◌||◌, Bool, true, false, List, Some, length, map, replicate}
use Rattle.std.specs.Prelude.{slice_get, slice_index_or}
use Rattle.std.specs.List.{fold}
use Rattle.ls_events.specs.declared.event.Event.{Event}
use Rattle.ls_checked.specs.CheckedTree.{File}
use Rattle.ls_checked.specs.CheckedProgram.{Program}
use Rattle.ls_meaning.specs.declared.step.Did.TheVariants as did
use Rattle.ls_meaning.specs.Still.{IsActing, IsStill}
use Rattle.ls_meaning.specs.Constants.{FileHasConstants}
use Rattle.ls_meaning.specs.Renamings.{IsRenaming}
use Rattle.ls_search_laws.specs.Configuration.{Configuration, stride}
use Rattle.ls_search_laws.specs.Noticing.{Noticed, noticed_after, renamed_event}
use Rattle.ls_search_laws.specs.Search.{LeadsTo}
use Rattle.ls_transitions.specs.Tables.{Table}
use Rattle.ls_search.specs.declared.places.Looked.{Looked}
use Rattle.ls_search.specs.declared.places.Looked.TheVariants as looked
use Rattle.ls_search.specs.declared.places.Node.{Node}
use Rattle.ls_search.specs.declared.places.NumberedState.{NumberedState}
use Rattle.ls_search.specs.declared.places.Seen.{Seen}
pub use Rattle.ls_search.specs.Objects.{IsOther}
use Rattle.ls_search.specs.Places.{IsThere, configuration_of}
use Rattle.ls_search.specs.Strides.{at_once}

-- its numbers stand for something, and it has a work for each of so many threads
pub record IsNode {S : Type 0} (t : Table) (states : List S) (threads : ℕ) (p : NumberedState) : Type 0 where
  pub numbers : IsThere t p
  pub noted_there : p.noted < length states
  pub width : length p.works.items ≡ threads

-- so it is of states, and the same is noted
pub record IsLike {S : Type 0} (p q : Noticed S) : Type 0 where
  pub other : IsOther p.configuration q.configuration
  pub noted : q.noted ≡ p.noted

-- what is noted shows no names of objects
abbrev pub HidesNames : {S : Type 0} → (S → Event → S) → Type 0
HidesNames {S} next = (names : ℕ → ℕ) → IsRenaming names → (m : S) (e : Event) →
    next m (renamed_event names e) ≡ next m e

-- so many steps of a thread that are taken at once lead from one to the other, but for names of objects
pub record Reaches {S : Type 0} (file : File) (p q : Noticed S) (thread steps : ℕ) : Type 0 where
  pub last : Configuration
  pub leads : LeadsTo at_once file p.configuration (replicate steps thread) last
  pub other : IsOther q.configuration last
  pub noted_still : q.noted ≡ p.noted

-- such steps lead to one of the list
pub record IsIn {S : Type 0} (file : File) (pairs : List (Noticed S)) (p : Noticed S) : Type 0 where
  pub place : ℕ
  pub pair : Noticed S
  pub here : slice_get pairs place ≡ Some pair
  pub thread : ℕ
  pub steps : ℕ
  pub reaches : Reaches file p pair thread steps

-- what is seen with one more thread
abbrev pub acts_of : Looked → Bool
acts_of looked.Idle = false
acts_of looked.Waits = false
acts_of looked.Acts = true

abbrev pub waits_of : Looked → Bool
waits_of looked.Idle = false
waits_of looked.Waits = true
waits_of looked.Acts = false

abbrev pub seen_with : Seen → Looked → Seen
seen_with seen l = record { acts = seen.acts || acts_of l; waits = seen.waits || waits_of l }

module _ {S : Type 0} (first : S) where
  abbrev pub noticed_at : Table → List S → NumberedState → Noticed S
  noticed_at t states p = record {
    configuration = configuration_of t p;
    noted = slice_index_or states p.noted first;
  }

  abbrev pub pairs_at : Table → List S → List Node → List (Noticed S)
  pairs_at t states nodes = map (λ n. noticed_at t states n.place) nodes

module _ {S : Type 0} (first : S) (next : S → Event → S) (file : File) (program : Program) where
  -- it comes after an earlier one by a thread's steps, but for names of objects
  pub record IsAfter (pairs : List (Noticed S)) (node : Node) (p : Noticed S) : Type 0 where
    pub earlier : Noticed S
    pub there : slice_get pairs node.before ≡ Some earlier
    pub is : IsLike p (fold (noticed_after first next file program) earlier (replicate node.steps node.thread))

  -- each comes after an earlier one, but the first
  pub record IsLinked (pairs : List (Noticed S)) (at : ℕ) (node : Node) (p : Noticed S) : Type 0 where
    pub later : node.before < at → IsAfter pairs node p
    pub is_first : at ≤ node.before → at ≡ 0

  pub record IsSound (threads : ℕ) (t : Table) (states : List S) (nodes : List Node) : Type 0 where
    pub file_is : t.file ≡ file
    pub constants : FileHasConstants file
    pub hides : HidesNames next
    pub are : (at : ℕ) (n : Node) → slice_get nodes at ≡ Some n → IsNode t states threads n.place
    pub linked : (at : ℕ) (n : Node) (p : Noticed S) → slice_get nodes at ≡ Some n →
        slice_get (pairs_at first t states nodes) at ≡ Some p → IsLinked (pairs_at first t states nodes) at n p

  -- what a thread does at one of them
  pub record ActsIn (pairs : List (Noticed S)) (p : Noticed S) (u : ℕ) : Type 0 where
    pub acts : IsActing (stride file p.configuration u).did
    pub leads : IsIn file pairs (noticed_after first next file program p u)

  abbrev pub IsLooked : List (Noticed S) → Noticed S → ℕ → Looked → Type 0
  IsLooked pairs p u looked.Idle = (stride file p.configuration u).did ≡ did.Idle
  IsLooked pairs p u looked.Waits = (stride file p.configuration u).did ≡ did.Waits
  IsLooked pairs p u looked.Acts = ActsIn pairs p u

  -- Of so many threads: whatever acting one does leads to one of the list, and it was seen whether one acts and whether
  -- one waits.
  pub record IsExpanded (pairs : List (Noticed S)) (threads : ℕ) (p : Noticed S) (seen : Seen) : Type 0 where
    pub leads : (u : ℕ) → u < threads → IsActing (stride file p.configuration u).did →
        IsIn file pairs (noticed_after first next file program p u)
    pub acting : seen.acts ≡ true → (u : ℕ) × (u < threads) × IsActing (stride file p.configuration u).did
    pub still : seen.acts ≡ false → (u : ℕ) → u < threads → IsStill (stride file p.configuration u).did
    pub waiting : seen.waits ≡ true → (u : ℕ) × (u < threads) × ((stride file p.configuration u).did ≡ did.Waits)
    pub free : seen.waits ≡ false → (u : ℕ) → u < threads → (stride file p.configuration u).did ≡ did.Waits → ⊥

  -- so it is of the first of them
  abbrev pub AreExpanded : List (Noticed S) → ℕ → List Seen → Type 0
  AreExpanded pairs threads seen = (at : ℕ) (p : Noticed S) (s : Seen) → slice_get pairs at ≡ Some p →
      slice_get seen at ≡ Some s → IsExpanded pairs threads p s
