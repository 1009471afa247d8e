-- The states of a program as nodes of a graph, and what is told of them.
use Rattle.std.specs.Prelude.{◌≡◌, ◌<◌, ◌+◌, ℕ, List, [], ◌∷◌, ◌++◌, Some, length, map, replicate, slice_get}
use Rattle.std.specs.List.{fold}
use Rattle.ls_events.specs.declared.event.Event.{Event}
use Rattle.ls_graph.specs.declared.closing.Edge.{Edge}
use Rattle.ls_graph.specs.Walks.{Walks}
use Rattle.ls_checked.specs.CheckedTree.{File}
use Rattle.ls_checked.specs.CheckedProgram.{Program}
use Rattle.ls_meaning.specs.Still.{IsActing}
use Rattle.ls_search_laws.specs.Configuration.{Configuration, stride}
use Rattle.ls_search_laws.specs.Noticing.{Noticed, noticed_after}
use Rattle.ls_transitions.specs.Tables.{Table}
use Rattle.ls_search.specs.declared.space.Kept.{Kept}
pub use Rattle.ls_search.specs.Objects.{HaveObjects, most_objects}
use Rattle.ls_search.specs.Objects.{IsOther}
use Rattle.ls_search.specs.Places.{IsThere}
use Rattle.ls_search.specs.Searched.{noticed_at}
use Rattle.ls_search.specs.Space.{IsPlaced}

-- ---- walks

-- the threads of the steps along edges, with those that are taken at once
abbrev pub steps_along : List Edge → List ℕ
steps_along [] = []
steps_along (e ∷ path) = replicate (e.mark + 1) e.actor ++ steps_along path

-- these steps lead along edges from the first state to the one at a place
pub record LeadsTo (edges : List Edge) (at : ℕ) (steps : List ℕ) : Type 0 where
  pub path : List Edge
  pub walks : Walks edges 0 path at
  pub is : steps ≡ steps_along path

-- ---- steps from a state on

module _ {S : Type 0} (first : S) (next : S → Event → S) (file : File) (program : Program) (root : Noticed S) where
  -- the thread acts after these steps
  abbrev pub ActsAlong : List ℕ → ℕ → Type 0
  ActsAlong path u =
      IsActing (stride file (fold (noticed_after first next file program) root path).configuration u).did

  -- they lead to the state, but for names of objects
  abbrev pub LeadsAlong : List ℕ → Configuration → Type 0
  LeadsAlong path c = IsOther c (fold (noticed_after first next file program) root path).configuration

-- ---- states by numbers

-- the states of nodes, with what is noted at each
abbrev pub states_at : {S : Type 0} → S → Table → List S → List Kept → List (Noticed S)
states_at first t states nodes = map (λ (n : Kept). noticed_at first t states n.place) nodes

-- each stands for a state of a program of this file
abbrev pub ArePlaced : {S : Type 0} → File → ℕ → Table → List S → List Kept → Type 0
ArePlaced file threads t states nodes =
    (at : ℕ) (n : Kept) → slice_get nodes at ≡ Some n → IsPlaced file threads t states n

-- what is noted at each has a number below this one
abbrev pub AreNoted : ℕ → List Kept → Type 0
AreNoted count nodes = (at : ℕ) (n : Kept) → slice_get nodes at ≡ Some n → n.place.noted < count

-- their numbers stand for something, and each has a work for each of so many threads
abbrev pub AreWide : Table → ℕ → List Kept → Type 0
AreWide t threads nodes =
    (at : ℕ) (n : Kept) → slice_get nodes at ≡ Some n → IsThere t n.place × (length n.place.works.items ≡ threads)
