-- States from which steps come to an event or to rest, and states of which nothing more need be known.
use Rattle.std.specs.Prelude.{◌≡◌, ◌⊎◌, ◌<◌, ℕ, Bool, List, [], ◌∷◌, Some, true, false, length, slice_get}
use Rattle.ls_checked.specs.CheckedTree.{File}
use Rattle.ls_meaning.specs.Runs.{has_ended}
use Rattle.ls_meaning.specs.Still.{IsStill}
use Rattle.ls_search_laws.specs.Configuration.{Configuration, stride}
use Rattle.ls_search_laws.specs.Stepping.{events_of}
use Rattle.ls_search.specs.Places.{IsThere, configuration_of}
use Rattle.ls_search.specs.declared.places.Node.{Node}
use Rattle.ls_search.specs.declared.places.Seen.{Seen}
use Rattle.ls_search.specs.declared.places.NumberedState.{NumberedState}
use Rattle.ls_transitions.specs.Tables.{Grows, Table}

-- one of these threads' steps, one after another, has an event; or none of so many threads acts after them
abbrev pub Breaks : File → ℕ → List ℕ → Configuration → Type 0
Breaks file threads [] c = (t : ℕ) → t < threads → IsStill (stride file c t).did
Breaks file threads (u ∷ path) c =
    (events_of u (stride file c u).did ≡ [] → ⊥) ⊎ Breaks file threads path (stride file c u).after

-- so it is of the steps of some threads
abbrev pub CanBreak : File → ℕ → Configuration → Type 0
CanBreak file threads c = (path : List ℕ) × Breaks file threads path c

-- What a state is to which steps lead from another while numbers are added: where steps come from it to an event or to
-- rest, they come there from the other too.
pub record IsAhead (threads : ℕ) (old : Table) (start : NumberedState) (new : Table) (p : NumberedState) : Type 0 where
  pub there : IsThere new p
  pub width : length p.works.items ≡ length start.works.items
  pub ended : true ≡ has_ended ((configuration_of new p).continues 0 [])
  pub grows : Grows old new
  pub back : CanBreak old.file threads (configuration_of new p) → CanBreak old.file threads (configuration_of old start)

-- each state has its numbers, and a work for each of so many threads
abbrev pub AreThere : Table → List Node → ℕ → Type 0
AreThere t nodes threads = (at : ℕ) (node : Node) → slice_get nodes at ≡ Some node →
    IsThere t node.place × (length node.place.works.items ≡ threads)

-- no thread acts at the state; or its history is marked as excused; or steps come from it to an event or to rest
abbrev pub IsFine : File → ℕ → Table → List Bool → List Seen → ℕ → Node → Type 0
IsFine file threads t excused seen at node =
    ((s : Seen) × (slice_get seen at ≡ Some s) × (s.acts ≡ false))
    ⊎ ((slice_get excused node.place.noted ≡ Some true) ⊎ CanBreak file threads (configuration_of t node.place))

-- so it is of each of the first states
abbrev pub AreFine : File → ℕ → Table → List Bool → List Seen → List Node → ℕ → Type 0
AreFine file threads t excused seen nodes count =
    (at : ℕ) (node : Node) → at < count → slice_get nodes at ≡ Some node →
    IsFine file threads t excused seen at node
