-- The states that a schedule leads to, but for names of objects, where steps lead from them, and where events come.
use Rattle.std.specs.Prelude.{◌≡◌, ◌⊎◌, ◌<◌, ℕ, Bool, true, false, List, [], None, Some, length, map, slice_get}
use Rattle.ls_checked.specs.CheckedTree.{File}
use Rattle.ls_checked.specs.CheckedProgram.{Program}
use Rattle.ls_meaning.specs.Runs.{source_run}
use Rattle.ls_graph.specs.Found.{IsGrown}
use Rattle.ls_graph.specs.Graph.{IsGraph}
use Rattle.ls_graph.specs.declared.closing.Edge.{Edge}
use Rattle.ls_search_laws.specs.Configuration.{configuration_of, stride}
use Rattle.ls_search_laws.specs.Noticing.{Noticed}
use Rattle.ls_search_laws.specs.Stepping.{events_of}
use Rattle.ls_transitions.specs.Tables.{Table}
use Rattle.ls_transitions.specs.Seen.{table_of}
use Rattle.ls_search.specs.Places as places
use Rattle.ls_search.specs.Space.{GoesTo, IsEnd, Rests}
use Rattle.ls_search.specs.declared.space.Kept.{Kept}
use Rattle.ls_search.specs.declared.space.Wanted.TheVariants.{Nothing}
use Rattle.ls_spinning.specs.Mute.{no_note, nothing_noted}
use Rattle.ls_spinning.specs.declared.states.Led.{Led}

-- a state, of whose history nothing is noted
abbrev pub Place : Type 0
Place = Noticed (Unit {0})

abbrev pub place_of : Table → Kept → Place
place_of t n = record { configuration = places.configuration_of t n.place; noted = tt }

abbrev pub places_of : Table → List Kept → List Place
places_of t nodes = map (place_of t) nodes

-- what they are is known
abbrev pub AreThere : Table → List Kept → Type 0
AreThere t nodes = (at : ℕ) (n : Kept) → slice_get nodes at ≡ Some n → places.IsThere t n.place

-- The graph of a program's states. It begins with the one that comes first.
abbrev pub IsStateGraph : File → Program → Place → List Place → List Edge → List Bool → Type 0
IsStateGraph file program root states edges looked =
    IsGraph (Rests tt nothing_noted file program no_note None) (GoesTo tt nothing_noted file program)
    (IsEnd no_note (λ m. false) Nothing file) (length program.threads) root states edges looked

-- so it is of the states that a schedule leads to
pub record IsLed (file : File) (program : Program) (schedule : List ℕ) (l : Led) : Type 0 where
  pub file_is : (table_of l.tables.transitions).file ≡ file
  pub there : AreThere (table_of l.tables.transitions) l.closing.graph.found.nodes.items
  pub grown : IsGrown l.closing.graph
  pub graph : IsStateGraph file program
      (record { configuration = configuration_of file program (source_run file program schedule); noted = tt })
      (places_of (table_of l.tables.transitions) l.closing.graph.found.nodes.items) l.closing.graph.edges.items
      l.closing.looked.items

module _ (file : File) where
  -- the step of a thread there has an event
  abbrev pub IsLoud : Place → ℕ → Type 0
  IsLoud p u = events_of u (stride file p.configuration u).did ≡ [] → ⊥

  abbrev pub IsSilent : Place → ℕ → Type 0
  IsSilent p u = events_of u (stride file p.configuration u).did ≡ []

  -- a thread's step there has an event
  abbrev pub IsLoudAt : List Place → ℕ → Type 0
  IsLoudAt states at = (p : Place) × (slice_get states at ≡ Some p) × (u : ℕ) × IsLoud p u

  -- So it is of each state that is marked. Of the first so many edges none has an event that leads from another.
  pub record AreLoud (states : List Place) (edges : List Edge) (count : ℕ) (marks : List Bool) : Type 0 where
    pub only : (at : ℕ) → slice_get marks at ≡ Some true → IsLoudAt states at
    pub others : (i : ℕ) (e : Edge) (p : Place) → i < count → slice_get edges i ≡ Some e →
        slice_get states e.from ≡ Some p →
        (slice_get marks e.from ≡ Some true) ⊎ IsSilent p e.actor
