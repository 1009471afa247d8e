-- What the graph of the states that a schedule leads to tells of threads that turn for ever.
use Rattle.std.proofs.Common.{◌≡◌, ◌⊎◌, inl, inr, ℕ, ◌<◌, true, Bool, List, [], Some, length, sym, subst, arith}
use Rattle.std.specs.Prelude.{slice_get}
use Rattle.std.proofs.lemmas.List.{length-map}
use Rattle.ls_checked.specs.CheckedTree.{File}
use Rattle.ls_checked.specs.CheckedProgram.{Program}
use Rattle.ls_graph.specs.Found.{HasAny, HaveAny}
use Rattle.ls_graph.specs.Graph.{IsWhole}
use Rattle.ls_graph.specs.declared.closing.Edge.{Edge}
use Rattle.ls_graph.proofs.Lists.{below}
use Rattle.ls_transitions.specs.Seen.{table_of}
use Rattle.ls_transitions.specs.Tables.{Table}
use Rattle.ls_search.specs.declared.space.Kept.{Kept}
use Rattle.ls_spinning.specs.declared.states.Led.{Led}
use Rattle.ls_spinning.specs.Heard.{EachIsHeard}
use Rattle.ls_spinning.specs.States.{AreLoud, IsLed, IsSilent, Place, place_of, places_of}
use Rattle.ls_spinning.specs.Turning.{NeverTurns, TurnsForEver}
use Rattle.ls_spinning.proofs.Hearing.{never_turns}
use Rattle.ls_spinning.proofs.Staying.{turns_for_ever}

module _ (file : File) (program : Program) (schedule : List ℕ) (l : Led) (led : IsLed file program schedule l) where
  abbrev t : Table
  t = table_of l.tables.transitions

  abbrev nodes : List Kept
  nodes = l.closing.graph.found.nodes.items

  abbrev edges : List Edge
  edges = l.closing.graph.edges.items

  abbrev states : List Place
  states = places_of t nodes

  as_many : length states ≡ length nodes
  as_many = length-map nodes (place_of t)

  -- the state that an edge leads from is there
  pub from_within : (i : ℕ) (e : Edge) → slice_get edges i ≡ Some e → e.from < length nodes
  from_within i e here =
      let is = led.graph.led i e here in
      let inside = below states e.from is.one is.here in
      omega (arith, inside, as_many)

  pub any_within : (at : ℕ) → HasAny edges at → at < length nodes
  any_within at has = subst (λ n. n < length nodes) has.3 (from_within has.0 has.1 has.2)

  module _ (whole : IsWhole (length nodes) l.closing.looked.items) (loud : List Bool)
      (marked : AreLoud t.file states edges (length edges) loud) where
    all_looked : IsWhole (length states) l.closing.looked.items
    all_looked = subst (λ n. IsWhole n l.closing.looked.items) (sym as_many) whole

    marked_by : AreLoud file states edges (length edges) loud
    marked_by = subst (λ (f : File). AreLoud f states edges (length edges) loud) led.file_is marked

    -- at each of them some thread acts, and none has an event
    pub turning : ((i : ℕ) (e : Edge) → slice_get edges i ≡ Some e → e.mark ≡ 0) → (left : List Bool) →
        HaveAny edges left →
        ((at : ℕ) → at < length nodes → slice_get left at ≡ Some true) →
        ((at : ℕ) → at < length nodes → slice_get loud at ≡ Some true → ⊥) →
        TurnsForEver file program schedule
    turning single left have all none =
        turns_for_ever file program schedule states edges l.closing.looked.items led.graph all_looked single
        (λ at within. have at (all at (omega (arith, within, as_many)))) silent
      where
        silent : (i : ℕ) (e : Edge) (p : Place) → slice_get edges i ≡ Some e → slice_get states e.from ≡ Some p →
            IsSilent file p e.actor
        silent i e p here state = by_mark (marked_by.others i e p (below edges i e here) here state)
          where
            by_mark : (slice_get loud e.from ≡ Some true) ⊎ IsSilent file p e.actor → IsSilent file p e.actor
            by_mark (inl mark) = absurd (none e.from (from_within i e here) mark)
            by_mark (inr is) = is

-- from each of them at which a thread acts an event can come
pub hearing : (file : File) (program : Program) (l : Led) → IsLed file program [] l →
    IsWhole (length l.closing.graph.found.nodes.items) l.closing.looked.items →
    (loud : List Bool) →
    AreLoud (table_of l.tables.transitions).file
    (places_of (table_of l.tables.transitions) l.closing.graph.found.nodes.items) l.closing.graph.edges.items
    (length l.closing.graph.edges.items) loud →
    EachIsHeard loud l.closing.graph.edges.items →
    NeverTurns file program
hearing file program l led whole loud marked heard =
    never_turns file program
    (places_of (table_of l.tables.transitions) l.closing.graph.found.nodes.items) l.closing.graph.edges.items
    l.closing.looked.items led.graph (all_looked file program [] l led whole loud marked) loud
    (length l.closing.graph.edges.items) (marked_by file program [] l led whole loud marked) heard
