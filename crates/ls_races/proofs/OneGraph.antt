-- What the graph by which turning is read tells of data races.
use Rattle.std.proofs.Common.{◌≡◌, ◌≢◌, ◌⊎◌, inl, inr, ℕ, ◌<◌, ◌≤◌, ◌+◌, [], ◌∙◌, List, None, Some, ap, arith, length}
use Rattle.std.proofs.Common.{subst, sym}
use Rattle.std.proofs.lemmas.Bool.{cases_lt}
use Rattle.std.proofs.lemmas.List.{length-map}
use Rattle.std.specs.Prelude.{slice_get}
use Rattle.ls_checked.specs.CheckedTree.{File}
use Rattle.ls_checked.specs.CheckedProgram.{Program}
use Rattle.ls_graph.specs.Graph.{IsWhole}
use Rattle.ls_graph.proofs.Lists.{map_from, some_is}
use Rattle.ls_race_laws.specs.Accesses.{Volatile}
use Rattle.ls_race_laws.specs.Meeting.{NeverMeets}
use Rattle.ls_race_laws.specs.declared.access.Kind.{Kind}
use Rattle.ls_search.specs.Places as places
use Rattle.ls_search.specs.declared.space.Kept.{Kept}
use Rattle.ls_search.proofs.Strides.{stays}
use Rattle.ls_search_laws.specs.Configuration.{Configuration}
use Rattle.ls_transitions.specs.Seen.{table_of}
use Rattle.ls_transitions.specs.Tables.{Grows, Table}
use Rattle.ls_spinning.specs.States.{AreThere, IsLed, Place, place_of, places_of}
use Rattle.ls_spinning.specs.declared.states.Led.{Led}
use Rattle.ls_races.specs.Met.{MeetsUntold}
use Rattle.ls_races.specs.Sought.{AreQuiet}
use Rattle.ls_races.proofs.Covering.{races_none}

-- accesses that meet at a state meet there by a table that has grown
pub met_later : (volatile : Volatile) (t t' : Table) (n : Kept) → Grows t t' → places.IsThere t n.place →
    MeetsUntold volatile [] t.file (places.configuration_of t n.place) →
    MeetsUntold volatile [] t'.file (places.configuration_of t' n.place)
met_later volatile t t' n grows there meets =
    subst (λ (f : File). MeetsUntold volatile [] f (places.configuration_of t' n.place)) (sym grows.file)
    (subst (λ (k : Configuration). MeetsUntold volatile [] t.file k)
    (sym (stays t t' n.place.store n.place.works.items grows there)) meets)

-- where accesses meet at no state of a table that has grown, they met at none before
pub quiet_before : (volatile : Volatile) (t t' : Table) (nodes : List Kept) → Grows t t' → AreThere t nodes →
    AreQuiet volatile t' nodes →
    AreQuiet volatile t nodes
quiet_before volatile t t' nodes grows there quiet at n here meets =
    quiet at n here (met_later volatile t t' n grows (there at n here) meets)

-- so it is of the first so many states, one more of which was looked at
pub quiet_more : (volatile : Volatile) (t : Table) (nodes : List Kept) (i : ℕ) (n : Kept) → slice_get nodes i ≡ Some n →
    (MeetsUntold volatile [] t.file (places.configuration_of t n.place) → ⊥) →
    ((at : ℕ) (m : Kept) → at < i → slice_get nodes at ≡ Some m →
    MeetsUntold volatile [] t.file (places.configuration_of t m.place) → ⊥) →
    (at : ℕ) (m : Kept) → at < i + 1 → slice_get nodes at ≡ Some m →
    MeetsUntold volatile [] t.file (places.configuration_of t m.place) →
    ⊥
quiet_more volatile t nodes i n here now before at m less there meets = by_place (cases_lt at i)
  where
    by_place : (at < i) ⊎ (i ≤ at) → ⊥
    by_place (inl old) = before at m old there meets
    by_place (inr past) =
        let same : at ≡ i = omega (arith, past, less) in
        let is : m ≡ n = some_is (sym there ∙ ap (slice_get nodes) same ∙ here) in
        now (subst (λ (k : Kept). MeetsUntold volatile [] t.file (places.configuration_of t k.place)) is meets)

nothing_told : (k on : Kind) → None ≡ Some k → k ≢ on
nothing_told k on e = absurd cc

module _ (volatile : Volatile) (file : File) (program : Program) (l : Led) (led : IsLed file program [] l)
    (whole : IsWhole (length l.closing.graph.found.nodes.items) l.closing.looked.items)
    (quiet : AreQuiet volatile (table_of l.tables.transitions) l.closing.graph.found.nodes.items) where
  abbrev t : Table
  t = table_of l.tables.transitions

  abbrev nodes : List Kept
  nodes = l.closing.graph.found.nodes.items

  abbrev states : List Place
  states = places_of t nodes

  no_end : (at : ℕ) (s : Place) → slice_get states at ≡ Some s → MeetsUntold volatile [] file s.configuration → ⊥
  no_end at s here meets =
      let one = map_from (place_of t) nodes at s here in
      quiet at one.0 one.1
      (subst (λ (f : File). MeetsUntold volatile [] f (places.configuration_of t one.0.place)) (sym led.file_is)
      (subst (λ (k : Configuration). MeetsUntold volatile [] file k)
      (sym (ap (λ (p : Place). p.configuration) one.2)) meets))

  -- a whole graph of a program's states, at none of which accesses meet: they meet after no schedule
  pub never_meets : NeverMeets volatile file program
  never_meets schedule on m =
      races_none volatile [] file program l.closing.graph.edges.items (length nodes) l.closing.looked.items
      (record {
        states = states;
        many = length-map nodes (place_of t);
        graph = record {
          begins = led.graph.begins;
          led = led.graph.led;
          told = λ at marked.
              let x = led.graph.told at marked in
              (x.0, λ s here. record { no_end = no_end at s here; told = (x.1 s here).told });
        };
      })
      whole schedule on m (λ i k at. nothing_told k on at)
