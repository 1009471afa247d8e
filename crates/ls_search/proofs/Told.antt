-- What a search tells, by the graph that it has found.
use Rattle.std.proofs.Common.{◌≡◌, ℕ, ◌<◌, ◌≤◌, Bool, true, false, List, length, map, None, Some, sym, ap, ◌∙◌}
use Rattle.std.proofs.Common.{subst, arith}
use Rattle.std.specs.Prelude.{slice_get, slice_index_or}
use Rattle.std.specs.List.{fold}
use Rattle.std.proofs.lemmas.List.{length-map}
use Rattle.std.proofs.lemmas.Option.{get_or_from_slice_get}
use Rattle.ls_events.specs.declared.event.Event.{Event}
use Rattle.ls_checked.specs.CheckedTree.{File}
use Rattle.ls_checked.specs.CheckedProgram.{Program}
use Rattle.ls_graph.specs.declared.closing.Edge.{Edge}
use Rattle.ls_graph.specs.Found.{AreFound, AreOnce, HasAny}
use Rattle.ls_graph.specs.Graph.{IsGraph}
use Rattle.ls_graph.specs.Weights.{total}
use Rattle.ls_graph.proofs.Lists.{map_from, map_there, there}
use Rattle.ls_graph.proofs.Weighing.{total_less}
use Rattle.ls_search_laws.specs.Configuration.{Configuration}
use Rattle.ls_search_laws.specs.Noticing.{Noticed, noticed_after}
use Rattle.ls_transitions.specs.Tables.{Table}
use Rattle.ls_search.specs.declared.space.Kept.{Kept}
use Rattle.ls_search.specs.Answers.{IsStuck}
use Rattle.ls_search.specs.Graphs.{ActsAlong, AreNoted, ArePlaced, HaveObjects, LeadsAlong, LeadsTo, states_at}
use Rattle.ls_search.specs.Places.{configuration_of}
use Rattle.ls_search.specs.Searched.{HidesNames, IsLike, IsOther, noticed_at}
use Rattle.ls_search.specs.Space.{GoesTo, Rests, weight_of}
use Rattle.ls_search.proofs.Following.{walk_like}
use Rattle.ls_search.proofs.Likeness.{stuck_other}
use Rattle.ls_search.proofs.Telling.{not_stuck}
use Rattle.ls_search.proofs.Trying.{has_tried, tried_like}

-- where there is a state, the table is of its file
pub file_of_placed : {S : Type 0} (first : S) (nodes : List Kept) (t : Table) (file : File) (states : List S)
    (threads : ℕ) (root : Noticed S) →
    ArePlaced file threads t states nodes →
    slice_get (states_at first t states nodes) 0 ≡ Some root →
    t.file ≡ file
file_of_placed first nodes t file states threads root placed here =
    let k = map_from (λ (n : Kept). noticed_at first t states n.place) nodes 0 root here in
    (placed 0 k.0 k.1).file_is

module _ {N S : Type 0} (stands : N → S) (first : S) (next : S → Event → S) (is_bad : S → Bool)
    (hides : HidesNames next) (file : File) (program : Program) (threads : ℕ) (Ends : Noticed S → Type 0)
    (root : Noticed S) (t : Table) (values : List N) (nodes : List Kept) (edges : List Edge) (looked : List Bool)
    (graph : IsGraph (Rests first next file program stands None) (GoesTo first next file program) Ends threads root
    (states_at first t (map stands values) nodes) edges looked) where
  abbrev states : List (Noticed S)
  states = states_at first t (map stands values) nodes

  abbrev After : List ℕ → Noticed S
  After steps = fold (noticed_after first next file program) root steps

  -- something stands for what is noted at each
  pub noted : AreNoted (length values) nodes → (at : ℕ) (p : Noticed S) → slice_get states at ≡ Some p →
      (n : N) × (stands n ≡ p.noted)
  noted are at p here =
      let k = map_from (λ (n : Kept). noticed_at first t (map stands values) n.place) nodes at p here in
      let v = there values k.0.place.noted (are at k.0 k.1) in (
        v.0,
        sym (get_or_from_slice_get (map stands values) k.0.place.noted (stands v.0) first
            (map_there stands values k.0.place.noted v.0 v.1))
            ∙ ap (λ (q : Noticed S). q.noted) k.2,
      )

  -- none is bad
  pub good : ((at : ℕ) (n : Kept) → slice_get nodes at ≡ Some n →
      is_bad (slice_index_or (map stands values) n.place.noted first) ≡ false) →
      (at : ℕ) (p : Noticed S) → slice_get states at ≡ Some p → is_bad p.noted ≡ false
  good none at p here =
      let k = map_from (λ (n : Kept). noticed_at first t (map stands values) n.place) nodes at p here in
      ap (λ (q : Noticed S). is_bad q.noted) (sym k.2) ∙ none at k.0 k.1

  -- none of those that were looked at is stuck
  pub free : t.file ≡ file →
      ((at : ℕ) (n : Kept) → slice_get nodes at ≡ Some n → slice_get looked at ≡ Some true →
      IsStuck t.file (configuration_of t n.place) → HasAny edges at) →
      (at : ℕ) (p : Noticed S) → slice_get states at ≡ Some p → slice_get looked at ≡ Some true →
      IsStuck file p.configuration → ⊥
  free file_is none at p here done stuck =
      let k = map_from (λ (n : Kept). noticed_at first t (map stands values) n.place) nodes at p here in
      let there : IsStuck t.file (configuration_of t k.0.place) =
      subst (λ (f : File). IsStuck f (configuration_of t k.0.place)) (sym file_is)
      (subst (λ (q : Noticed S). IsStuck file q.configuration) (sym k.2) stuck) in
      not_stuck stands first next file program threads Ends root states edges looked graph at p here
      (none at k.0 k.1 done there) stuck

  -- steps lead to the state at a place, but for names of objects
  pub led_like : (at : ℕ) (n : Kept) (steps : List ℕ) → slice_get nodes at ≡ Some n → LeadsTo edges at steps →
      IsLike (noticed_at first t (map stands values) n.place) (After steps)
  led_like at n steps here leads =
      subst (λ (ts : List ℕ). IsLike (noticed_at first t (map stands values) n.place) (After ts)) (sym leads.is)
      (walk_like first next file program hides states edges graph.led leads.path 0 at root
      (noticed_at first t (map stands values) n.place) graph.begins
      (map_there (λ (m : Kept). noticed_at first t (map stands values) m.place) nodes at n here) leads.walks)

  -- they lead to one that is bad
  pub bad_there : (at : ℕ) (steps : List ℕ) → at < length nodes → LeadsTo edges at steps →
      ((n : Kept) → slice_get nodes at ≡ Some n →
      is_bad (slice_index_or (map stands values) n.place.noted first) ≡ true) →
      is_bad (After steps).noted ≡ true
  bad_there at steps within leads bad =
      let n = there nodes at within in
      ap is_bad (led_like at n.0 steps n.1 leads).noted ∙ bad n.0 n.1

  -- or to one that is stuck
  pub stuck_there : t.file ≡ file → (at : ℕ) (steps : List ℕ) → at < length nodes → LeadsTo edges at steps →
      ((n : Kept) → slice_get nodes at ≡ Some n → IsStuck t.file (configuration_of t n.place)) →
      IsStuck file (After steps).configuration
  stuck_there file_is at steps within leads stuck =
      let n = there nodes at within in
      stuck_other file (configuration_of t n.0.place) (After steps).configuration
      (led_like at n.0 steps n.1 leads).other
      (subst (λ (f : File). IsStuck f (configuration_of t n.0.place)) file_is (stuck n.0 n.1))

  -- where more objects are counted than may be, the states have more
  pub have_objects : (by : List ℕ) (most : ℕ) → AreFound edges (length states) by → AreOnce edges →
      ((at : ℕ) (n : Kept) → slice_get nodes at ≡ Some n → n.weight ≤ weight_of (configuration_of t n.place)) →
      most < total (λ (n : Kept). n.weight) nodes →
      HaveObjects (ActsAlong first next file program root) (LeadsAlong first next file program root) (length states)
      most
  have_objects by most found once few more = record {
    schedules = has_tried first next file program hides root states edges by graph.led graph.begins found once;
    kept = map (λ (n : Kept). configuration_of t n.place) nodes;
    many =
        length-map nodes (λ (n : Kept). configuration_of t n.place)
        ∙ sym (length-map nodes (λ (n : Kept). noticed_at first t (map stands values) n.place));
    reached = λ at s c tried here.
        let k = map_from (λ (n : Kept). configuration_of t n.place) nodes at c here in
        let there : slice_get states at ≡ Some (noticed_at first t (map stands values) k.0.place) =
        map_there (λ (n : Kept). noticed_at first t (map stands values) n.place) nodes at k.0 k.1 in
        subst (λ (d : Configuration). IsOther d (After s.path).configuration) k.2
        (tried_like first next file program hides root states edges by graph.led graph.begins found once at s
        (noticed_at first t (map stands values) k.0.place) tried there).other;
    more =
        let less = total_less (λ (n : Kept). n.weight) weight_of (λ (n : Kept). configuration_of t n.place) nodes few in
        omega (arith, more, less);
  }
