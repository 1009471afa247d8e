-- How many states the graph of a program's states has, and how many objects these have.
use Rattle.std.proofs.Common.{◌≡◌, ◌⊎◌, inl, inr, ◌∙◌, arith, ◌<◌, ◌≤◌, ℕ, Bool, true, false, List, [], Some, None}
use Rattle.std.proofs.Common.{length, map, sym, refl, subst}
use Rattle.std.specs.Prelude.{slice_get}
use Rattle.std.proofs.lemmas.List.{length-map}
use Rattle.ls_checked.specs.CheckedTree.{File}
use Rattle.ls_checked.specs.CheckedProgram.{Program}
use Rattle.ls_graph.specs.declared.closing.Edge.{Edge}
use Rattle.ls_graph.specs.Found.{AreFound, AreOnce}
use Rattle.ls_graph.specs.Graph.{IsGraph, IsWhole}
use Rattle.ls_graph.specs.Weights.{total}
use Rattle.ls_search_laws.specs.Noticing.{Noticed, noticed_of}
use Rattle.ls_transitions.specs.Tables.{Table}
use Rattle.ls_search.specs.declared.space.Kept.{Kept}
use Rattle.ls_search.specs.Graphs.{ActsAlong, LeadsAlong, states_at}
use Rattle.ls_search.specs.Objects.{most_objects}
use Rattle.ls_search.specs.Places.{configuration_of}
use Rattle.ls_search.specs.Searched.{HidesNames, noticed_at}
use Rattle.ls_search.specs.Space.{GoesTo, Rests, weight_of}
use Rattle.ls_search.specs.Verdicts.{ActsAfter, AreAll, AreReached, HaveManyObjects, IsCut}
use Rattle.ls_search.proofs.Closed.{has_closed}
use Rattle.ls_search.proofs.Judging.{acts_of, other_of}
use Rattle.ls_search.proofs.Told.{have_objects}
use Rattle.ls_search.proofs.Trying.{has_tried, objects_if, tried_if}
use Rattle.ls_spinning.specs.Mute.{no_note, nothing_noted}
use Rattle.ls_races.specs.Met.{MeetsUntold}
use Rattle.ls_race_laws.specs.Accesses.{Volatile}
use Rattle.ls_race_laws.specs.declared.access.Kind.{Kind}
use Rattle.ls_races.specs.Extents.{IsRaceExtent, MeetsLate}
use Rattle.ls_races.specs.Sought.{IsRaceGraph}

-- no more than may be kept are
pub few_of : (limit count most : ℕ) → most ≡ limit → (1 ≤ most → count ≤ most) → 1 ≤ limit → count ≤ limit
few_of limit count most same few room =
    subst (λ (n : ℕ). count ≤ n) same (few (subst (λ (n : ℕ). 1 ≤ n) (sym same) room))

-- where there are as many as may be kept, or what is counted of them is too much, they are cut
pub cut_of : (file : File) (program : Program) (limit count most weight all : ℕ) → most ≡ limit →
    weight ≡ most_objects →
    (1 ≤ most → count ≤ most) →
    1 ≤ limit →
    (most ≤ count) ⊎ (weight < all) →
    (most_objects < all → HaveManyObjects file program 0 count) →
    IsCut file program limit 0 count
cut_of file program limit count most weight all same heavy few room (inl full) objects =
    let under = few_of limit count most same few room in inl (omega (arith, full, under, same))
cut_of file program limit count most weight all same heavy few room (inr more) objects =
    inr (objects (subst (λ (n : ℕ). n < all) heavy more))

hides : HidesNames nothing_noted
hides names is m e = refl

abbrev never_bad : Unit {0} → Bool
never_bad m = false

module _ (file : File) (program : Program) (Ends : Noticed (Unit {0}) → Type 0) (t : Table) (values : List Bool)
    (nodes : List Kept) (edges : List Edge) (looked : List Bool) (by : List ℕ)
    (graph : IsGraph (Rests tt nothing_noted file program no_note None) (GoesTo tt nothing_noted file program) Ends
    (length program.threads) (noticed_of tt nothing_noted file program [])
    (states_at tt t (map no_note values) nodes) edges looked)
    (found : AreFound edges (length nodes) by) (once : AreOnce edges) where
  abbrev states : List (Noticed (Unit {0}))
  states = states_at tt t (map no_note values) nodes

  many : length states ≡ length nodes
  many = length-map nodes (λ (n : Kept). noticed_at tt t (map no_note values) n.place)

  found_states : AreFound edges (length states) by
  found_states = subst (λ (n : ℕ). AreFound edges n by) (sym many) found

  -- there are as many schedules
  pub reached : AreReached file program 0 (length nodes)
  reached =
      subst (AreReached file program 0) many
      (tried_if (ActsAlong tt nothing_noted file program (noticed_of tt nothing_noted file program []))
      (ActsAfter file program 0) (length states)
      (λ path u acts. acts_of tt nothing_noted file program 0 path u acts)
      (has_tried tt nothing_noted file program hides (noticed_of tt nothing_noted file program []) states edges by
      graph.led graph.begins found_states once))

  -- where more objects are counted than may be, the states have more
  pub many_objects : ((at : ℕ) (n : Kept) → slice_get nodes at ≡ Some n →
      n.weight ≤ weight_of (configuration_of t n.place)) →
      most_objects < total (λ (n : Kept). n.weight) nodes → HaveManyObjects file program 0 (length nodes)
  many_objects few more =
      subst (HaveManyObjects file program 0) many
      (objects_if (ActsAlong tt nothing_noted file program (noticed_of tt nothing_noted file program []))
      (ActsAfter file program 0)
      (LeadsAlong tt nothing_noted file program (noticed_of tt nothing_noted file program [])) _ (length states)
      most_objects (λ path u acts. acts_of tt nothing_noted file program 0 path u acts)
      (λ path d. other_of tt nothing_noted file program 0 path d)
      (have_objects no_note tt nothing_noted never_bad hides file program (length program.threads) Ends
      (noticed_of tt nothing_noted file program []) t values nodes edges looked graph by most_objects found_states once
      few more))

-- where all were looked at, threads don't leave them
pub all_states : (volatile : Volatile) (told : List Kind) (file : File) (program : Program) (edges : List Edge)
    (count : ℕ) (looked : List Bool) → IsRaceGraph volatile told file program edges count looked →
    IsWhole count looked →
    AreAll file program 0 count
all_states volatile told file program edges count looked found whole =
    subst (AreAll file program 0) found.many
    (has_closed no_note tt nothing_noted file program (length program.threads)
    (λ (p : Noticed (Unit {0})). MeetsUntold volatile told file p.configuration)
    (noticed_of tt nothing_noted file program []) found.states edges looked found.graph
    (subst (λ (n : ℕ). IsWhole n looked) (sym found.many) whole))

not_both : false ≡ true → ⊥
not_both e = cc

-- what is told where all were kept, and where they weren't
module _ (volatile : Volatile) (told : List Kind) (file : File) (program : Program) (limit states : ℕ)
    (within : states ≤ limit) (reached : AreReached file program 0 states) where
  pub whole_extent : AreAll file program 0 states → IsRaceExtent volatile told file program limit states true
  whole_extent all = record {
    within = within;
    reached = reached;
    all = λ e. all;
    cut = λ e. absurd (not_both (sym e));
  }

  pub cut_extent : IsCut file program limit 0 states ⊎ MeetsLate volatile told file program →
      IsRaceExtent volatile told file program limit states false
  cut_extent cut = record {
    within = within;
    reached = reached;
    all = λ e. absurd (not_both e);
    cut = λ e. cut;
  }
