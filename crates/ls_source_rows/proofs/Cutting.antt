-- The schedules of the states that were found, where there are as many as there may be.
use Rattle.std.proofs.Common.{◌≡◌, inl, inr, ℕ, zero, suc, ◌<◌, List, [], ◌∷◌, ◌++◌, length, map, Some, refl, sym}
use Rattle.std.proofs.Common.{ap, ◌∙◌, subst, arith, replicate, get_or}
use Rattle.std.specs.Prelude.{slice_get}
use Rattle.std.specs.List.{fold}
use Rattle.std.proofs.lemmas.List.{length-map}
use Rattle.std.proofs.lemmas.Option.{get_or_from_slice_get, slice_get_within}
use Rattle.ls_events.specs.declared.event.Event.{Event}
use Rattle.ls_checked.specs.CheckedTree.{File}
use Rattle.ls_checked.specs.CheckedProgram.{Program}
use Rattle.ls_meaning.specs.Runs.{source_run}
use Rattle.ls_search_laws.specs.Configuration.{Configuration, configuration_of as configuration_after}
use Rattle.ls_search_laws.specs.Noticing.{Noticed, noticed_after, noticed_of}
use Rattle.ls_transitions.specs.Tables.{Table}
use Rattle.ls_transitions.proofs.Keeping.{there}
use Rattle.ls_search.specs.declared.places.Node.{Node}
use Rattle.ls_search.specs.Listed.{AreCut, AreSteps, IsStepOf, StandOnce, objects_of, paths_of}
use Rattle.ls_search.specs.Objects.{most_objects}
use Rattle.ls_search.specs.Places.{configuration_of}
use Rattle.ls_search.specs.Searched.{IsOther, IsSound, noticed_at, pairs_at}
use Rattle.ls_search.specs.Tried.{GoesOn, HasTried, Tried}
use Rattle.ls_search.specs.Verdicts.{ActsAfter, HaveManyObjects, IsCut}
use Rattle.ls_search.proofs.Counting.{objects_of_states}
use Rattle.ls_search.proofs.Judging.{acts_of, other_of}
use Rattle.ls_search.proofs.Likeness.{acting_other}
use Rattle.ls_search.proofs.Pairs.{map_from, map_there}
use Rattle.ls_search.proofs.Tracks.{length-paths, path_none, path_on, path_there}
use Rattle.ls_source_rows.proofs.Reached.{Leads, leads, pairs_within}

some_is : {A : Type 0} {x y : A} → Some x ≡ Some y → x ≡ y
some_is h = cc

nothing : {A : Type 0} (at : ℕ) (x : A) → slice_get [] at ≡ Some x → ⊥
nothing at x here = cc

-- ---- states with their paths

-- a state with the path to it, as a schedule that goes on from another
abbrev tried_of : Node → List ℕ → Tried
tried_of n path = record { before = n.before; thread = n.thread; path = path }

abbrev all_tried : List Node → List (List ℕ) → List Tried
all_tried [] paths = []
all_tried (n ∷ nodes) [] = []
all_tried (n ∷ nodes) (path ∷ paths) = tried_of n path ∷ all_tried nodes paths

length-tried : (nodes : List Node) (paths : List (List ℕ)) → length paths ≡ length nodes →
    length (all_tried nodes paths) ≡ length nodes
length-tried [] paths same = refl
length-tried (n ∷ nodes) [] same = absurd (omega (arith, same))
length-tried (n ∷ nodes) (path ∷ paths) same = omega (arith, length-tried nodes paths (omega (arith, same)))

tried_there : (nodes : List Node) (paths : List (List ℕ)) (at : ℕ) (n : Node) (path : List ℕ) →
    slice_get nodes at ≡ Some n →
    slice_get paths at ≡ Some path →
    slice_get (all_tried nodes paths) at ≡ Some (tried_of n path)
tried_there [] paths at n path n_is path_is = absurd (nothing at n n_is)
tried_there (m ∷ nodes) [] at n path n_is path_is = absurd (nothing at path path_is)
tried_there (m ∷ nodes) (first ∷ paths) zero n path n_is path_is =
    let same : m ≡ n = some_is n_is in
    let one : first ≡ path = some_is path_is in
    λ i. Some (tried_of (same i) (one i))
tried_there (m ∷ nodes) (first ∷ paths) (suc at) n path n_is path_is = tried_there nodes paths at n path n_is path_is

-- the state and the path that a schedule is of
record IsTriedAt (nodes : List Node) (paths : List (List ℕ)) (at : ℕ) (s : Tried) : Type 0 where
  node : Node
  here : slice_get nodes at ≡ Some node
  path : List ℕ
  path_is : slice_get paths at ≡ Some path
  is : tried_of node path ≡ s

tried_at : (nodes : List Node) (paths : List (List ℕ)) (at : ℕ) (s : Tried) →
    slice_get (all_tried nodes paths) at ≡ Some s →
    IsTriedAt nodes paths at s
tried_at [] paths at s here = absurd (nothing at s here)
tried_at (n ∷ nodes) [] at s here = absurd (nothing at s here)
tried_at (n ∷ nodes) (path ∷ paths) zero s here =
    record { node = n; here = refl; path = path; path_is = refl; is = some_is here }
tried_at (n ∷ nodes) (path ∷ paths) (suc at) s here =
    let deeper = tried_at nodes paths at s here in
    record {
      node = deeper.node;
      here = deeper.here;
      path = deeper.path;
      path_is = deeper.path_is;
      is = deeper.is;
    }

-- ---- what was found

module _ {S : Type 0} (first : S) (next : S → Event → S) (file : File) (program : Program) (k : ℕ) (t : Table)
    (states : List S) (nodes : List Node)
    (sound : IsSound first next file program (length program.threads) t states nodes)
    (steps : AreSteps file (pairs_at first t states nodes) nodes)
    (begins : slice_get (pairs_at first t states nodes) 0 ≡ Some (noticed_of first next file program (replicate k 0)))
    (once : StandOnce (paths_of nodes)) where
  abbrev pairs : List (Noticed S)
  pairs = pairs_at first t states nodes

  abbrev path_at : ℕ → List ℕ
  path_at at = get_or (paths_of nodes) at []

  abbrev After : List ℕ → Noticed S
  After path = fold (noticed_after first next file program) (noticed_of first next file program (replicate k 0)) path

  abbrev tried : List Tried
  tried = all_tried nodes (paths_of nodes)

  led : (at : ℕ) (n : Node) → slice_get nodes at ≡ Some n →
      Leads first next file program (length program.threads) t states nodes sound steps
      (noticed_of first next file program (replicate k 0)) begins at (noticed_at first t states n.place)
  led at n here =
      leads first next file program (length program.threads) t states nodes sound steps
      (noticed_of first next file program (replicate k 0)) begins at n here

  is_path : (at : ℕ) (path : List ℕ) → slice_get (paths_of nodes) at ≡ Some path → get_or (paths_of nodes) at [] ≡ path
  is_path at path here = get_or_from_slice_get (paths_of nodes) at path [] here

  goes_on : (at : ℕ) (n : Node) (path : List ℕ) → slice_get nodes at ≡ Some n →
      slice_get (paths_of nodes) at ≡ Some path →
      0 < at →
      GoesOn (ActsAfter file program k) (all_tried nodes (paths_of nodes)) at (tried_of n path)
  goes_on at n path here path_is past =
      let s : IsStepOf file (pairs_at first t states nodes) at n = steps at n here past in
      let within : n.before < length nodes =
      pairs_within first next file program (length program.threads) t states nodes sound steps
      (noticed_of first next file program (replicate k 0)) begins n.before s.earlier s.there in
      let m = there nodes n.before within in
      let same : noticed_at first t states m.0.place ≡ s.earlier =
      some_is (sym (map_there (λ (x : Node). noticed_at first t states x.place) nodes n.before m.0 m.1) ∙ s.there) in
      let to = subst (λ (p : Noticed S). IsOther p.configuration (After (path_at n.before)).configuration) same
      (led n.before m.0 m.1).to.other in
      record {
        earlier = tried_of m.0 (path_at n.before);
        there = tried_there nodes (paths_of nodes) n.before m.0 (path_at n.before) m.1
            (path_there nodes n.before within);
        before = s.before;
        acting = acts_of first next file program k (path_at n.before) n.thread
            (acting_other file s.earlier.configuration (After (path_at n.before)).configuration to n.thread s.acts);
        more = 0;
        is = sym (is_path at path path_is) ∙ path_on nodes at n here s.before;
      }

  none_first : (n : Node) (path : List ℕ) → slice_get nodes 0 ≡ Some n → slice_get (paths_of nodes) 0 ≡ Some path →
      path ≡ []
  none_first n path here path_is = sym (is_path 0 path path_is) ∙ path_none nodes 0 n here (omega arith)

  apart : (i j : ℕ) (n m : Node) → slice_get nodes i ≡ Some n → slice_get nodes j ≡ Some m → 0 < i → 0 < j →
      n.before ≡ m.before →
      n.thread ≡ m.thread →
      i ≡ j
  apart i j n m n_is m_is i_past j_past before thread =
      let one : path_at i ≡ path_at n.before ++ n.thread ∷ [] =
      path_on nodes i n n_is (steps i n n_is i_past).before in
      let other : path_at j ≡ path_at m.before ++ m.thread ∷ [] =
      path_on nodes j m m_is (steps j m m_is j_past).before in
      let both : path_at n.before ++ n.thread ∷ [] ≡ path_at m.before ++ m.thread ∷ [] =
      λ x. path_at (before x) ++ thread x ∷ [] in
      let i_there : slice_get (paths_of nodes) i ≡ Some (path_at i) =
      path_there nodes i (slice_get_within nodes i n n_is) in
      let j_there : slice_get (paths_of nodes) j ≡ Some (path_at j) =
      path_there nodes j (slice_get_within nodes j m m_is) in
      once i j (path_at i) i_there (j_there ∙ ap Some (sym (one ∙ both ∙ sym other)))

  pub has_tried : HasTried (ActsAfter file program k) (length nodes)
  has_tried = record {
    tried = all_tried nodes (paths_of nodes);
    many = length-tried nodes (paths_of nodes) (length-paths nodes);
    are = record {
      first = λ s here.
          let a = tried_at nodes (paths_of nodes) 0 s here in
          sym (ap (λ (x : Tried). x.path) a.is) ∙ none_first a.node a.path a.here a.path_is;
      on = λ at s here past.
          let a = tried_at nodes (paths_of nodes) at s here in
          subst (GoesOn (ActsAfter file program k) (all_tried nodes (paths_of nodes)) at) a.is
          (goes_on at a.node a.path a.here a.path_is past);
      once = λ i j s r s_here r_here i_past j_past before thread.
          let a = tried_at nodes (paths_of nodes) i s s_here in
          let b = tried_at nodes (paths_of nodes) j r r_here in
          apart i j a.node b.node a.here b.here i_past j_past
          (ap (λ (x : Tried). x.before) a.is ∙ before ∙ sym (ap (λ (x : Tried). x.before) b.is))
          (ap (λ (x : Tried). x.thread) a.is ∙ thread ∙ sym (ap (λ (x : Tried). x.thread) b.is));
    };
  }

  -- where the states have too many objects together
  have_many : most_objects < objects_of t nodes → HaveManyObjects file program k (length nodes)
  unfolding has_tried
  have_many more = record {
    schedules = has_tried;
    kept = map (λ (n : Node). configuration_of t n.place) nodes;
    many = length-map nodes (λ (n : Node). configuration_of t n.place);
    reached = λ at s c tried_so here.
        let a = tried_at nodes (paths_of nodes) at s tried_so in
        let n = map_from (λ (x : Node). configuration_of t x.place) nodes at c here in
        let path : path_at at ≡ s.path = is_path at a.path a.path_is ∙ ap (λ (x : Tried). x.path) a.is in
        let to = subst (λ (d : Configuration). IsOther d (After (path_at at)).configuration) n.2
        (led at n.0 n.1).to.other in
        subst (λ (p : List ℕ). IsOther c (configuration_after file program
        (source_run file program (replicate k 0 ++ p)))) path
        (other_of first next file program k (path_at at) c to);
    more = objects_of_states t most_objects nodes more;
  }

  pub is_cut : (limit : ℕ) → AreCut t limit nodes → IsCut file program limit k (length nodes)
  is_cut limit (inl full) = inl full
  is_cut limit (inr more) = inr (have_many more)
