-- What is known of how states were found stays while others are found.
use Rattle.std.proofs.Common.{◌≡◌, ◌⊎◌, inl, inr, ℕ, ◌+◌, ◌<◌, List, [], length, Some, sym, ap}
use Rattle.std.proofs.Common.{◌∙◌, subst, arith, get_or}
use Rattle.std.specs.Prelude.{slice_get}
use Rattle.ls_events.specs.declared.event.Event.{Event}
use Rattle.ls_checked.specs.CheckedTree.{File}
use Rattle.ls_checked.specs.CheckedProgram.{Program}
use Rattle.ls_meaning.specs.Still.{IsActing}
use Rattle.ls_search_laws.specs.Configuration.{stride}
use Rattle.ls_search_laws.specs.Noticing.{Noticed}
use Rattle.ls_transitions.specs.Tables.{Keeps}
use Rattle.ls_transitions.proofs.Keeping.{below}
use Rattle.ls_search.specs.declared.places.Looked.{Looked}
use Rattle.ls_search.specs.declared.places.Looked.TheVariants as looked
use Rattle.ls_search.specs.declared.places.Node.{Node}
use Rattle.ls_search.specs.Listed.{AreDistinct, AreSteps, FoundAs, FoundBy, IsStepOf, paths_of}
use Rattle.ls_search.specs.Searched.{IsLooked}
use Rattle.ls_search.proofs.Apart.{distinct_grown}
use Rattle.ls_search.proofs.Pairs.{pushed_where}
use Rattle.ls_search.proofs.Tracks.{path_there, paths_more}

-- ---- steps

module _ {S : Type 0} (file : File) (old new : List (Noticed S)) (keeps : Keeps old new) (nodes nodes' : List Node)
    (h : AreSteps file old nodes) where
  step_stays : (at : ℕ) (n : Node) → IsStepOf file old at n → IsStepOf file new at n
  step_stays at n s = record {
    one = s.one;
    before = s.before;
    earlier = s.earlier;
    there = keeps n.before s.earlier s.there;
    acts = s.acts;
  }

  pub steps_stay : nodes' ≡ nodes → AreSteps file new nodes'
  steps_stay same at n here later =
      step_stays at n (h at n (ap (λ (l : List Node). slice_get l at) (sym same) ∙ here) later)

  module _ (at thread : ℕ) (p : Noticed S) (within : at < length nodes) (p_here : slice_get old at ≡ Some p) where
    steps_found : IsActing (stride file p.configuration thread).did → FoundBy nodes nodes' at thread 0 →
        AreSteps file new nodes'
    steps_found acts (inl same) i n here later = steps_stay same i n here later
    steps_found acts (inr (node, more, before_is, thread_is, some, few)) i n here later =
        by_place (pushed_where nodes node i n (ap (λ (l : List Node). slice_get l i) (sym more) ∙ here))
      where
        by_place : (slice_get nodes i ≡ Some n) ⊎ ((i ≡ length nodes) × (node ≡ n)) → IsStepOf file new i n
        by_place (inl there) = step_stays i n (h i n there later)
        by_place (inr (last, same)) =
            subst (λ (m : Node). IsStepOf file new i m) same (record {
              one = omega (arith, some, few);
              before = omega (arith, within, last, before_is);
              earlier = p;
              there = ap (slice_get new) before_is ∙ keeps at p p_here;
              acts = subst (λ u. IsActing (stride file p.configuration u).did) (sym thread_is) acts;
            })

    -- with one thread more
    pub steps_looked : (first : S) (next : S → Event → S) (program : Program) (most : ℕ) (l : Looked) → most ≡ 0 →
        IsLooked first next file program new p thread l →
        FoundAs nodes nodes' at thread most l →
        AreSteps file new nodes'
    steps_looked first next program most looked.Idle none is found = steps_stay found
    steps_looked first next program most looked.Waits none is found = steps_stay found
    steps_looked first next program most looked.Acts none is found =
        steps_found is.acts (subst (λ k. FoundBy nodes nodes' at thread k) none found)

-- ---- paths

module _ (nodes nodes' : List Node) (at thread : ℕ) (within : at < length nodes)
    (h : AreDistinct (paths_of nodes) at thread) where
  distinct_stay : nodes' ≡ nodes → AreDistinct (paths_of nodes') at (thread + 1)
  distinct_stay same =
      distinct_grown (paths_of nodes) (paths_of nodes') at thread (get_or (paths_of nodes) at [])
      (path_there nodes at within) (inl (ap paths_of same)) h

  distinct_found : (most : ℕ) → FoundBy nodes nodes' at thread most → AreDistinct (paths_of nodes') at (thread + 1)
  distinct_found most (inl same) = distinct_stay same
  distinct_found most (inr (node, more, before_is, thread_is, some, few)) =
      distinct_grown (paths_of nodes) (paths_of nodes') at thread (get_or (paths_of nodes) at [])
      (path_there nodes at within)
      (inr (paths_more nodes nodes' node at thread more before_is thread_is within)) h

  pub distinct_looked : (most : ℕ) (l : Looked) → FoundAs nodes nodes' at thread most l →
      AreDistinct (paths_of nodes') at (thread + 1)
  distinct_looked most looked.Idle found = distinct_stay found
  distinct_looked most looked.Waits found = distinct_stay found
  distinct_looked most looked.Acts found = distinct_found most found

-- one state alone
pub steps_first : {S : Type 0} (file : File) (pairs : List (Noticed S)) (nodes : List Node) → length nodes ≡ 1 →
    AreSteps file pairs nodes
steps_first file pairs nodes one at n here later =
    absurd (let b = below nodes at n here in omega (arith, b, one, later))
