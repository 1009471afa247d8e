-- Steps from a state by numbers while tables grow.
use Rattle.std.proofs.Common.{◌≡◌, ◌≤◌, ℕ, zero, suc, List, [], ◌∷◌, None, Some, length, refl, sym, ap, ◌∙◌, subst}
use Rattle.std.proofs.Common.{arith}
use Rattle.std.specs.Prelude.{slice_get}
use Rattle.ls_checked.specs.CheckedTree.{File}
use Rattle.ls_meaning.specs.declared.step.Did.TheVariants as did
use Rattle.ls_search_laws.specs.Configuration.{Configuration, Stride, idling, stride}
use Rattle.ls_transitions.specs.declared.moves.Step.{Step}
use Rattle.ls_transitions.specs.Tables.{Grows, Table}
use Rattle.ls_search.specs.declared.places.NumberedState.{NumberedState}
use Rattle.ls_search.specs.Objects.{IsOther}
use Rattle.ls_search.specs.Places.{AreThere, IsThere, configuration_at, configuration_of}
use Rattle.ls_search.specs.Strides.{ActsBy}
use Rattle.ls_search.proofs.Likeness.{other_same}
use Rattle.ls_search.proofs.Strides.{missing_by, stays, there_still}
use Rattle.ls_progress.specs.Sorts.{sort_at, sort_of, sort_of_action}
use Rattle.ls_progress.specs.declared.sorts.Sort.TheVariants as sorts
use Rattle.ls_progress.specs.Steps.{IsPlaced, Rests, StepsTo}

-- a step by the numbers of a table that has grown is one of the state in that table
pub acts_still : (t t' : Table) (p : NumberedState) (u : ℕ) (step : Step) → Grows t t' → IsThere t p →
    ActsBy t' p.works.items u step (stride t.file (configuration_of t p) u) →
    ActsBy t' p.works.items u step (stride t'.file (configuration_of t' p) u)
acts_still t t' p u step grows there acts =
    let same = stays t t' p.store p.works.items grows there in
    subst (λ (f : File). ActsBy t' p.works.items u step (stride f (configuration_of t' p) u)) (sym grows.file)
    (subst (λ (k : Configuration). ActsBy t' p.works.items u step (stride t.file k u)) (sym same) acts)

pub placed_still : (file : File) (threads : ℕ) (t t' : Table) (p : NumberedState) → Grows t t' →
    IsPlaced file threads t p →
    IsPlaced file threads t' p
placed_still file threads t t' p grows is = record {
  file_is = grows.file ∙ is.file_is;
  constants = is.constants;
  numbers = there_still t t' p.store p.works.items grows is.numbers;
  width = is.width;
}

-- so it is of the same numbers
pub stayed_placed : (file : File) (threads : ℕ) (t t' : Table) (p q : NumberedState) → Grows t t' →
    IsPlaced file threads t p →
    q.store ≡ p.store →
    q.works.items ≡ p.works.items →
    IsPlaced file threads t' q
stayed_placed file threads t t' p q grows is store works =
    let placed = placed_still file threads t t' p grows is in
    record {
      file_is = placed.file_is;
      constants = placed.constants;
      numbers = subst (λ l. AreThere t' q.store l) (sym works)
          (subst (λ n. AreThere t' n p.works.items) (sym store) placed.numbers);
      width = ap length works ∙ placed.width;
    }

-- ---- where a step leads

-- one that does nothing
pub rests_by : (file : File) (t : Table) (p : NumberedState) (u : ℕ) → t.file ≡ file →
    stride t.file (configuration_of t p) u ≡ idling (configuration_of t p) →
    Rests file (configuration_of t p) u
rests_by file t p u is e =
    ap (λ (f : File). (stride f (configuration_of t p) u).did) (sym is) ∙ ap (λ (s : Stride). s.did) e

-- one that waits
pub waits_by : (file : File) (t t' : Table) (p q : NumberedState) (u mark : ℕ) → t.file ≡ file → Grows t t' →
    IsThere t p →
    stride t.file (configuration_of t p) u ≡ record { did = did.Waits; after = configuration_of t p } →
    sort_at mark ≡ sorts.Waits →
    q.store ≡ p.store →
    q.works.items ≡ p.works.items →
    StepsTo file (configuration_of t p) u mark (configuration_of t' q)
waits_by file t t' p q u mark is grows there e marked store works =
    subst (λ (f : File). StepsTo f (configuration_of t p) u mark (configuration_of t' q)) is (record {
      sort = ap (λ (s : Stride). sort_of s.did) e ∙ ap Some (sym marked);
      other = subst (IsOther (configuration_of t' q)) (same ∙ sym (ap (λ (s : Stride). s.after) e))
          (other_same (configuration_of t' q));
    })
  where
    same : configuration_of t' q ≡ configuration_of t p
    same = (λ i. configuration_at t' (store i) (works i)) ∙ stays t t' p.store p.works.items grows there

-- one that acts
pub acts_by : (file : File) (t t' : Table) (p q : NumberedState) (u mark : ℕ) (step : Step) (t'' : Table) →
    t.file ≡ file →
    Grows t t' →
    IsThere t p →
    ActsBy t' p.works.items u step (stride t'.file (configuration_of t' p) u) →
    sort_at mark ≡ sort_of_action step.action →
    IsOther (configuration_of t'' q) (stride t'.file (configuration_of t' p) u).after →
    StepsTo file (configuration_of t p) u mark (configuration_of t'' q)
acts_by file t t' p q u mark step t'' is grows there acts marked other =
    subst (λ (f : File). StepsTo f (configuration_of t p) u mark (configuration_of t'' q)) (grows.file ∙ is)
    (subst (λ (k : Configuration). StepsTo t'.file k u mark (configuration_of t'' q))
    (stays t t' p.store p.works.items grows there) (record {
      sort = ap (λ (s : Stride). sort_of s.did) acts.is ∙ ap Some (sym marked);
      other = other;
    }))

-- ---- threads that aren't there

pub others_rest : (file : File) (threads : ℕ) (t : Table) (p : NumberedState) → IsPlaced file threads t p → (u : ℕ) →
    threads ≤ u →
    Rests file (configuration_of t p) u
others_rest file threads t p is u past =
    rests_by file t p u is.file_is
    (missing_by t t u p.store p.works.items (none_there p.works.items u (omega (arith, past, is.width))))
  where
    none_there : (works : List ℕ) (v : ℕ) → length works ≤ v → slice_get works v ≡ None
    none_there [] v h = refl
    none_there (x ∷ works) zero h = absurd (omega (arith, h))
    none_there (x ∷ works) (suc v) h = none_there works v (omega (arith, h))
