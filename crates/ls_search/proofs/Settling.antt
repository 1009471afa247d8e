-- One more step that is taken at once.
use Rattle.std.proofs.Common.{◌≡◌, ◌≢◌, ◌⊎◌, inl, inr, ℕ, ◌+◌, ◌<◌, Bool, true, false, not, List, [], ◌∷◌}
use Rattle.std.proofs.Common.{◌++◌, length, Option, Some, refl, sym, ap, ◌∙◌, subst, replicate}
use Rattle.std.specs.Prelude.{nat_eq, slice_get, slice_set, if◌then◌else◌}
use Rattle.std.proofs.lemmas.Bool.Decides.{eqb_tells}
use Rattle.ls_events.specs.declared.value.Value.{Value}
use Rattle.ls_events.specs.declared.action.Action.{Action}
use Rattle.ls_events.specs.declared.action.Action.TheVariants.{Turn, Enter}
use Rattle.ls_events.specs.declared.action.Answer.{Answer}
use Rattle.ls_checked.specs.CheckedTree.{File}
use Rattle.ls_meaning.specs.Runs.{has_ended}
use Rattle.ls_search_laws.specs.AtOnce.{Choice}
use Rattle.ls_search_laws.specs.Configuration.{Configuration, Stride, stride}
use Rattle.ls_search_laws.specs.Search.{IsPrompt, LeadsTo}
use Rattle.ls_search_laws.proofs.Acting.{replicate_last}
use Rattle.ls_transitions.specs.declared.moves.Step.{Step}
use Rattle.ls_transitions.specs.Tables.{Table, Grows}
use Rattle.ls_transitions.proofs.Keeping.{still_below}
use Rattle.ls_search.specs.Places.{AreThere, configuration_at, goes_with}
use Rattle.ls_search.specs.Strides.{ActsBy, HasStarted, IsAtOnce, at_once}
use Rattle.ls_search.proofs.Strides.{goes_on_still, set_elsewhere, set_here}

some_is : {A : Type 0} {x y : A} → Some x ≡ Some y → x ≡ y
some_is h = cc

leads_on : (quiet : Choice) (file : File) (c : Configuration) (ts : List ℕ) (last : Configuration) (t : ℕ) →
    LeadsTo quiet file c ts last →
    IsPrompt quiet file last t →
    LeadsTo quiet file c (ts ++ t ∷ []) (stride file last t).after
leads_on quiet file c [] last t e h = (
  subst (λ (k : Configuration). IsPrompt quiet file k t) (sym e) h,
  ap (λ (k : Configuration). (stride file k
      t).after) e,
)
leads_on quiet file c (u ∷ us) last t h is = (h.0, leads_on quiet file (stride file c u).after us last t h.1 is)

pub not_same : (u v : ℕ) → u ≢ v → nat_eq u v ≡ false
not_same u v other = by_test (eqb_tells u v)
  where
    by_test : ((nat_eq u v ≡ true) × (u ≡ v)) ⊎ ((nat_eq u v ≡ false) × (u ≢ v)) → nat_eq u v ≡ false
    by_test (inl e) = absurd (other e.1)
    by_test (inr e) = e.0

chosen : (u : ℕ) (action : Action Value) (answer : Answer Value) → u ≢ 0 → IsAtOnce action →
    at_once u action answer ≡ true
chosen u Turn answer other h = ap not (not_same u 0 other)
chosen u (Enter m) answer other h = ap not (not_same u 0 other)
chosen u _ answer other h = absurd h

-- ---- numbers after a step

works_after : (works : List ℕ) (u x limit : ℕ) → x < limit →
    ((v w : ℕ) → slice_get works v ≡ Some w → w < limit) →
    (v w : ℕ) →
    u < length works →
    slice_get (slice_set works u x) v ≡ Some w →
    w < limit
works_after works u x limit less before v w within e = by_test (eqb_tells v u)
  where
    by_test : ((nat_eq v u ≡ true) × (v ≡ u)) ⊎ ((nat_eq v u ≡ false) × (v ≢ u)) → w < limit
    by_test (inl same) =
        let is : x ≡ w = some_is (sym (set_here works u x within) ∙ ap (slice_get (slice_set works u x)) (sym same.1)
        ∙ e) in
        subst (λ k. k < limit) is less
    by_test (inr other) = before v w (sym (set_elsewhere works u v x other.1) ∙ e)

module _ (mid new : Table) (store : ℕ) (works : List ℕ) (u : ℕ) (step : Step) (s : Stride)
    (there : AreThere mid store works) (grows : Grows mid new) (acts : ActsBy new works u step s)
    (within : u < length works) where
  pub there_after : AreThere new step.store (slice_set works u step.work)
  there_after = record {
    store_there = acts.store_there;
    works_there = λ v w e. works_after works u step.work (length new.works) acts.work_there
        (λ v w e. still_below mid.works new.works w grows.works (there.works_there v w e)) v w within e;
  }

  -- the setup is still as it was
  pub started_after : u ≢ 0 → HasStarted (configuration_at mid store works) u →
      HasStarted (configuration_at new step.store (slice_set works u step.work)) u
  started_after other started =
      let isnt : nat_eq u 0 ≡ false = not_same u 0 other in
      let old : Configuration = configuration_at mid store works in
      let after : Configuration = configuration_at new step.store (slice_set works u step.work) in
      let zero_other : 0 ≢ u = λ e. other (sym e) in
      let same : after.continues 0 [] ≡ old.continues 0 [] =
      ap (λ (o : Option ℕ). goes_with new o []) (set_elsewhere works u 0 step.work zero_other)
      ∙ goes_on_still mid new works store 0 [] (slice_get works 0) grows there refl in
      ap (λ (b : Bool). if nat_eq u 0 then true else b) (ap has_ended same) ∙ started

  -- also the setup, which has always started
  pub started_still : HasStarted (configuration_at mid store works) u →
      HasStarted (configuration_at new step.store (slice_set works u step.work)) u
  started_still started = by_test (eqb_tells u 0)
    where
      by_test : ((nat_eq u 0 ≡ true) × (u ≡ 0)) ⊎ ((nat_eq u 0 ≡ false) × (u ≢ 0)) →
          HasStarted (configuration_at new step.store (slice_set works u step.work)) u
      by_test (inl same) =
          ap (λ (b : Bool). if b then true else has_ended ((configuration_at new step.store
          (slice_set works u step.work)).continues 0 [])) same.0
      by_test (inr other) = started_after other.1 started

  pub leads_after : (file : File) (c : Configuration) (n : ℕ) → mid.file ≡ file →
      s ≡ stride mid.file (configuration_at mid store works) u →
      u ≢ 0 →
      IsAtOnce step.action →
      LeadsTo at_once file c (replicate n u) (configuration_at mid store works) →
      LeadsTo at_once file c (replicate (n + 1) u) (configuration_at new step.store (slice_set works u step.work))
  leads_after file c n file_is is other at_it leads =
      let last : Configuration = configuration_at mid store works in
      let strides : stride file last u ≡ s = ap (λ (f : File). stride f last u) (sym file_is) ∙ sym is in
      let prompt : IsPrompt at_once file last u = record {
        action = step.action;
        answer = step.answer;
        did = ap (λ (k : Stride). k.did) (strides ∙ acts.is);
        chosen = chosen u step.action step.answer other at_it;
      } in
      let after : (stride file last u).after ≡ configuration_at new step.store (slice_set works u step.work) =
      ap (λ (k : Stride). k.after) (strides ∙ acts.is) in
      subst (λ (ts : List ℕ). LeadsTo at_once file c ts (configuration_at new step.store (slice_set works u step.work)))
      (sym (replicate_last n u))
      (subst (λ (k : Configuration). LeadsTo at_once file c (replicate n u ++ u ∷ []) k) after
      (leads_on at_once file c (replicate n u) last u leads prompt))
