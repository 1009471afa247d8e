-- Pairs that are known, and steps among them, one more.
use Rattle.std.proofs.Common.{◌≡◌, ◌==◌, ◌⊎◌, inl, inr, false, ℕ, zero, suc, ◌<◌, ◌≤◌, List, [], ◌∷◌, ◌++◌, Option}
use Rattle.std.proofs.Common.{Some, None}
use Rattle.std.proofs.Common.{Contains, IfSome, length, slice_get, refl, sym}
use Rattle.std.proofs.Common.{ap, ◌∙◌, subst, arith, append_assoc, append-nil}
use Rattle.std.proofs.Common.{get_or, length-append}
use Rattle.std.proofs.lemmas.Bool.Decides.{nat_tests}
use Rattle.std.proofs.lemmas.List.Elements.{Contains-push_cases}
use Rattle.std.specs.declared.vec.Vec.{Vec}
use Rattle.std.specs.declared.alloc.Global.{Global}
use Rattle.ls_events.specs.declared.event.Event.{Event}
use Rattle.ls_serial.proofs.Lists.{is_get}
use Rattle.ls_automaton.specs.declared.outcome.Outcome.{Outcome}
use Rattle.ls_automaton.specs.declared.pairs.Pair.{Pair}
use Rattle.ls_automaton.specs.Held.{helds_of, leaves_none}
use Rattle.ls_automaton.proofs.Reaching.{get_last}
use Rattle.ls_linearizable.specs.Judging.{later, now}
use Rattle.ls_linearizable.proofs.There.{there_not}
use Rattle.ls_source_judge.specs.Stepped.{AreSteps, AreStepsOf, Grows, IsKnown, IsTabled, Leads, pairs_in}
use Rattle.ls_source_judge.specs.Stepped.{verdict_in}
use Rattle.ls_source_judge.specs.declared.tabling.Pairs.{Pairs}
use Rattle.ls_source_judge.specs.declared.tabling.Step.{Step}

-- ---- more that are known

pub grows_none : (known : List Pairs) → Grows known known
grows_none known = ([], append-nil known)

pub grows_along : (a b c : List Pairs) → Grows a b → Grows b c → Grows a c
grows_along a b c (m, e) (n, f) = (m ++ n, sym (append_assoc a m n) ∙ ap (λ l. l ++ n) e ∙ f)

longer : (old new : List Pairs) → Grows old new → length old ≤ length new
longer old new (more, is) = omega (arith, length-append old more, ap length is)

get_kept : (old more : List Pairs) (n : ℕ) → n < length old → slice_get (old ++ more) n ≡ slice_get old n
get_kept [] more n lt = absurd (omega (arith, lt))
get_kept (r ∷ old) more zero lt = refl
get_kept (r ∷ old) more (suc n) lt = get_kept old more n (omega (arith, lt))

pub same_get : (old new : List Pairs) (n : ℕ) → Grows old new → n < length old → slice_get new n ≡ slice_get old n
same_get old new n grows lt = ap (λ l. slice_get l n) (sym grows.1) ∙ get_kept old grows.0 n lt

-- whether none is left, by how many there are
pub none_left : (rows : List (Vec Outcome Global)) (pairs : List Pair) →
    (length pairs == 0) ≡ now (leaves_none rows (helds_of pairs))
none_left rows [] = refl
none_left rows (p ∷ pairs) = not_none (length pairs)
  where
    not_none : (n : ℕ) → (suc n == 0) ≡ false
    not_none n = grind (arith, nat_tests)

-- pairs that are known, or become so
pub known_again : (known : List Pairs) (n : ℕ) (pairs : List Pair) → n < length known →
    ((rows : List (Vec Outcome Global)) → verdict_in rows known n ≡ leaves_none rows (helds_of pairs)) →
    IsKnown known known n pairs
known_again known n pairs below is = record { grows = grows_none known; below = below; is = is }

pub known_new : (known new : List Pairs) (n : ℕ) (p : Pairs) → new ≡ known ++ p ∷ [] → n ≡ length known →
    IsKnown known new n p.pairs.items
known_new known new n p pushed place = record {
  grows = (p ∷ [], sym pushed);
  below = omega (arith, place, ap length pushed, length-append known (p ∷ []));
  is = λ rows. ap (λ o. leaves_none rows (pairs_in o))
      (ap (slice_get new) place ∙ ap (λ l. slice_get l (length known)) pushed ∙ get_last known p);
}

module _ (rows : List (Vec Outcome Global)) where
  verdict_kept : (old new : List Pairs) (n : ℕ) → Grows old new → n < length old →
      verdict_in rows new n ≡ verdict_in rows old n
  verdict_kept old new n grows lt = ap (λ o. leaves_none rows (pairs_in o)) (same_get old new n grows lt)

  leads_kept : (old new : List Pairs) (n : ℕ) (s : Step) → Grows old new → Leads rows old n s → Leads rows new n s
  leads_kept old new n s grows l = record {
    within = let more = longer old new grows in let lt = l.within in omega (arith, more, lt);
    below = let more = longer old new grows in let lt = l.below in omega (arith, more, lt);
    is = verdict_kept old new s.after grows l.below ∙ l.is
        ∙ ap (λ v. later v s.event) (sym (verdict_kept old new n grows l.within));
  }

  row_kept : (old new : List Pairs) (n : ℕ) (row : List Step) → Grows old new → AreStepsOf rows old n row →
      AreStepsOf rows new n row
  row_kept old new n row grows are s there = leads_kept old new n s grows (are s there)

  pub steps_kept : (old new : List Pairs) (steps : List (Vec Step Global)) → Grows old new → AreSteps rows old steps →
      AreSteps rows new steps
  steps_kept old new steps grows are n row at = row_kept old new n row.items grows (are n row at)

  -- ---- one step more

  pub leads_by : (old new : List Pairs) (at n : ℕ) (pairs : List Pair) (from : Pairs) (e : Event) →
      at < length old →
      from ≡ get_or old at from →
      IsKnown old new n pairs →
      leaves_none rows (helds_of pairs) ≡ later (leaves_none rows (helds_of from.pairs.items)) e →
      Leads rows new at (record { event = e; after = n })
  leads_by old new at n pairs from e lt is known then = record {
    within = let more = longer old new known.grows in omega (arith, more, lt);
    below = known.below;
    is = known.is rows ∙ then
        ∙ ap (λ v. later v e) (sym (ap (λ o. leaves_none rows (pairs_in o))
        (same_get old new at known.grows lt ∙ is_get old at from lt ∙ ap Some (sym is))));
  }

  pub row_none : (known : List Pairs) (n : ℕ) → AreStepsOf rows known n []
  row_none known n s there = absurd (there_not s there)

  pub row_more : (old new : List Pairs) (n : ℕ) (row : List Step) (s : Step) → Grows old new →
      AreStepsOf rows old n row → Leads rows new n s → AreStepsOf rows new n (row ++ s ∷ [])
  row_more old new n row s grows are one x there = by_place (Contains-push_cases row s x there)
    where
      by_place : Contains row x ⊎ (s ≡ x) → Leads rows new n x
      by_place (inl old_one) = leads_kept old new n x grows (are x old_one)
      by_place (inr same) = subst (Leads rows new n) same one

  -- ---- one row more

  pub steps_none : (known : List Pairs) → AreSteps rows known []
  steps_none known n row at = absurd (nothing at)
    where
      nothing : {x : Vec Step Global} → None ≡ Some x → ⊥
      nothing h = cc

  some_is : {A : Type 0} {x y : A} → Some x ≡ Some y → x ≡ y
  some_is h = cc

  pushed_get : (steps : List (Vec Step Global)) (row x : Vec Step Global) (n : ℕ) →
      slice_get (steps ++ row ∷ []) n ≡ Some x →
      (slice_get steps n ≡ Some x) ⊎ ((n ≡ length steps) × (row ≡ x))
  pushed_get [] row x zero is = inr (refl, some_is is)
  pushed_get [] row x (suc n) is = absurd (nothing is)
    where
      nothing : None ≡ Some x → ⊥
      nothing h = cc
  pushed_get (r ∷ steps) row x zero is = inl is
  pushed_get (r ∷ steps) row x (suc n) is = by_place (pushed_get steps row x n is)
    where
      by_place : (slice_get steps n ≡ Some x) ⊎ ((n ≡ length steps) × (row ≡ x)) →
          (slice_get steps n ≡ Some x) ⊎ ((suc n ≡ suc (length steps)) × (row ≡ x))
      by_place (inl at) = inl at
      by_place (inr last) = inr (ap suc last.0, last.1)

  pub steps_more : (old new : List Pairs) (steps : List (Vec Step Global)) (row : Vec Step Global) → Grows old new →
      AreSteps rows old steps → AreStepsOf rows new (length steps) row.items →
      AreSteps rows new (steps ++ row ∷ [])
  steps_more old new steps row grows are one n x at = by_place (pushed_get steps row x n at)
    where
      by_place : (slice_get steps n ≡ Some x) ⊎ ((n ≡ length steps) × (row ≡ x)) → AreStepsOf rows new n x.items
      by_place (inl before) = row_kept old new n x.items grows (are n x before)
      by_place (inr last) = subst (λ m. AreStepsOf rows new m x.items) (sym last.0)
          (subst (λ (z : Vec Step Global). AreStepsOf rows new (length steps) z.items) last.1 one)

  pub some_known : (old new : List Pairs) → Grows old new → 0 < length old → 0 < length new
  some_known old new grows some = let more = longer old new grows in omega (arith, more, some)

  -- ---- what is tabled

  tabled_leads : (known : List Pairs) (steps : List (Vec Step Global)) (n m : ℕ) (row : Vec Step Global) (e : Event) →
      AreSteps rows known steps → n < length steps → row ≡ get_or steps n row → IsTabled row.items m e →
      verdict_in rows known m ≡ later (verdict_in rows known n) e
  tabled_leads known steps n m row e are lt is t =
      ap (verdict_in rows known) (sym t.after)
      ∙ (are n row (is_get steps n row lt ∙ ap Some (sym is)) t.step t.there).is
      ∙ ap (later (verdict_in rows known n)) t.event

  pub if_tabled : (known : List Pairs) (steps : List (Vec Step Global)) (n : ℕ) (row : Vec Step Global) (e : Event)
      (o : Option ℕ) → AreSteps rows known steps → n < length steps → row ≡ get_or steps n row →
      IfSome o (λ m. IsTabled row.items m e) →
      IfSome o (λ m. verdict_in rows known m ≡ later (verdict_in rows known n) e)
  if_tabled known steps n row e None are lt is t = t
  if_tabled known steps n row e (Some m) are lt is t = tabled_leads known steps n m row e are lt is t
