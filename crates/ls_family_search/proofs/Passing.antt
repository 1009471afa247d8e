-- What a search that has passed programs of a range says of each of them.
use Rattle.std.proofs.Common.{◌≡◌, ◌∙◌, ◌+◌, ◌-◌, ◌<◌, ◌≤◌, ◌⊎◌, inl, inr, ℕ, zero, suc, List, Some, arith, get_or}
use Rattle.std.proofs.Common.{length, subst, sym}
use Rattle.std.specs.Prelude.{slice_get}
use Rattle.std.proofs.lemmas.Option.{slice_get-get_or}
use Rattle.ls_families.specs.Doubles.{other_of}
use Rattle.ls_families.specs.Families.{Plan, plans}
use Rattle.ls_family_search.specs.Judged.{IsDouble, IsPassed, Programs, Text, text_of}
use Rattle.ls_family_search.specs.Searched.{PassesAt}
use Rattle.ls_family_search.specs.declared.judging.Passed.{Passed}
use Rattle.ls_family_search.specs.declared.judging.Passed.TheVariants.{Double, Good, Cut}

some_is : {X : Type 0} {x y : X} → Some x ≡ Some y → x ≡ y
some_is e = cc

module _ (p : Programs) (IsGood IsCut : Text → Type 0) (from : ℕ) where
  passed_so : (n : ℕ) (plan : Plan) (ps : List Passed) (k : ℕ) → (slice_get ps k ≡ Some Cut → ⊥) →
      (said : Passed) → slice_get ps k ≡ Some said → IsPassed p IsGood IsCut from n plan said →
      IsDouble p IsGood from n plan ⊎ IsGood (text_of p plan)
  passed_so n plan ps k uncut Double at is = inl is
  passed_so n plan ps k uncut Good at is = inr is
  passed_so n plan ps k uncut Cut at is = absurd (uncut at)

  -- a double is good if each program is that stands before it in the range and is the other one
  double_good : (n : ℕ) (plan : Plan) →
      ((k : ℕ) → k < n → slice_get (plans p.family) (from + k) ≡ Some (other_of plan) →
      IsGood (text_of p (other_of plan))) →
      IsDouble p IsGood from (from + n) plan → IsGood (text_of p plan)
  double_good n plan before double = elim double.known [
    | inl stands ↦
        let k : ℕ = stands.number - from in
        let at : stands.number ≡ from + k = omega (arith, stands.first) in
        double.follows.good (before k (omega (arith, stands.first, stands.before))
        (subst (λ m. slice_get (plans p.family) m ≡ Some (other_of plan)) at stands.there))
    | inr good ↦ good
  ]

  -- a double follows the program that stands before it in the range, which is passed too
  pub passed_good : (ps : List Passed) →
      ((k : ℕ) (said : Passed) → slice_get ps k ≡ Some said → PassesAt p IsGood IsCut from (from + k) said) →
      (number : ℕ) (one : Plan) → number < length ps → slice_get (plans p.family) (from + number) ≡ Some one →
      ((k : ℕ) → k ≤ number → slice_get ps k ≡ Some Cut → ⊥) → IsGood (text_of p one)
  passed_good ps passes number one inside at none = by_number (suc number) number one (omega arith) inside at none
    where
      by_number : (l n : ℕ) (plan : Plan) → n < l → n < length ps → slice_get (plans p.family) (from + n) ≡ Some plan →
          ((k : ℕ) → k ≤ n → slice_get ps k ≡ Some Cut → ⊥) → IsGood (text_of p plan)
      by_number zero n plan less within there uncut = absurd (omega (arith, less))
      by_number (suc l) n plan less within there uncut =
          let said = get_or ps n Cut in
          let is : slice_get ps n ≡ Some said = slice_get-get_or ps n Cut within in
          let so = passes n said is in
          let same : so.0 ≡ plan = some_is (sym so.1 ∙ there) in
          elim (passed_so (from + n) plan ps n (uncut n (omega arith)) said is
          (subst (λ (q : Plan). IsPassed p IsGood IsCut from (from + n) q said) same so.2)) [
            | inl double ↦
                double_good n plan
                (λ k before stands. by_number l k (other_of plan) (omega (arith, less, before))
                (omega (arith, within, before)) stands (λ j up. uncut j (omega (arith, up, before)))) double
            | inr good ↦ good
          ]
