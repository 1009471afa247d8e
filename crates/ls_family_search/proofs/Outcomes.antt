-- What the outcomes of a window say of its numbers.
use Rattle.std.proofs.Common.{◌≡◌, ◌+◌, ◌<◌, ◌≤◌, ℕ, zero, suc, List, [], ◌∷◌, ◌++◌, ap, subst, refl}
use Rattle.std.proofs.Common.{arith, length, IfOk, Ok, Some, None, Result}
use Rattle.std.specs.Prelude.{slice_get}
use Rattle.std.specs.List.{AllZip, range_with_len}
use Rattle.std.specs.declared.alloc.AllocError.{AllocError}
use Rattle.ls_families.specs.Families.{plans}
use Rattle.ls_family_search.specs.Judged.{IsPassed, Programs, Text}
use Rattle.ls_family_search.specs.Searched.{HaltsAt, PassesAt}
use Rattle.ls_family_search.specs.Windows.{IsOutcomeAt, all_pass}
use Rattle.ls_family_search.specs.declared.judging.Halted.{Halted}
use Rattle.ls_family_search.specs.declared.judging.ProgramOutcome.{ProgramOutcome}
use Rattle.ls_family_search.specs.declared.judging.ProgramOutcome.TheVariants.{Ends}
use Rattle.ls_family_search.specs.declared.judging.Passed.{Passed}

some_is : {X : Type 0} {x y : X} → Some x ≡ Some y → x ≡ y
some_is e = cc

none_is : {X : Type 0} {y : X} → None ≡ Some y → ⊥
none_is e = cc

got_at : {X : Type 0} (xs : List X) (n : ℕ) → n < length xs → (x : X) × (slice_get xs n ≡ Some x)
got_at [] n within = absurd (omega (arith, within))
got_at (x ∷ xs) zero within = (x, refl)
got_at (x ∷ xs) (suc n) within = got_at xs n (omega (arith, within))

-- what is so of each element of two lists
pub each_of_both : {X : Type 0} (Q : ℕ → X → Type 0) (xs ys : List X) →
    ((k : ℕ) (y : X) → slice_get xs k ≡ Some y → Q k y) →
    ((k : ℕ) (y : X) → slice_get ys k ≡ Some y → Q (length xs + k) y) → (k : ℕ) (y : X) →
    slice_get (xs ++ ys) k ≡ Some y → Q k y
each_of_both Q [] ys all more k y is = let e : 0 + k ≡ k = omega arith in subst (λ n. Q n y) e (more k y is)
each_of_both Q (x ∷ xs) ys all more zero y is = all zero y is
each_of_both Q (x ∷ xs) ys all more (suc k) y is =
    each_of_both (λ n. Q (suc n)) xs ys (λ n. all (suc n))
    (λ n z at. let e : suc (length xs) + n ≡ suc (length xs + n) = omega arith in subst (λ m. Q m z) e (more n z at))
    k y is

module _ {H : Type 0} (p : Programs) (IsGood IsCut : Text → Type 0) (Halts : Text → H → Type 0) (from : ℕ) where
  abbrev pub AreOutcomes : ℕ → ℕ → List (Result (ProgramOutcome H) AllocError) → Type 0
  AreOutcomes n count outcomes =
      AllZip (λ m (o : Result (ProgramOutcome H) AllocError). IfOk o (IsOutcomeAt p IsGood IsCut Halts from m))
      (range_with_len n count) outcomes

  -- those that pass
  pub passed_in : (n count : ℕ) (ps : List Passed) (rest : List (Result (ProgramOutcome H) AllocError)) →
      AreOutcomes n count (all_pass ps ++ rest) → n + count ≤ length (plans p.family) → (k : ℕ) (said : Passed) →
      slice_get ps k ≡ Some said → PassesAt p IsGood IsCut from (n + k) said
  passed_in n count [] rest zip there k said is = absurd (none_is is)
  passed_in n zero (q ∷ ps) rest zip there k said is = absurd zip
  passed_in n (suc count) (q ∷ ps) rest zip there zero said is =
      let got = got_at (plans p.family) n (omega (arith, there)) in
      let e : n ≡ n + 0 = omega arith in
      subst (λ m. PassesAt p IsGood IsCut from m said) e
      (got.0, got.1, subst (IsPassed p IsGood IsCut from n got.0) (some_is is) (zip.0 got.0 got.1))
  passed_in n (suc count) (q ∷ ps) rest zip there (suc k) said is =
      let e : n + 1 + k ≡ n + suc k = omega arith in
      subst (λ m. PassesAt p IsGood IsCut from m said) e
      (passed_in (n + 1) count ps rest zip.1 (omega (arith, there)) k said is)

  -- the one with which the search ends
  pub halts_in : (n count : ℕ) (ps : List Passed) (h : Halted H) (rest : List (Result (ProgramOutcome H) AllocError)) →
      AreOutcomes n count (all_pass ps ++ Ok (Ends h) ∷ rest) → n + count ≤ length (plans p.family) →
      HaltsAt p Halts (n + length ps) h
  halts_in n zero [] h rest zip there = absurd zip
  halts_in n (suc count) [] h rest zip there =
      let got = got_at (plans p.family) n (omega (arith, there)) in
      let e : n ≡ n + 0 = omega arith in
      subst (λ m. HaltsAt p Halts m h) e (got.0, got.1, zip.0 got.0 got.1)
  halts_in n zero (q ∷ ps) h rest zip there = absurd zip
  halts_in n (suc count) (q ∷ ps) h rest zip there =
      let e : n + 1 + length ps ≡ n + suc (length ps) = omega arith in
      subst (λ m. HaltsAt p Halts m h) e (halts_in (n + 1) count ps h rest zip.1 (omega (arith, there)))

  -- all of them pass
  pub many_pass : (n count : ℕ) (ps : List Passed) → AreOutcomes n count (all_pass ps) → length ps ≡ count
  many_pass n zero [] zip = refl
  many_pass n (suc count) [] zip = absurd zip
  many_pass n zero (q ∷ ps) zip = absurd zip
  many_pass n (suc count) (q ∷ ps) zip = ap suc (many_pass (n + 1) count ps zip.1)
