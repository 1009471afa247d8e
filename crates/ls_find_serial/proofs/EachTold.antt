-- What is told of each program of a family, in the order of the numbers.
use Rattle.std.proofs.Common.{◌≡◌, ◌+◌, ℕ, zero, suc, List, [], ◌∷◌, Some, None, Ok, Result, IfOk, ap, arith, length}
use Rattle.std.proofs.Common.{map, refl, subst}
use Rattle.std.specs.Prelude.{slice_get}
use Rattle.std.specs.List.{AllZip, range_with_len}
use Rattle.std.specs.declared.alloc.AllocError.{AllocError}
use Rattle.ls_alone.specs.declared.telling.Tellings.{Tellings}
use Rattle.ls_family_search.specs.Judged.{Programs, Text}
use Rattle.ls_find_serial.specs.Told.{IsToldAt}

some_is : {X : Type 0} {x y : X} → Some x ≡ Some y → x ≡ y
some_is e = cc

none_is : {X : Type 0} {y : X} → None ≡ Some y → ⊥
none_is e = cc

module _ (classes : Text) (p : Programs) where
  -- of so many numbers from one on, where memory sufficed
  abbrev pub AreEach : ℕ → ℕ → List (Result Tellings AllocError) → Type 0
  AreEach n count each =
      AllZip (λ m (o : Result Tellings AllocError). IfOk o (IsToldAt classes p m)) (range_with_len n count) each

  pub each_told : (n count : ℕ) (ts : List Tellings) → AreEach n count (map (λ t. Ok t) ts) → (k : ℕ) (t : Tellings) →
      slice_get ts k ≡ Some t → IsToldAt classes p (n + k) t
  each_told n count [] zip k t is = absurd (none_is is)
  each_told n zero (x ∷ ts) zip k t is = absurd zip
  each_told n (suc count) (x ∷ ts) zip zero t is =
      let e : n ≡ n + 0 = omega arith in
      subst (λ m. IsToldAt classes p m t) e (subst (IsToldAt classes p n) (some_is is) zip.0)
  each_told n (suc count) (x ∷ ts) zip (suc k) t is =
      let e : n + 1 + k ≡ n + suc k = omega arith in
      subst (λ m. IsToldAt classes p m t) e (each_told (n + 1) count ts zip.1 k t is)

  pub as_many : (n count : ℕ) (ts : List Tellings) → AreEach n count (map (λ t. Ok t) ts) → length ts ≡ count
  as_many n zero [] zip = refl
  as_many n (suc count) [] zip = absurd zip
  as_many n zero (x ∷ ts) zip = absurd zip
  as_many n (suc count) (x ∷ ts) zip = ap suc (as_many (n + 1) count ts zip.1)
