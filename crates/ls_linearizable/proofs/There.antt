-- Elements of lists.
use Rattle.std.proofs.Common.{◌≡◌, ◌⊎◌, inl, inr, zero, suc, Bool, true, false, ◌||◌, List, [], ◌∷◌, Contains, refl}
use Rattle.std.proofs.Common.{arith, ap, ◌∙◌}
use Rattle.std.specs.List.{list_any}

module _ {A : Type 0} where
  pub there_first : (x : A) (xs : List A) → Contains (x ∷ xs) x
  there_first x xs = (0, omega arith, refl)

  pub there_later : (x y : A) (xs : List A) → Contains xs y → Contains (x ∷ xs) y
  there_later x y xs (k, lt, e) = (suc k, omega (arith, lt), e)

  pub there_cases : (x y : A) (xs : List A) → Contains (x ∷ xs) y → (x ≡ y) ⊎ Contains xs y
  there_cases x y xs (zero, lt, e) = inl e
  there_cases x y xs (suc k, lt, e) = inr (k, omega (arith, lt), e)

  pub there_not : (x : A) → Contains [] x → ⊥
  there_not x (k, lt, e) = absurd (omega (arith, lt))

  -- an element passes the test, where one like it is there
  pub any_there : (t : A → Bool) (xs : List A) → list_any t xs ≡ true → (x : A) × Contains xs x × (t x ≡ true)
  any_there t [] h = absurd cc
  any_there t (x ∷ xs) h = by_first (any_there t xs) (t x) refl h
    where
      by_first : (list_any t xs ≡ true → (y : A) × Contains xs y × (t y ≡ true)) →
          (b : Bool) →
          t x ≡ b →
          (b || list_any t xs) ≡ true →
          (y : A) × Contains (x ∷ xs) y × (t y ≡ true)
      by_first more true e g = (x, there_first x xs, e)
      by_first more false e g = let r = more g in (r.0, there_later x r.0 xs r.1, r.2)

  pub there_any : (t : A → Bool) (xs : List A) (x : A) → Contains xs x → t x ≡ true → list_any t xs ≡ true
  there_any t [] x there h = absurd (there_not x there)
  there_any t (y ∷ xs) x there h = by_place (λ later. there_any t xs x later h) (there_cases y x xs there)
    where
      or_true : (b : Bool) → (b || true) ≡ true
      or_true true = refl
      or_true false = refl

      by_place : (Contains xs x → list_any t xs ≡ true) →
          (y ≡ x) ⊎ Contains xs x →
          (t y || list_any t xs) ≡ true
      by_place more (inl same) = ap (λ z. t z || list_any t xs) same ∙ ap (λ b. b || list_any t xs) h
      by_place more (inr later) = ap (λ b. t y || b) (more later) ∙ or_true (t y)
