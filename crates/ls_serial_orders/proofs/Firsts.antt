-- What holds of the first elements of a list, one after another.
use Rattle.std.proofs.Common.{◌≡◌, ◌⊎◌, inl, inr, ℕ, ◌+◌, ◌<◌, ◌≤◌, List, Some, Contains, length, slice_get}
use Rattle.std.proofs.Common.{sym, ◌∙◌, subst, arith}
use Rattle.std.proofs.lemmas.Bool.{cases_lt}
use Rattle.ls_serial.proofs.Lists.{contains_get, get_within, some_is}

module _ {A : Type 0} (P : A → Type 0) (xs : List A) where
  abbrev pub AreFirst : ℕ → Type 0
  AreFirst i = (k : ℕ) (x : A) → k < i → slice_get xs k ≡ Some x → P x

  pub first_none : AreFirst 0
  first_none k x less at = absurd (omega (arith, less))

  pub first_more : (i : ℕ) (x : A) → slice_get xs i ≡ Some x → P x → AreFirst i → AreFirst (i + 1)
  first_more i x there is before k y less at = by_place (cases_lt k i)
    where
      by_place : (k < i) ⊎ (i ≤ k) → P y
      by_place (inl lt) = before k y lt at
      by_place (inr le) =
          let same : k ≡ i = omega (arith, less, le) in
          subst P (some_is (sym there ∙ subst (λ n. slice_get xs n ≡ Some y) same at)) is

  pub first_all : (i : ℕ) → length xs ≤ i → AreFirst i → (x : A) → Contains xs x → P x
  first_all i all are x there =
      let at = contains_get xs x there in
      let within = get_within xs at.0 x at.1 in
      are at.0 x (omega (arith, all, within)) at.1
