-- What isn't so of any number below another.
use Rattle.std.proofs.Common.{◌≡◌, ◌∙◌, ◌⊎◌, inl, inr, ℕ, ◌+◌, ◌<◌, ◌≤◌, Bool, false, arith, subst, sym}
use Rattle.std.specs.Bool.{Decides}
use Rattle.std.proofs.lemmas.Bool.{cases_lt, true≢false}

-- one more
pub none_next : (P : ℕ → Type 0) (n : ℕ) → ((k : ℕ) → k < n → P k → ⊥) → (r : Bool) → Decides r (P n) → r ≡ false →
    (k : ℕ) → k < n + 1 → P k → ⊥
none_next P n none r decides isnt k less is = by_place (cases_lt k n)
  where
    by_place : (k < n) ⊎ (n ≤ k) → ⊥
    by_place (inl lt) = none k lt is
    by_place (inr past) =
        let same : k ≡ n = omega (arith, less, past) in
        true≢false (sym (decides.1 (subst P same is)) ∙ isnt)
