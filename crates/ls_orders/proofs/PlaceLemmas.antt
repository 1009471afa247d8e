-- Marks, one more.
use Rattle.std.proofs.Common.{◌≡◌, ◌∙◌, ◌==◌, ◌||◌, ◌<◌, ℕ, Bool, true, false, zero, suc, List, [], ◌∷◌, ◌++◌, length}
use Rattle.std.proofs.Common.{set, refl, sym, ap, eqb-true}
use Rattle.std.proofs.lemmas.Bool.{eqb-false}
use Rattle.std.proofs.lemmas.List.{get_or-set_same, get_or-set_other}
use Rattle.ls_orders.specs.Places.{is_marked}

-- one more place that isn't marked
pub one_unmarked : (marks : List Bool) (k : ℕ) → is_marked (marks ++ false ∷ []) k ≡ is_marked marks k
one_unmarked [] zero = refl
one_unmarked [] (suc k) = refl
one_unmarked (m ∷ ms) zero = refl
one_unmarked (m ∷ ms) (suc k) = one_unmarked ms k

-- one more place that is marked
pub one_marked : (marks : List Bool) (place k : ℕ) →
    place < length marks →
    is_marked (set marks place true) k ≡ (place == k || is_marked marks k)
one_marked marks place k lt = go (place == k) refl
  where
    go : (b : Bool) → (place == k) ≡ b → is_marked (set marks place true) k ≡ (b || is_marked marks k)
    go true e = ap (is_marked (set marks place true)) (sym (eqb-true place k e)) ∙
        get_or-set_same marks place true false lt
    go false e = get_or-set_other marks place k true false (λ same. eqb-false place k e (sym same))
