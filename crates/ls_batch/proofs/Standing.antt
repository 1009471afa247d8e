-- How many times a history stands in a list, as the list grows.
use Rattle.std.proofs.Common.{◌≡◌, ◌≢◌, ℕ, ◌+◌, ◌≤◌, suc, List, [], ◌∷◌, ◌++◌, length, refl, arith}
use Rattle.std.specs.Prelude.{slice_get, Some}
use Rattle.ls_batch.specs.Tallies.{History, Stands, Nowhere, Here, Elsewhere}

-- once more, at the end
pub stands_more : (h : History) (hs : List History) (n : ℕ) → Stands h hs n → Stands h (hs ++ h ∷ []) (n + 1)
stands_more h hs n Nowhere = Here [] 0 Nowhere
stands_more h hs n (Here gs m s) = Here (gs ++ h ∷ []) (m + 1) (stands_more h gs m s)
stands_more h hs n (Elsewhere g gs m d s) = Elsewhere g (gs ++ h ∷ []) (m + 1) d (stands_more h gs m s)

-- another history, at the end
pub stands_still : (h g : History) (hs : List History) (n : ℕ) → g ≢ h → Stands h hs n → Stands h (hs ++ g ∷ []) n
stands_still h g hs n other Nowhere = Elsewhere g [] 0 other Nowhere
stands_still h g hs n other (Here gs m s) = Here (gs ++ g ∷ []) m (stands_still h g gs m other s)
stands_still h g hs n other (Elsewhere f gs m d s) = Elsewhere f (gs ++ g ∷ []) m d (stands_still h g gs m other s)

-- it stands nowhere
pub stands_nowhere : (h : History) (hs : List History) →
    ((i : ℕ) (g : History) → slice_get hs i ≡ Some g → g ≢ h) →
    Stands h hs 0
stands_nowhere h [] none = Nowhere
stands_nowhere h (g ∷ hs) none = Elsewhere g hs 0 (none 0 g refl) (stands_nowhere h hs (λ i f e. none (suc i) f e))

pub stands_within : (h : History) (hs : List History) (n : ℕ) → Stands h hs n → n ≤ length hs
stands_within h hs n Nowhere = omega arith
stands_within h hs n (Here gs m s) = let less = stands_within h gs m s in omega arith
stands_within h hs n (Elsewhere g gs m d s) = let less = stands_within h gs m s in omega arith
