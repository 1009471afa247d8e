-- Lists in which nothing stands twice, with one element more.
use Rattle.std.proofs.Common.{◌≡◌, ◌⊎◌, inl, inr, ℕ, zero, suc, List, [], ◌∷◌, ◌++◌, Some, None, Contains, length}
use Rattle.std.proofs.Common.{slice_get, refl, sym, ap, ◌∙◌, subst}
use Rattle.ls_events.specs.declared.event.Event.{Event}
use Rattle.ls_serial.proofs.Lists.{get_contains}
use Rattle.ls_linearizable.specs.Once.{AreOnce}

-- an element of the longer list stands in the shorter one, or is the last
pushed_get : (h : List Event) (e x : Event) (i : ℕ) → slice_get (h ++ e ∷ []) i ≡ Some x →
    (slice_get h i ≡ Some x) ⊎ ((i ≡ length h) × (e ≡ x))
pushed_get [] e x zero is = inr (refl, cc)
pushed_get [] e x (suc i) is = absurd (nothing is)
  where
    nothing : None ≡ Some x → ⊥
    nothing p = cc
pushed_get (y ∷ h) e x zero is = inl is
pushed_get (y ∷ h) e x (suc i) is = by_place (pushed_get h e x i is)
  where
    by_place : (slice_get h i ≡ Some x) ⊎ ((i ≡ length h) × (e ≡ x)) →
        (slice_get h i ≡ Some x) ⊎ ((suc i ≡ suc (length h)) × (e ≡ x))
    by_place (inl at) = inl at
    by_place (inr last) = inr (ap suc last.0, last.1)

pub once_pushed : (h : List Event) (e : Event) → AreOnce h → (Contains h e → ⊥) → AreOnce (h ++ e ∷ [])
once_pushed h e once new x i j at there = by_places (pushed_get h e x i at) (pushed_get h e x j there)
  where
    by_places : (slice_get h i ≡ Some x) ⊎ ((i ≡ length h) × (e ≡ x)) →
        (slice_get h j ≡ Some x) ⊎ ((j ≡ length h) × (e ≡ x)) → i ≡ j
    by_places (inl p) (inl q) = once x i j p q
    by_places (inl p) (inr q) = absurd (new (subst (Contains h) (sym q.1) (get_contains h i x p)))
    by_places (inr p) (inl q) = absurd (new (subst (Contains h) (sym p.1) (get_contains h j x q)))
    by_places (inr p) (inr q) = p.0 ∙ sym q.0
