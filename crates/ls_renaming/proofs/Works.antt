-- What was shown of numbers stays while tables grow.
use Rattle.std.proofs.Common.{◌≡◌, ◌⊎◌, inl, inr, ℕ, ◌<◌, List, [], ◌∷◌, ◌++◌, length, None, Some, sym, ap, ◌∙◌, subst}
use Rattle.std.proofs.Common.{refl, zero, suc}
use Rattle.std.specs.Prelude.{slice_get, slice_index_or}
use Rattle.std.proofs.lemmas.Option.{get_or_from_slice_get}
use Rattle.ls_transitions.specs.Tables.{Table, Grows}
use Rattle.ls_transitions.proofs.Keeping.{there}
use Rattle.ls_works.specs.Frames.{renamed_thread}
use Rattle.ls_renaming.specs.Renumbered.{AreWorksThere, IsStoreThere, IsWorkThere}

pub store_stays : (t t' : Table) (names : ℕ → ℕ) (store other : ℕ) → Grows t t' →
    IsStoreThere t names store other →
    IsStoreThere t' names store other
store_stays t t' names store other grows h = record {
  new = h.new;
  new_is = grows.stores other h.new h.new_is;
  old = h.old;
  old_is = grows.stores store h.old h.old_is;
  same = h.same;
}

pub work_stays : (t t' : Table) (names : ℕ → ℕ) (work other : ℕ) → Grows t t' →
    IsWorkThere t names work other →
    IsWorkThere t' names work other
work_stays t t' names work other grows h = record {
  thread = h.thread;
  new_is = grows.works other h.thread h.new_is;
  old_is = grows.works work (renamed_thread names h.thread) h.old_is;
  constants = h.constants;
}

none_not : {A : Type 0} {x : A} → None ≡ Some x → ⊥
none_not h = cc

some_is : {A : Type 0} {x y : A} → Some x ≡ Some y → x ≡ y
some_is h = cc

-- what stands in a list with one more item, and where
pushed_where : {A : Type 0} (xs : List A) (x : A) (i : ℕ) (y : A) →
    slice_get (xs ++ x ∷ []) i ≡ Some y →
    (slice_get xs i ≡ Some y) ⊎ ((i ≡ length xs) × (x ≡ y))
pushed_where [] x zero y h = inr (refl, some_is h)
pushed_where [] x (suc i) y h = cc
pushed_where (z ∷ zs) x zero y h = inl h
pushed_where (z ∷ zs) x (suc i) y h = by_rest (pushed_where zs x i y h)
  where
    by_rest : (slice_get zs i ≡ Some y) ⊎ ((i ≡ length zs) × (x ≡ y)) →
        (slice_get (z ∷ zs) (suc i) ≡ Some y) ⊎ ((suc i ≡ length (z ∷ zs)) × (x ≡ y))
    by_rest (inl e) = inl e
    by_rest (inr (e, same)) = inr (ap suc e, same)

-- no works yet, and one more
pub no_works : (t : Table) (names : ℕ → ℕ) (works others : List ℕ) → others ≡ [] → AreWorksThere t names works others
no_works t names works others none place other e =
    absurd (none_not (ap (λ (l : List ℕ). slice_get l place) (sym none) ∙ e))

pub more_works : (t t' : Table) (names : ℕ → ℕ) (works others more : List ℕ) (work other : ℕ) →
    AreWorksThere t names works others →
    Grows t t' →
    slice_get works (length others) ≡ Some work →
    IsWorkThere t' names work other →
    more ≡ others ++ other ∷ [] →
    AreWorksThere t' names works more
more_works t t' names works others more work other h grows here is with_more place o e =
    by_place (pushed_where others other place o (ap (λ (l : List ℕ). slice_get l place) (sym with_more) ∙ e))
  where
    by_place : (slice_get others place ≡ Some o) ⊎ ((place ≡ length others) × (other ≡ o)) →
        (w : ℕ) × (slice_get works place ≡ Some w) × IsWorkThere t' names w o
    by_place (inl old) = let was = h place o old in (was.0, was.1, work_stays t t' names was.0 o grows was.2)
    by_place (inr (last, same)) =
        (work, ap (slice_get works) last ∙ here, subst (λ (k : ℕ). IsWorkThere t' names work k) same is)

-- what is read at a place stands there
pub item_here : (works : List ℕ) (i : ℕ) → i < length works → slice_get works i ≡ Some (slice_index_or works i 0)
item_here works i within =
    let at = there works i within in at.1 ∙ ap Some (sym (get_or_from_slice_get works i at.0 0 at.1))
