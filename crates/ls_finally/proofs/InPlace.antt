-- A list whose elements are changed in place, one after the other.
use Rattle.std.proofs.Common.{◌≡◌, ℕ, suc, ◌+◌, ◌-◌, ◌<◌, ◌≤◌, length, take, drop, set, get_or, map, ap, ap₂, sym, ◌∙◌}
use Rattle.std.proofs.Common.{arith, List, [], ◌∷◌, ◌++◌, refl}
use Rattle.std.specs.Prelude.{slice_index_or}
use Rattle.std.proofs.lemmas.List.{length-drop, get_or-drop, drop-set-lt, take_more_set, take_all, map-append}
use Rattle.ls_lowered.proofs.Taken.{taken_at}
use Rattle.ls_finally_copies.proofs.Fronts.{left_at}

-- what is left of a list tells its first element
pub first_left : {X : Type 0} (xs rest : List X) (i : ℕ) (x : X) →
    drop i xs ≡ x ∷ rest →
    (i < length xs) × (x ≡ slice_index_or xs i x)
first_left xs rest i x e =
    let n : length xs - i ≡ suc (length rest) = sym (length-drop i xs) ∙ ap length e in (
      omega (arith, n),
      sym (ap (λ k. get_or xs k x) (omega arith) ∙ sym (get_or-drop i xs 0 x) ∙ ap (λ ys. get_or ys 0 x) e),
    )

-- the list `old` is changed into `now`, up to an index: what a view sees of each element is what f gave
pub record Changed {X Y : Type 0} (view f : X → Y) (old now : List X) (i : ℕ) : Type 0 where
  pub rest : drop i now ≡ drop i old
  pub done : map view (take i now) ≡ map f (take i old)

-- the element that comes next is still the old one
pub still : {X Y : Type 0} (view f : X → Y) (old now : List X) (i : ℕ) (x : X) →
    i < length now →
    x ≡ slice_index_or now i x →
    Changed view f old now i →
    (i < length old) × (x ≡ slice_index_or old i x)
still view f old now i x l e h = first_left old (drop (i + 1) now) i x (sym h.rest ∙ left_at now i x l e)

abbrev tail_of : {X : Type 0} → List X → List X
tail_of [] = []
tail_of (x ∷ xs) = xs

-- one element more is changed
pub one_changed_more : {X Y : Type 0} (view f : X → Y) (old now : List X) (i : ℕ) (x y : X) →
    i < length now →
    x ≡ slice_index_or now i x →
    view y ≡ f (slice_index_or now i x) →
    Changed view f old now i →
    Changed view f old (set now i y) (i + 1)
one_changed_more view f old now i x y l e is h =
    let at = still view f old now i x l e h in
    let same : x ∷ drop (i + 1) now ≡ x ∷ drop (i + 1) old =
    sym (left_at now i x l e) ∙ h.rest ∙ left_at old i x at.0 at.1 in record {
      rest = drop-set-lt (i + 1) now i y (omega arith) ∙ ap tail_of same;
      done =
          ap (map view) (take_more_set now i y l)
          ∙ map-append view (take i now) (y ∷ []) ∙ ap₂ (λ zs z. zs ++ z ∷ []) h.done (is ∙ ap f (sym e))
          ∙ sym (ap (map f) (taken_at old i x at.0 at.1) ∙ map-append f (take i old) (x ∷ []));
    }

-- all elements are changed
pub all_changed : {X Y : Type 0} (view f : X → Y) (old now : List X) (i : ℕ) →
    length now ≤ i →
    length now ≡ length old →
    Changed view f old now i →
    map view now ≡ map f old
all_changed view f old now i l same h =
    sym (ap (map view) (take_all i now l)) ∙ h.done ∙ ap (map f) (take_all i old (omega (arith, l, same)))

-- none is changed at the start
pub none_changed : {X Y : Type 0} (view f : X → Y) (old : List X) → Changed view f old old 0
none_changed view f old = record { rest = refl; done = refl }
