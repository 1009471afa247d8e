-- Lists: what is at a number, and what holds of each item.
use Rattle.std.proofs.Common.{◌≡◌, ℕ, zero, suc, ◌+◌, arith, refl, sym, ◌∙◌, subst, ap, Bool, true, false, cond, List}
use Rattle.std.proofs.Common.{[], ◌∷◌, ◌++◌, append_assoc, length, Option, Some, None}
use Rattle.std.specs.Prelude.{slice_get, find}

-- a list that begins with another
abbrev pub Grows : {A : Type 0} → List A → List A → Type 0
Grows {A} xs ys = (more : List A) × (xs ++ more ≡ ys)

-- equal options have equal values
pub same_some : {A : Type 0} (x y : A) → Some x ≡ Some y → x ≡ y
same_some x y e = cc

-- none is not some
pub some_none : {A : Type 0} (x : A) → None ≡ Some x → ⊥
some_none x e = cc

-- nothing is appended
pub append_nil : {A : Type 0} (xs : List A) → xs ++ [] ≡ xs
append_nil [] = refl
append_nil (x ∷ xs) = ap (λ l. x ∷ l) (append_nil xs)

-- a list grows from itself
pub grows_same : {A : Type 0} (xs : List A) → Grows xs xs
grows_same xs = ([], append_nil xs)

-- a list grows by more items
pub grows_by : {A : Type 0} (xs more : List A) → Grows xs (xs ++ more)
grows_by xs more = (more, refl)

-- a list that grows twice grows
pub grows_on : {A : Type 0} (xs ys zs : List A) → Grows xs ys → Grows ys zs → Grows xs zs
grows_on xs ys zs h k = (h.0 ++ k.0, sym (append_assoc xs h.0 k.0) ∙ ap (λ l. l ++ k.0) h.1 ∙ k.1)

-- an item of the first of two lists
pub at_front : {A : Type 0} (xs ys : List A) (n : ℕ) (x : A) → slice_get xs n ≡ Some x → slice_get (xs ++ ys) n ≡ Some x
at_front [] ys n x e = absurd (some_none x e)
at_front (y ∷ xs) ys zero x e = e
at_front (y ∷ xs) ys (suc n) x e = at_front xs ys n x e

-- the item that was put at the end
pub at_end : {A : Type 0} (xs : List A) (x : A) → slice_get (xs ++ x ∷ []) (length xs) ≡ Some x
at_end [] x = refl
at_end (y ∷ xs) x = at_end xs x

-- an item of a list that has grown
pub at_grown : {A : Type 0} (xs ys : List A) (n : ℕ) (x : A) →
    Grows xs ys →
    slice_get xs n ≡ Some x →
    slice_get ys n ≡ Some x
at_grown xs ys n x g e = subst (λ l. slice_get l n ≡ Some x) g.1 (at_front xs g.0 n x e)

-- what holds of each
abbrev pub Each : {A : Type 0} → (A → Type 0) → List A → Type 0
Each P [] = Unit {0}
Each P (x ∷ xs) = P x × Each P xs

-- each item of a list with one more
pub each_push : {A : Type 0} (P : A → Type 0) (xs : List A) (x : A) → Each P xs → P x → Each P (xs ++ x ∷ [])
each_push P [] x h p = (p, tt)
each_push P (y ∷ xs) x h p = (h.0, each_push P xs x h.1 p)

-- a list with one more item is longer by one
pub length_push : {A : Type 0} (xs : List A) (x : A) → length (xs ++ x ∷ []) ≡ length xs + 1
length_push [] x = refl
length_push (y ∷ xs) x = omega (arith, length_push xs x)

-- each item has a weaker property
pub each_weaker : {A : Type 0} (P Q : A → Type 0) (xs : List A) → Each P xs → ((x : A) → P x → Q x) → Each Q xs
each_weaker P Q [] h k = tt
each_weaker P Q (x ∷ xs) h k = (k x h.0, each_weaker P Q xs h.1 k)

-- the item at a number has what each item has
pub each_at : {A : Type 0} (P : A → Type 0) (xs : List A) (n : ℕ) (x : A) → Each P xs → slice_get xs n ≡ Some x → P x
each_at P [] n x h e = absurd (some_none x e)
each_at P (y ∷ xs) zero x h e = subst P (same_some y x e) h.0
each_at P (y ∷ xs) (suc n) x h e = each_at P xs n x h.1 e

found_in : {A : Type 0} (P : A → Type 0) (b : Bool) (y x : A) (rest : Option A) →
    P y →
    (rest ≡ Some x → P x) →
    cond b (Some y) rest ≡ Some x →
    P x
found_in P true y x rest h k e = subst P (same_some y x e) h
found_in P false y x rest h k e = k e

-- the item that is found has what each item has
pub each_found : {A : Type 0} (P : A → Type 0) (p : A → Bool) (xs : List A) (x : A) →
    Each P xs →
    find p xs ≡ Some x →
    P x
each_found P p [] x h e = absurd (some_none x e)
each_found P p (y ∷ xs) x h e = found_in P (p y) y x (find p xs) h.0 (λ e. each_found P p xs x h.1 e) e
