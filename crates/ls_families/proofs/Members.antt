-- Elements of lists that are made of pieces, and pairs of them.
use Rattle.std.proofs.Common.{◌≡◌, ◌∙◌, ◌+◌, ◌-◌, ◌<◌, ◌≤◌, ◌⊎◌, inl, inr, ℕ, zero, suc, Bool, true, false, cond, List}
use Rattle.std.proofs.Common.{[], ◌∷◌}
use Rattle.std.proofs.Common.{◌++◌, length, map, refl, sym, ap, subst, arith}
use Rattle.std.specs.Prelude.{All, AllPairs, Contains, slice_index_or}
use Rattle.std.specs.List.{filter, flat_map, range_with_len}
use Rattle.std.proofs.lemmas.Bool.{true≢false}
use Rattle.std.proofs.lemmas.List.Elements.{All-cons, All-nil}
use Rattle.std.proofs.lemmas.List.Kept.{AllPairs-cons}

-- an element of a list
abbrev pub In : {A : Type 0} → List A → A → Type 0
In [] y = ⊥
In (x ∷ xs) y = (x ≡ y) ⊎ In xs y

in_left : {A : Type 0} (xs ys : List A) (y : A) → In xs y → In (xs ++ ys) y
in_left [] ys y h = absurd h
in_left (x ∷ xs) ys y (inl e) = inl e
in_left (x ∷ xs) ys y (inr h) = inr (in_left xs ys y h)

in_right : {A : Type 0} (xs ys : List A) (y : A) → In ys y → In (xs ++ ys) y
in_right [] ys y h = h
in_right (x ∷ xs) ys y h = inr (in_right xs ys y h)

pub in_cases : {A : Type 0} (xs ys : List A) (y : A) → In (xs ++ ys) y → In xs y ⊎ In ys y
in_cases [] ys y h = inr h
in_cases (x ∷ xs) ys y (inl e) = inl (inl e)
in_cases (x ∷ xs) ys y (inr h) = elim (in_cases xs ys y h) [ inl g ↦ inl (inr g) | inr g ↦ inr g ]

-- ---- pieces, a function's values, numbers one after the other, and what passes a test

pub to_piece : {X A : Type 0} (f : X → List A) (xs : List X) (x : X) (y : A) →
    In xs x →
    In (f x) y →
    In (flat_map f xs) y
to_piece f [] x y h g = absurd h
to_piece f (z ∷ zs) x y (inl e) g = in_left (f z) (flat_map f zs) y (subst (λ w. In (f w) y) (sym e) g)
to_piece f (z ∷ zs) x y (inr h) g = in_right (f z) (flat_map f zs) y (to_piece f zs x y h g)

pub from_piece : {X A : Type 0} (f : X → List A) (xs : List X) (y : A) →
    In (flat_map f xs) y →
    (x : X) × In xs x × In (f x) y
from_piece f [] y h = absurd h
from_piece f (z ∷ zs) y h =
    elim (in_cases (f z) (flat_map f zs) y h) [
      | inl g ↦ (z, inl refl, g)
      | inr g ↦
          let more = from_piece f zs y g in
          (more.0, inr more.1, more.2)
    ]

pub to_map : {X A : Type 0} (f : X → A) (xs : List X) (x : X) → In xs x → In (map f xs) (f x)
to_map f [] x h = absurd h
to_map f (z ∷ zs) x (inl e) = inl (ap f e)
to_map f (z ∷ zs) x (inr h) = inr (to_map f zs x h)

pub from_map : {X A : Type 0} (f : X → A) (xs : List X) (y : A) →
    In (map f xs) y →
    (x : X) × In xs x × (f x ≡ y)
from_map f [] y h = absurd h
from_map f (z ∷ zs) y (inl e) = (z, inl refl, e)
from_map f (z ∷ zs) y (inr h) =
    let more = from_map f zs y h in
    (more.0, inr more.1, more.2)

to_range_at : (a n k : ℕ) → k < n → In (range_with_len a n) (a + k)
to_range_at a zero k h = absurd (omega arith)
to_range_at a (suc n) zero h =
    let e : a ≡ a + 0 = omega arith in
    inl e
to_range_at a (suc n) (suc k) h =
    let e : a + 1 + k ≡ a + suc k = omega arith in
    inr (subst (In (range_with_len (a + 1) n)) e (to_range_at (a + 1) n k (omega arith)))

pub to_range : (a n i : ℕ) → a ≤ i → i < a + n → In (range_with_len a n) i
to_range a n i low high =
    let e : a + (i - a) ≡ i = omega arith in
    subst (In (range_with_len a n)) e (to_range_at a n (i - a) (omega arith))

pub from_range : (a n i : ℕ) → In (range_with_len a n) i → (a ≤ i) × (i < a + n)
from_range a zero i h = absurd h
from_range a (suc n) i (inl e) = (omega (arith, e), omega (arith, e))
from_range a (suc n) i (inr h) =
    let more = from_range (a + 1) n i h in
    (omega (arith, more.0), omega (arith, more.1))

pub to_filter : {A : Type 0} (p : A → Bool) (xs : List A) (x : A) → p x ≡ true → In xs x → In (filter p xs) x
to_filter p [] x ok h = absurd h
to_filter {A} p (z ∷ zs) x ok h = go (p z) refl h (λ g. to_filter p zs x ok g)
  where
    go : (b : Bool) →
        p z ≡ b →
        (z ≡ x) ⊎ In zs x →
        (In zs x → In (filter p zs) x) →
        In (cond b (z ∷ filter p zs) (filter p zs)) x
    go true e (inl same) ih = inl same
    go true e (inr g) ih = inr (ih g)
    go false e (inl same) ih = absurd (true≢false (sym ok ∙ ap p (sym same) ∙ e))
    go false e (inr g) ih = ih g

pub from_filter : {A : Type 0} (p : A → Bool) (xs : List A) (x : A) → In (filter p xs) x → In xs x × (p x ≡ true)
from_filter p [] x h = absurd h
from_filter p (z ∷ zs) x h = go (p z) refl (λ g. from_filter p zs x g) h
  where
    go : (b : Bool) →
        p z ≡ b →
        (In (filter p zs) x → In zs x × (p x ≡ true)) →
        In (cond b (z ∷ filter p zs) (filter p zs)) x →
        ((z ≡ x) ⊎ In zs x) × (p x ≡ true)
    go true e ih (inl same) = (inl same, ap p (sym same) ∙ e)
    go true e ih (inr g) = (inr (ih g).0, (ih g).1)
    go false e ih g = (inr (ih g).0, (ih g).1)

-- ---- the same by index

in_at : {A : Type 0} (xs : List A) (x : A) (k : ℕ) → k < length xs → slice_index_or xs k x ≡ x → In xs x
in_at [] x k h e = absurd (omega arith)
in_at (y ∷ ys) x zero h e = inl e
in_at (y ∷ ys) x (suc k) h e = inr (in_at ys x k (omega arith) e)

pub in_from_contains : {A : Type 0} (xs : List A) (x : A) → Contains xs x → In xs x
in_from_contains xs x c = in_at xs x c.0 c.1 c.2

pub contains_from_in : {A : Type 0} (xs : List A) (x : A) → In xs x → Contains xs x
contains_from_in [] x h = absurd h
contains_from_in (y ∷ ys) x (inl e) = (0, omega arith, e)
contains_from_in (y ∷ ys) x (inr h) =
    let more = contains_from_in ys x h in
    (suc more.0, omega (arith, more.1), more.2)

all_from_in : {A : Type 0} (P : A → Type 0) (xs : List A) → ((x : A) → In xs x → P x) → All P xs
all_from_in P [] each = All-nil P
all_from_in P (x ∷ xs) each = All-cons P x xs (each x (inl refl)) (all_from_in P xs (λ y h. each y (inr h)))

-- ---- pairs of elements

-- R holds of each element and each later one
abbrev pub Pairs : {A : Type 0} → (A → A → Type 0) → List A → Type 0
Pairs R [] = Unit {0}
Pairs {A} R (x ∷ xs) = ((y : A) → In xs y → R x y) × Pairs R xs

pub all_pairs : {A : Type 0} (R : A → A → Type 0) (xs : List A) → Pairs R xs → AllPairs R xs
all_pairs R [] p = λ i j d below within. absurd (omega (arith, below, within))
all_pairs R (x ∷ xs) p = AllPairs-cons R x xs (all_from_in (R x) xs p.0) (all_pairs R xs p.1)

pub pairs_weaker : {A : Type 0} (R S : A → A → Type 0) (xs : List A) →
    Pairs R xs →
    ((x y : A) → In xs x → In xs y → R x y → S x y) →
    Pairs S xs
pairs_weaker R S [] p weaker = tt
pairs_weaker R S (x ∷ xs) p weaker =
    ((λ y h. weaker x y (inl refl) (inr h) (p.0 y h)), pairs_weaker R S xs p.1 (λ a b h g. weaker a b (inr h) (inr g)))

pairs_append : {A : Type 0} (R : A → A → Type 0) (xs ys : List A) →
    Pairs R xs →
    Pairs R ys →
    ((x y : A) → In xs x → In ys y → R x y) →
    Pairs R (xs ++ ys)
pairs_append R [] ys p q across = q
pairs_append R (x ∷ xs) ys p q across = (
  (λ y h. elim (in_cases xs ys y h) [ inl g ↦ p.0 y g | inr g ↦ across x y (inl refl) g ]),
  pairs_append R xs ys p.1 q (λ a b h g. across a b (inr h) g),
)

pub pairs_pieces : {X A : Type 0} (Q : X → X → Type 0) (R : A → A → Type 0) (f : X → List A) (xs : List X) →
    Pairs Q xs →
    ((x : X) → In xs x → Pairs R (f x)) →
    ((x z : X) (y w : A) → Q x z → In (f x) y → In (f z) w → R y w) →
    Pairs R (flat_map f xs)
pairs_pieces Q R f [] p each across = tt
pairs_pieces Q R f (x ∷ xs) p each across =
    pairs_append R (f x) (flat_map f xs) (each x (inl refl))
    (pairs_pieces Q R f xs p.1 (λ z h. each z (inr h)) across)
    (λ y w h g.
    let from = from_piece f xs w g in
    across x from.0 y w (p.0 from.0 from.1) h from.2)

pub pairs_map : {X A : Type 0} (Q : X → X → Type 0) (R : A → A → Type 0) (f : X → A) (xs : List X) →
    Pairs Q xs →
    ((x z : X) → In xs x → In xs z → Q x z → R (f x) (f z)) →
    Pairs R (map f xs)
pairs_map Q R f [] p keep = tt
pairs_map Q R f (x ∷ xs) p keep = (
  (λ y h.
      let from = from_map f xs y h in
      subst (R (f x)) from.2 (keep x from.0 (inl refl) (inr from.1) (p.0 from.0 from.1))),
  pairs_map Q R f xs p.1 (λ a b h g. keep a b (inr h) (inr g)),
)

pub pairs_range : (a n : ℕ) → Pairs (λ i j. i < j) (range_with_len a n)
pairs_range a zero = tt
pairs_range a (suc n) = (
  (λ y h.
      let within = from_range (a + 1) n y h in
      omega (arith, within.0)),
  pairs_range (a + 1) n,
)

pub pairs_filter : {A : Type 0} (R : A → A → Type 0) (p : A → Bool) (xs : List A) → Pairs R xs → Pairs R (filter p xs)
pairs_filter R p [] h = tt
pairs_filter {A} R p (z ∷ zs) h = go (p z) (pairs_filter R p zs h.1)
  where
    go : (b : Bool) → Pairs R (filter p zs) → Pairs R (cond b (z ∷ filter p zs) (filter p zs))
    go true ih = ((λ y g. h.0 y (from_filter p zs y g).0), ih)
    go false ih = ih
