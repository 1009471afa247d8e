-- Two lists that are the same, one by one.
use Rattle.std.proofs.Common.{◌≡◌, ◌∙◌, ◌+◌, ◌<◌, ◌≤◌, ℕ, Bool, true, false, zero, suc, List, [], ◌∷◌, ap, arith}
use Rattle.std.proofs.Common.{get_or, length, map, refl, sym, take}
use Rattle.std.specs.Bool.{Decides}

head_is : {X : Type 0} {a b : X} {xs ys : List X} → a ∷ xs ≡ b ∷ ys → a ≡ b
head_is e = cc

tail_is : {X : Type 0} {a b : X} {xs ys : List X} → a ∷ xs ≡ b ∷ ys → xs ≡ ys
tail_is e = cc

no_truth : false ≡ true → ⊥
no_truth e = cc

-- what isn't so, since it would make something else so that isn't
pub refuted : (r : Bool) (P Q : Type 0) → Decides r P → r ≡ false → (Q → P) → Decides false Q
refuted r P Q decides isnt from = ((λ e. absurd (no_truth e)), (λ q. sym isnt ∙ decides.1 (from q)))

-- one function of one list after another
pub map_twice : {X Y Z : Type 0} (g : Y → Z) (f : X → Y) (xs : List X) → map g (map f xs) ≡ map (λ x. g (f x)) xs
map_twice g f [] = refl
map_twice g f (x ∷ xs) = ap (λ l. g (f x) ∷ l) (map_twice g f xs)

module _ {X Y : Type 0} (f : X → Y) where
  pub same_long : (xs ys : List X) → map f xs ≡ map f ys → length xs ≡ length ys
  same_long [] [] e = refl
  same_long [] (y ∷ ys) e = cc
  same_long (x ∷ xs) [] e = cc
  same_long (x ∷ xs) (y ∷ ys) e = ap suc (same_long xs ys (tail_is e))

  pub same_at : (xs ys : List X) (i : ℕ) (x y : X) → i < length xs → i < length ys → map f xs ≡ map f ys →
      f (get_or xs i x) ≡ f (get_or ys i y)
  same_at [] ys i x y within inside e = absurd (omega (arith, within))
  same_at (z ∷ xs) [] i x y within inside e = absurd (omega (arith, inside))
  same_at (z ∷ xs) (w ∷ ys) zero x y within inside e = head_is e
  same_at (z ∷ xs) (w ∷ ys) (suc i) x y within inside e =
      same_at xs ys i x y (omega (arith, within)) (omega (arith, inside)) (tail_is e)

  same_suc : (xs ys : List X) (i : ℕ) (x y : X) → i < length xs → i < length ys →
      take i (map f xs) ≡ take i (map f ys) → f (get_or xs i x) ≡ f (get_or ys i y) →
      take (suc i) (map f xs) ≡ take (suc i) (map f ys)
  same_suc [] ys i x y within inside e at = absurd (omega (arith, within))
  same_suc (z ∷ xs) [] i x y within inside e at = absurd (omega (arith, inside))
  same_suc (z ∷ xs) (w ∷ ys) zero x y within inside e at = ap (λ v. v ∷ []) at
  same_suc (z ∷ xs) (w ∷ ys) (suc i) x y within inside e at =
      ap (λ v. v ∷ take (suc i) (map f xs)) (head_is e) ∙
      ap (λ l. f w ∷ l) (same_suc xs ys i x y (omega (arith, within)) (omega (arith, inside)) (tail_is e) at)

  pub same_next : (xs ys : List X) (i : ℕ) (x y : X) → i < length xs → i < length ys →
      take i (map f xs) ≡ take i (map f ys) → f (get_or xs i x) ≡ f (get_or ys i y) →
      take (i + 1) (map f xs) ≡ take (i + 1) (map f ys)
  same_next xs ys i x y within inside e at =
      let one : i + 1 ≡ suc i = omega arith in
      ap (λ k. take k (map f xs)) one ∙ same_suc xs ys i x y within inside e at ∙ ap (λ k. take k (map f ys)) (sym one)

  take_most : (xs : List X) (i : ℕ) → length xs ≤ i → take i (map f xs) ≡ map f xs
  take_most [] zero over = refl
  take_most [] (suc i) over = refl
  take_most (x ∷ xs) zero over = absurd (omega (arith, over))
  take_most (x ∷ xs) (suc i) over = ap (λ l. f x ∷ l) (take_most xs i (omega (arith, over)))

  pub same_all : (xs ys : List X) (i : ℕ) → length xs ≡ length ys → length xs ≤ i →
      take i (map f xs) ≡ take i (map f ys) → map f xs ≡ map f ys
  same_all xs ys i long over e = sym (take_most xs i over) ∙ e ∙ take_most ys i (omega (arith, long, over))

  -- the elements at a place differ
  pub apart_at : (xs ys : List X) (i : ℕ) (x y : X) (r : Bool) → Decides r (f x ≡ f y) → r ≡ false →
      length xs ≡ length ys → i < length xs → x ≡ get_or xs i x → y ≡ get_or ys i y →
      Decides false (map f xs ≡ map f ys)
  apart_at xs ys i x y r decides isnt long within first second =
      refuted r (f x ≡ f y) (map f xs ≡ map f ys) decides isnt
      (λ same. ap f first ∙ same_at xs ys i x y within (omega (arith, within, long)) same ∙ ap f (sym second))

  -- they are the same
  pub one_more : (xs ys : List X) (i : ℕ) (x y : X) (r : Bool) → Decides r (f x ≡ f y) → r ≡ true →
      length xs ≡ length ys → i < length xs → x ≡ get_or xs i x → y ≡ get_or ys i y →
      take i (map f xs) ≡ take i (map f ys) → take (i + 1) (map f xs) ≡ take (i + 1) (map f ys)
  one_more xs ys i x y r decides is long within first second before =
      same_next xs ys i x y within (omega (arith, within, long)) before
      (ap f (sym first) ∙ decides.0 is ∙ ap f second)
