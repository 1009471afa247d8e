-- Lists of images.
use Rattle.std.proofs.Common.{◌≡◌, ℕ, zero, suc, ◌<◌, List, [], ◌∷◌, length, map, refl, ap, arith}
use Rattle.std.specs.Prelude.{Contains, slice_index_or}

module _ {A B : Type 0} (f : A → B) where
  later : (x : A) (xs : List A) (y : A) → Contains xs y → Contains (x ∷ xs) y
  later x xs y (i, lt, e) = (suc i, omega arith, e)

  -- an image is one of an item
  pub mapped : (xs : List A) (y : B) → Contains (map f xs) y → (x : A) × Contains xs x × (f x ≡ y)
  mapped [] y (i, lt, e) = absurd (omega arith)
  mapped (x ∷ xs) y (zero, lt, e) = (x, (0, omega arith, refl), e)
  mapped (x ∷ xs) y (suc i, lt, e) =
      let r = mapped xs y (i, omega arith, e) in (r.0, later x xs r.0 r.1, r.2)

  -- the image of an item is there
  pub image_there : (xs : List A) (x : A) → Contains xs x → Contains (map f xs) (f x)
  image_there [] x (i, lt, e) = absurd (omega arith)
  image_there (y ∷ ys) x (zero, lt, e) = (0, omega arith, ap f e)
  image_there (y ∷ ys) x (suc i, lt, e) =
      let r = image_there ys x (i, omega arith, e) in (suc r.0, omega (arith, r.1), r.2)

  -- the image at a place
  pub index_image : (xs : List A) (i : ℕ) (d : B) (a : A) → i < length xs →
      slice_index_or (map f xs) i d ≡ f (slice_index_or xs i a)
  index_image [] i d a lt = absurd (omega arith)
  index_image (x ∷ xs) zero d a lt = refl
  index_image (x ∷ xs) (suc i) d a lt = index_image xs i d a (omega arith)

  pub item : (xs : List A) (i : ℕ) → i < length xs → A
  item [] i lt = absurd (omega arith)
  item (x ∷ xs) i lt = x
