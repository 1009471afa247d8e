-- Lists that show the same, one element after another.
use Rattle.std.proofs.Common.{◌≡◌, ℕ, ◌+◌, ◌<◌, ◌≤◌, List, [], ◌∷◌, ◌++◌, length, map, take, get_or, sym, ap, ◌∙◌}
use Rattle.std.proofs.lemmas.List.{map-append, take_more, take_all}

module _ {A B : Type 0} (f : A → B) where
  pub same_more : (xs ys : List A) (i : ℕ) (d e : A) →
      i < length xs →
      i < length ys →
      map f (take i xs) ≡ map f (take i ys) →
      f (get_or xs i d) ≡ f (get_or ys i e) →
      map f (take (i + 1) xs) ≡ map f (take (i + 1) ys)
  same_more xs ys i d e hx hy before here =
      ap (map f) (take_more xs i d hx) ∙ map-append f (take i xs) (get_or xs i d ∷ [])
      ∙ ap (λ l. l ++ f (get_or xs i d) ∷ []) before
      ∙ ap (λ z. map f (take i ys) ++ z ∷ []) here
      ∙ sym (ap (map f) (take_more ys i e hy) ∙ map-append f (take i ys) (get_or ys i e ∷ []))

  pub same_all : (xs ys : List A) (n : ℕ) →
      length xs ≤ n →
      length ys ≤ n →
      map f (take n xs) ≡ map f (take n ys) →
      map f xs ≡ map f ys
  same_all xs ys n hx hy h = sym (ap (map f) (take_all n xs hx)) ∙ h ∙ ap (map f) (take_all n ys hy)
