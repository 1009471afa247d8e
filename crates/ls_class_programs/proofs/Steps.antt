-- Loops over what is left of a list, one step on and at the end.
use Rattle.std.proofs.Common.{◌≡◌, ◌∙◌, ◌+◌, ◌<◌, ◌≤◌, ℕ, List, [], ◌∷◌, ◌++◌, length, get_or, drop, map, ap, sym}
use Rattle.std.proofs.Common.{append_assoc}
use Rattle.std.specs.List.{flat_map}
use Rattle.std.proofs.lemmas.List.{append-nil, at_drop_all, at_drop_more, map-append}

module _ {S X Y Z : Type 0} (view : S → Y) (f : Z → Y) (g : X → Z) where
  -- one more element is pushed
  pub pushed : (xs : List X) (i : ℕ) (x : X) (old : List S) (s : S) (all : List Y) →
      i < length xs → x ≡ get_or xs i x →
      map view old ++ map f (map g (drop i xs)) ≡ all → view s ≡ f (g x) →
      map view (old ++ s ∷ []) ++ map f (map g (drop (i + 1) xs)) ≡ all
  pushed xs i x old s all within is before same =
      ap (λ l. l ++ map f (map g (drop (i + 1) xs))) (map-append view old (s ∷ []))
      ∙ append_assoc (map view old) (view s ∷ []) (map f (map g (drop (i + 1) xs)))
      ∙ ap (λ y. map view old ++ (y ∷ map f (map g (drop (i + 1) xs))))
      (same ∙ ap (λ z. f (g z)) is)
      ∙ ap (λ l. map view old ++ l) (sym (at_drop_more (λ l. map f (map g l)) xs i x within))
      ∙ before

  pub all_pushed : (xs : List X) (i : ℕ) (old : List S) (all : List Y) →
      length xs ≤ i → map view old ++ map f (map g (drop i xs)) ≡ all → map view old ≡ all
  all_pushed xs i old all over before =
      sym (append-nil (map view old)) ∙
      ap (λ l. map view old ++ l) (sym (at_drop_all (λ l. map f (map g l)) xs i over)) ∙ before

module _ {X Y Z : Type 0} (f : Z → List Y) (g : X → Z) where
  -- one more piece is added
  pub added : (xs : List X) (i : ℕ) (x : X) (old new all : List Y) →
      i < length xs → x ≡ get_or xs i x →
      old ++ flat_map f (map g (drop i xs)) ≡ all → new ≡ old ++ f (g x) →
      new ++ flat_map f (map g (drop (i + 1) xs)) ≡ all
  added xs i x old new all within is before more =
      ap (λ l. l ++ flat_map f (map g (drop (i + 1) xs))) more
      ∙ append_assoc old (f (g x)) (flat_map f (map g (drop (i + 1) xs)))
      ∙ ap (λ y. old ++ (f (g y) ++ flat_map f (map g (drop (i + 1) xs)))) is
      ∙ ap (λ l. old ++ l) (sym (at_drop_more (λ l. flat_map f (map g l)) xs i x within))
      ∙ before

  pub all_added : (xs : List X) (i : ℕ) (old all : List Y) →
      length xs ≤ i → old ++ flat_map f (map g (drop i xs)) ≡ all → old ≡ all
  all_added xs i old all over before =
      sym (append-nil old) ∙
      ap (λ l. old ++ l) (sym (at_drop_all (λ l. flat_map f (map g l)) xs i over)) ∙ before
