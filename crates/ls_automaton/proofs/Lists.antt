-- Elements of lists that are put one behind another, and lists that are the same.
use Rattle.std.proofs.Common.{◌≡◌, ◌⊎◌, inl, inr, ℕ, zero, suc, ◌+◌, ◌<◌, ◌≤◌, List, [], ◌∷◌, ◌++◌, Some, None}
use Rattle.std.proofs.Common.{Contains, length, slice_get, slice_index_or, take, refl, sym, ap, ◌∙◌, subst, arith}
use Rattle.std.proofs.lemmas.Bool.{cases_lt}
use Rattle.ls_linearizable.proofs.There.{there_cases, there_first, there_later, there_not}
use Rattle.ls_serial.proofs.Lists.{get_contains, contains_get, get_take, take_get, some_is, get_within, is_get}

module _ {A : Type 0} where
  pub in_first : (xs ys : List A) (x : A) → Contains xs x → Contains (xs ++ ys) x
  in_first [] ys x there = absurd (there_not x there)
  in_first (y ∷ xs) ys x there = by_place (in_first xs ys x) (there_cases y x xs there)
    where
      by_place : (Contains xs x → Contains (xs ++ ys) x) → (y ≡ x) ⊎ Contains xs x → Contains (y ∷ (xs ++ ys)) x
      by_place more (inl is) = subst (Contains (y ∷ (xs ++ ys))) is (there_first y (xs ++ ys))
      by_place more (inr later) = there_later y x (xs ++ ys) (more later)

  pub in_second : (xs ys : List A) (x : A) → Contains ys x → Contains (xs ++ ys) x
  in_second [] ys x there = there
  in_second (y ∷ xs) ys x there = there_later y x (xs ++ ys) (in_second xs ys x there)

  pub in_both : (xs ys : List A) (x : A) → Contains (xs ++ ys) x → Contains xs x ⊎ Contains ys x
  in_both [] ys x there = inr there
  in_both (y ∷ xs) ys x there = by_place (in_both xs ys x) (there_cases y x (xs ++ ys) there)
    where
      by_more : Contains xs x ⊎ Contains ys x → Contains (y ∷ xs) x ⊎ Contains ys x
      by_more (inl one) = inl (there_later y x xs one)
      by_more (inr two) = inr two

      by_place : (Contains (xs ++ ys) x → Contains xs x ⊎ Contains ys x) → (y ≡ x) ⊎ Contains (xs ++ ys) x →
          Contains (y ∷ xs) x ⊎ Contains ys x
      by_place more (inl is) = inl (subst (Contains (y ∷ xs)) is (there_first y xs))
      by_place more (inr later) = by_more (more later)

  -- the place of an element of two lists is in the first, or not before its end
  pub get_first : (xs ys : List A) (k : ℕ) (x : A) → k < length xs → slice_get (xs ++ ys) k ≡ Some x →
      slice_get xs k ≡ Some x
  get_first [] ys k x lt h = absurd (omega (arith, lt))
  get_first (y ∷ xs) ys zero x lt h = h
  get_first (y ∷ xs) ys (suc k) x lt h = get_first xs ys k x (omega (arith, lt)) h

  pub get_of_first : (xs ys : List A) (k : ℕ) (x : A) → slice_get xs k ≡ Some x → slice_get (xs ++ ys) k ≡ Some x
  get_of_first [] ys k x h = absurd (none h)
    where
      none : None ≡ Some x → ⊥
      none p = cc
  get_of_first (y ∷ xs) ys zero x h = h
  get_of_first (y ∷ xs) ys (suc k) x h = get_of_first xs ys k x h

  pub take_first : (xs ys : List A) (k : ℕ) → k ≤ length xs → take k (xs ++ ys) ≡ take k xs
  take_first [] ys zero le = nothing ys
    where
      nothing : (zs : List A) → take zero zs ≡ take zero []
      nothing [] = refl
      nothing (z ∷ zs) = refl
  take_first [] ys (suc k) le = absurd (omega (arith, le))
  take_first (y ∷ xs) ys zero le = refl
  take_first (y ∷ xs) ys (suc k) le = ap (λ l. y ∷ l) (take_first xs ys k (omega (arith, le)))

  -- what is in the first list is among the first of both, where these go so far
  pub in_take_first : (xs ys : List A) (k : ℕ) (x : A) → length xs ≤ k → Contains xs x → Contains (take k (xs ++ ys)) x
  in_take_first xs ys k x le there =
      let at = contains_get xs x there in
      get_contains (take k (xs ++ ys)) at.0 x (get_take k (xs ++ ys) at.0 x
      (omega (arith, le, get_within xs at.0 x at.1)) (get_of_first xs ys at.0 x at.1))

  pub in_take : (xs : List A) (k : ℕ) (x : A) → Contains (take k xs) x → Contains xs x
  in_take xs k x there =
      let at = contains_get (take k xs) x there in get_contains xs at.0 x (take_get k xs at.0 x at.1).1

  -- the last place
  pub get_last : (xs : List A) (y : A) (k : ℕ) (x : A) → slice_get (xs ++ y ∷ []) k ≡ Some x →
      (k < length xs) ⊎ ((k ≡ length xs) × (y ≡ x))
  get_last [] y zero x h = inr (refl, some_is h)
  get_last [] y (suc k) x h = absurd (none h)
    where
      none : None ≡ Some x → ⊥
      none p = cc
  get_last (z ∷ xs) y zero x h = inl (omega arith)
  get_last (z ∷ xs) y (suc k) x h = more (get_last xs y k x h)
    where
      more : (k < length xs) ⊎ ((k ≡ length xs) × (y ≡ x)) → (suc k < suc (length xs)) ⊎
          ((suc k ≡ suc (length xs)) × (y ≡ x))
      more (inl lt) = inl (omega (arith, lt))
      more (inr (e, is)) = inr (ap suc e, is)

  pub at_last : (xs : List A) (y : A) → slice_get (xs ++ y ∷ []) (length xs) ≡ Some y
  at_last [] y = refl
  at_last (z ∷ xs) y = at_last xs y

  pub get_of_second : (xs ys : List A) (k : ℕ) (x : A) → slice_get ys k ≡ Some x →
      slice_get (xs ++ ys) (length xs + k) ≡ Some x
  get_of_second [] ys k x h = subst (λ n. slice_get ys n ≡ Some x) zero_more h
    where
      zero_more : k ≡ 0 + k
      zero_more = omega arith
  get_of_second (y ∷ xs) ys k x h =
      subst (λ n. slice_get (y ∷ (xs ++ ys)) n ≡ Some x) one_more (get_of_second xs ys k x h)
    where
      one_more : suc (length xs + k) ≡ suc (length xs) + k
      one_more = omega arith

  pub take_more : (xs : List A) (k : ℕ) (x : A) → slice_get xs k ≡ Some x → take (suc k) xs ≡ take k xs ++ x ∷ []
  take_more [] k x h = absurd (none h)
    where
      none : None ≡ Some x → ⊥
      none p = cc
  take_more (y ∷ xs) zero x h = ap (λ l. y ∷ l) (nothing xs) ∙ ap (λ z. z ∷ []) (some_is h)
    where
      nothing : (zs : List A) → take 0 zs ≡ []
      nothing [] = refl
      nothing (z ∷ zs) = refl
  take_more (y ∷ xs) (suc k) x h = ap (λ l. y ∷ l) (take_more xs k x h)

  pub take_all : (xs : List A) → take (length xs) xs ≡ xs
  take_all [] = refl
  take_all (y ∷ xs) = ap (λ l. y ∷ l) (take_all xs)

  pub append_assoc : (xs ys zs : List A) → (xs ++ ys) ++ zs ≡ xs ++ (ys ++ zs)
  append_assoc [] ys zs = refl
  append_assoc (x ∷ xs) ys zs = ap (λ l. x ∷ l) (append_assoc xs ys zs)

  -- the first elements are the same, so many
  abbrev pub AreFirstSame : List A → List A → ℕ → Type 0
  AreFirstSame xs ys i = (k : ℕ) → k < i → slice_get xs k ≡ slice_get ys k

  pub first_same_more : (xs ys : List A) (i : ℕ) (d d' : A) → AreFirstSame xs ys i → i < length xs → i < length ys →
      slice_index_or xs i d ≡ slice_index_or ys i d' → AreFirstSame xs ys (i + 1)
  first_same_more xs ys i d d' before in_xs in_ys same k less = by_place (cases_lt k i)
    where
      by_place : (k < i) ⊎ (i ≤ k) → slice_get xs k ≡ slice_get ys k
      by_place (inl lt) = before k lt
      by_place (inr past) =
          let is : k ≡ i = omega (arith, past, less) in
          ap (slice_get xs) is ∙ is_get xs i d in_xs ∙ ap Some same ∙ sym (is_get ys i d' in_ys)
          ∙ ap (slice_get ys) (sym is)

  pub first_same_all : (xs ys : List A) (i : ℕ) → length xs ≡ length ys → length xs ≤ i → AreFirstSame xs ys i →
      xs ≡ ys
  first_same_all [] [] i long all same = refl
  first_same_all [] (y ∷ ys) i long all same = absurd (omega (arith, long))
  first_same_all (x ∷ xs) [] i long all same = absurd (omega (arith, long))
  first_same_all (x ∷ xs) (y ∷ ys) zero long all same = absurd (omega (arith, all))
  first_same_all (x ∷ xs) (y ∷ ys) (suc i) long all same =
      let one : x ≡ y = some_is (same 0 (omega arith)) in
      let more = first_same_all xs ys i (omega (arith, long)) (omega (arith, all))
      (λ k less. same (suc k) (omega (arith, less))) in
      ap (λ z. z ∷ xs) one ∙ ap (λ l. y ∷ l) more
