-- Pairs of which those are left out that another one covers.
use Rattle.std.proofs.Common.{◌≡◌, ◌⊎◌, inl, inr, ℕ, ◌+◌, ◌<◌, ◌≤◌, List, [], ◌∷◌, ◌++◌, Some, Contains, length}
use Rattle.std.proofs.Common.{slice_get, slice_index_or, sym, ap, ◌∙◌, subst, arith}
use Rattle.std.proofs.lemmas.List.Elements.{AllWithin-more}
use Rattle.std.specs.List.{AllWithin}
use Rattle.std.specs.declared.vec.Vec.{Vec}
use Rattle.std.specs.declared.alloc.Global.{Global}
use Rattle.ls_linearizable.proofs.There.{there_cases, there_first, there_not}
use Rattle.ls_serial.proofs.Lists.{is_get, some_is}
use Rattle.ls_automaton.specs.declared.outcome.Outcome.{Outcome}
use Rattle.ls_automaton.specs.declared.pairs.Pair.{Pair}
use Rattle.ls_automaton.specs.Held.{AreAmong, Covers, Held, IsCovered, IsTaking, held_of, helds_of, row_of}
use Rattle.ls_automaton.proofs.Ending.{helds_both, helds_there, of_helds}
use Rattle.ls_automaton.proofs.Lists.{in_both, in_first, in_second}

-- ---- what is found in a list, or not

-- the element at this place is there
found_there : {A : Type 0} (xs : List A) (i : ℕ) (x : A) → i < length xs → x ≡ slice_index_or xs i x → Contains xs x
found_there xs i x less is = (i, less, sym is)

-- what holds of none of the first holds of none, if these are all
none_there : {A : Type 0} (P : A → Type 0) (xs : List A) (i : ℕ) → length xs ≤ i →
    AllWithin (λ x. P x → ⊥) xs 0 i → (x : A) → Contains xs x → P x → ⊥
none_there P xs i all none x there holds =
    none there.0 x (omega arith) (omega (arith, all, there.1)) (subst P (sym there.2) holds)

module _ (rows : List (Vec Outcome Global)) where
  -- one of the outcomes leads to the pair
  pub covers_by : (p q : Held) (row : List Outcome) (i : ℕ) (o : Outcome) → row ≡ row_of (slice_get rows p.state) →
      i < length row → o ≡ slice_index_or row i o → IsTaking p o q → Covers rows p q
  covers_by p q row i o own less is taking = record {
    outcome = o;
    there = subst (λ l. Contains l o) own (found_there row i o less is);
    is = taking;
  }

  pub covers_none : (p q : Held) (row : List Outcome) (i : ℕ) → row ≡ row_of (slice_get rows p.state) →
      length row ≤ i → AllWithin (λ o. IsTaking p o q → ⊥) row 0 i → Covers rows p q → ⊥
  covers_none p q row i own all none c =
      none_there (λ o. IsTaking p o q) row i all none c.outcome
      (subst (λ l. Contains l c.outcome) (sym own) c.there) c.is

  -- one of the pairs covers it
  pub covered_by : (pairs : List Pair) (q : Held) (i : ℕ) (p : Pair) → i < length pairs →
      p ≡ slice_index_or pairs i p → Covers rows (held_of p) q → IsCovered rows (helds_of pairs) q
  covered_by pairs q i p less is covers = record {
    pair = held_of p;
    there = helds_there pairs p (found_there pairs i p less is);
    covers = covers;
  }

  pub covered_none : (pairs : List Pair) (q : Held) (i : ℕ) → length pairs ≤ i →
      AllWithin (λ p. Covers rows (held_of p) q → ⊥) pairs 0 i → IsCovered rows (helds_of pairs) q → ⊥
  covered_none pairs q i all none k =
      let p = of_helds pairs k.pair k.there in
      none_there (λ p. Covers rows (held_of p) q) pairs i all none p.0 p.1
      (subst (λ z. Covers rows z q) (sym p.2) k.covers)

  -- ---- pair by pair

  abbrev IsKeptOrCovered : List Pair → List Pair → Pair → Type 0
  IsKeptOrCovered pairs left p =
      Contains (helds_of left) (held_of p) ⊎ IsCovered rows (helds_of pairs) (held_of p)

  -- of the first pairs those are left that none of all covers
  pub record AreLeft (pairs left : List Pair) (i : ℕ) : Type 0 where
    pub new : AreAmong (helds_of left) (helds_of pairs)
    pub lost : AllWithin (IsKeptOrCovered pairs left) pairs 0 i
    pub none : (q : Held) → Contains (helds_of left) q → IsCovered rows (helds_of pairs) q → ⊥

  pub left_first : (pairs left : List Pair) → left ≡ [] → AreLeft pairs left 0
  left_first pairs left nothing = record {
    new = λ h there. absurd (never h there);
    lost = λ k d least less. absurd (omega (arith, less));
    none = λ h there. absurd (never h there);
  }
    where
      never : (h : Held) → Contains (helds_of left) h → ⊥
      never h there = there_not h (subst (λ l. Contains (helds_of l) h) nothing there)

  pub left_all : (pairs left : List Pair) (i : ℕ) → length pairs ≤ i → AreLeft pairs left i → (q : Held) →
      Contains (helds_of pairs) q → Contains (helds_of left) q ⊎ IsCovered rows (helds_of pairs) q
  left_all pairs left i all l q there =
      let p = of_helds pairs q there in
      subst (λ z. Contains (helds_of left) z ⊎ IsCovered rows (helds_of pairs) z) p.2
      (subst (IsKeptOrCovered pairs left) p.1.2 (l.lost p.1.0 p.0 (omega arith) (omega (arith, all, p.1.1))))

  module _ (pairs left : List Pair) (i : ℕ) (l : AreLeft pairs left i) (p : Pair) (less : i < length pairs)
      (is : p ≡ slice_index_or pairs i p) where
    -- the next pair is at its place whatever stands for none
    at_place : (d : Pair) → p ≡ slice_index_or pairs i d
    at_place d = some_is (ap Some is ∙ sym (is_get pairs i p less) ∙ is_get pairs i d less)

    pub left_covered : IsCovered rows (helds_of pairs) (held_of p) → AreLeft pairs left (i + 1)
    left_covered covered = record {
      new = l.new;
      lost = AllWithin-more (IsKeptOrCovered pairs left) pairs 0 i l.lost
          (λ d. subst (IsKeptOrCovered pairs left) (at_place d) (inr covered));
      none = l.none;
    }

    pub left_on : (copy : Pair) → held_of copy ≡ held_of p →
        (IsCovered rows (helds_of pairs) (held_of p) → ⊥) → (more : List Pair) → more ≡ left ++ copy ∷ [] →
        AreLeft pairs more (i + 1)
    left_on copy same uncovered more pushed = record {
      new = λ h there. by_new h (of_more h there);
      lost = AllWithin-more (IsKeptOrCovered pairs more) pairs 0 i
          (λ k d least before. still (slice_index_or pairs k d) (l.lost k d least before))
          (λ d. subst (IsKeptOrCovered pairs more) (at_place d) (inl own));
      none = λ h there. by_none h (of_more h there);
    }
      where
        both : helds_of more ≡ helds_of left ++ helds_of (copy ∷ [])
        both = ap helds_of pushed ∙ helds_both left (copy ∷ [])

        own : Contains (helds_of more) (held_of p)
        own = subst (λ x. Contains x (held_of p)) (sym both)
            (in_second (helds_of left) (helds_of (copy ∷ [])) (held_of p)
            (subst (Contains (helds_of (copy ∷ []))) same (there_first (held_of copy) [])))

        of_more : (h : Held) → Contains (helds_of more) h → Contains (helds_of left) h ⊎ (held_of p ≡ h)
        of_more h there = by_place (in_both (helds_of left) (helds_of (copy ∷ [])) h
            (subst (λ x. Contains x h) both there))
          where
            by_last : (held_of copy ≡ h) ⊎ Contains [] h → Contains (helds_of left) h ⊎ (held_of p ≡ h)
            by_last (inl it) = inr (sym same ∙ it)
            by_last (inr nothing) = absurd (there_not h nothing)

            by_place : Contains (helds_of left) h ⊎ Contains (helds_of (copy ∷ [])) h →
                Contains (helds_of left) h ⊎ (held_of p ≡ h)
            by_place (inl one) = inl one
            by_place (inr two) = by_last (there_cases (held_of copy) h [] two)

        by_new : (h : Held) → Contains (helds_of left) h ⊎ (held_of p ≡ h) → Contains (helds_of pairs) h
        by_new h (inl old) = l.new h old
        by_new h (inr it) = subst (Contains (helds_of pairs)) it (helds_there pairs p (found_there pairs i p less is))

        by_none : (h : Held) → Contains (helds_of left) h ⊎ (held_of p ≡ h) → IsCovered rows (helds_of pairs) h → ⊥
        by_none h (inl old) k = l.none h old k
        by_none h (inr it) k = uncovered (subst (IsCovered rows (helds_of pairs)) (sym it) k)

        still : (z : Pair) → IsKeptOrCovered pairs left z → IsKeptOrCovered pairs more z
        still z (inl there) = inl (subst (λ x. Contains x (held_of z)) (sym both)
            (in_first (helds_of left) (helds_of (copy ∷ [])) (held_of z) there))
        still z (inr covered) = inr covered
