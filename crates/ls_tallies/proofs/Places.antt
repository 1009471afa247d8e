-- Where a row is added, and where its history's row is from then on.
use Rattle.std.proofs.Common.{◌≡◌, ◌∙◌, ◌+◌, ◌<◌, ◌≤◌, ℕ, zero, suc, Bool, true, false, cond, List, [], ◌∷◌, ◌++◌}
use Rattle.std.proofs.Common.{Option, Some, None, length, get_or, set, refl, sym, ap, subst, arith}
use Rattle.std.specs.Prelude.{option_map}
use Rattle.std.specs.Str.{bytes_eq}
use Rattle.std.proofs.lemmas.Slice.Eq.{bytes_eq-Decides}
use Rattle.ls_report.specs.Events.{Text}
use Rattle.ls_report.proofs.CutLemmas.{none_is, some_is}
use Rattle.ls_tallies.specs.Tallies.{added, is_of, joined, Row, total_of}
use Rattle.ls_tallies.specs.Places.{place_in}

none_under : (o : Option ℕ) → option_map suc o ≡ None → o ≡ None
none_under None e = refl
none_under (Some i) e = absurd (none_is (sym e))

some_under : (o : Option ℕ) (j : ℕ) → option_map suc o ≡ Some j → (i : ℕ) × (o ≡ Some i) × (suc i ≡ j)
some_under None j e = absurd (none_is e)
some_under (Some i) j e = (i, refl, some_is e)

-- texts that are equal, as they are compared
pub same_text : (a b : Text) → bytes_eq a b ≡ true → a ≡ b
same_text a b e = (bytes_eq-Decides a b).0 e

pub is_same : (a b : Text) → a ≡ b → bytes_eq a b ≡ true
is_same a b e = (bytes_eq-Decides a b).1 e

pub true_is : {X : Type 0} → true ≡ false → X
true_is e = absurd cc

-- a row of a new history is put at the end
pub added_new : (rows : List Row) (r : Row) → place_in rows r.history ≡ None → added rows r ≡ rows ++ r ∷ []
added_new [] r e = refl
added_new (s ∷ rows) r e = go (is_of r.history s) (λ k. added_new rows r k) e
  where
    go : (b : Bool) →
        (place_in rows r.history ≡ None → added rows r ≡ rows ++ r ∷ []) →
        cond b (Some 0) (option_map suc (place_in rows r.history)) ≡ None
        → cond b (joined s r ∷ rows) (s ∷ added rows r) ≡ s ∷ (rows ++ r ∷ [])
    go true next k = absurd (none_is (sym k))
    go false next k = ap (λ l. s ∷ l) (next (none_under (place_in rows r.history) k))

-- another is joined to the row of its history
pub added_known : (rows : List Row) (r : Row) (j : ℕ) (d : Row) → place_in rows r.history ≡ Some j
    → (j < length rows) × (added rows r ≡ set rows j (joined (get_or rows j d) r))
added_known [] r j d e = absurd (none_is e)
added_known (s ∷ rows) r j d e = go (is_of r.history s) (λ i k. added_known rows r i d k) e
  where
    go : (b : Bool) →
        ((i : ℕ) → place_in rows r.history ≡ Some i → (i < length rows) ×
        (added rows r ≡ set rows i (joined (get_or rows i d) r)))
        → cond b (Some 0) (option_map suc (place_in rows r.history)) ≡ Some j
        → (j < suc (length rows)) × (cond b (joined s r ∷ rows) (s ∷ added rows r) ≡ set (s ∷ rows) j
        (joined (get_or (s ∷ rows) j d) r))
    go true next k =
        subst (λ n. (n < suc (length rows)) × (joined s r ∷ rows ≡ set (s ∷ rows) n (joined (get_or (s ∷ rows) n d) r)))
        (some_is k) (omega arith, refl)
    go false next k =
        let p = some_under (place_in rows r.history) j k in
        let ih = next p.0 p.1 in
        let lt = ih.0 in
        subst (λ n. (n < suc (length rows)) × (s ∷ added rows r ≡ set (s ∷ rows) n (joined (get_or (s ∷ rows) n d) r)))
        p.2 (omega arith, ap (λ l. s ∷ l) ih.1)

-- no row of a history: neither the first nor one of the others
apart : (s : Row) (rows : List Row) (h : Text) →
    place_in (s ∷ rows) h ≡ None →
    (is_of h s ≡ false) × (place_in rows h ≡ None)
apart s rows h e = go (is_of h s) refl e
  where
    go : (b : Bool) →
        is_of h s ≡ b →
        cond b (Some 0) (option_map suc (place_in rows h)) ≡ None →
        (is_of h s ≡ false) × (place_in rows h ≡ None)
    go true p k = absurd (none_is (sym k))
    go false p k = (p, none_under (place_in rows h) k)

pub placed_new : (rows : List Row) (r : Row) (q : Text) → place_in rows r.history ≡ None
    → place_in (rows ++ r ∷ []) q ≡ cond (bytes_eq r.history q) (Some (length rows)) (place_in rows q)
placed_new [] r q e = go (bytes_eq r.history q)
  where
    go : (b : Bool) → cond b (Some 0) (option_map suc None) ≡ cond b (Some 0) None
    go true = refl
    go false = refl
placed_new (s ∷ rows) r q e = go (is_of q s) refl (bytes_eq r.history q) refl
    (placed_new rows r q (apart s rows r.history e).1)
  where
    go : (b : Bool) →
        is_of q s ≡ b →
        (c : Bool) →
        bytes_eq r.history q ≡ c →
        place_in (rows ++ r ∷ []) q ≡ cond c (Some (length rows)) (place_in rows q)
        → cond b (Some 0) (option_map suc (place_in (rows ++ r ∷ []) q)) ≡ cond c (Some (suc (length rows)))
        (cond b (Some 0) (option_map suc (place_in rows q)))
    go true p true k ih =
        let same : s.history ≡ r.history = same_text s.history q p ∙ sym (same_text r.history q k) in
        true_is (sym (is_same s.history r.history same) ∙ (apart s rows r.history e).0)
    go true p false k ih = refl
    go false p true k ih = ap (option_map suc) ih
    go false p false k ih = ap (option_map suc) ih

pub placed_known : (rows : List Row) (r : Row) (q : Text) (j : ℕ) →
    place_in rows r.history ≡ Some j →
    place_in (added rows r) q ≡ place_in rows q
placed_known [] r q j e = absurd (none_is e)
placed_known (s ∷ rows) r q j e = go (is_of r.history s) (λ i k. placed_known rows r q i k) e
  where
    go : (b : Bool) → ((i : ℕ) → place_in rows r.history ≡ Some i → place_in (added rows r) q ≡ place_in rows q)
        → cond b (Some 0) (option_map suc (place_in rows r.history)) ≡ Some j
        → place_in (cond b (joined s r ∷ rows) (s ∷ added rows r)) q ≡ cond (is_of q s) (Some 0)
        (option_map suc (place_in rows q))
    go true next k = refl
    go false next k =
        let p = some_under (place_in rows r.history) j k in
        ap (λ o. cond (is_of q s) (Some 0) (option_map suc o)) (next p.0 p.1)

-- ---- counts

pub count_within : (rows : List Row) (j : ℕ) (d : Row) → j < length rows → (get_or rows j d).count ≤ total_of rows
count_within [] j d lt = absurd (omega arith)
count_within (s ∷ rows) zero d lt = omega arith
count_within (s ∷ rows) (suc j) d lt = let ih = count_within rows j d (omega arith) in omega arith

pub total_added : (rows : List Row) (r : Row) → total_of (added rows r) ≡ total_of rows + r.count
total_added [] r = omega arith
total_added (s ∷ rows) r = go (is_of r.history s) (total_added rows r)
  where
    go : (b : Bool) →
        total_of (added rows r) ≡ total_of rows + r.count →
        total_of (cond b (joined s r ∷ rows) (s ∷ added rows r)) ≡ total_of (s ∷ rows) + r.count
    go true ih = omega arith
    go false ih = omega arith
