-- States that do the same explain the same as one.
use Rattle.std.proofs.Common.{
  ◌≡◌,
  ◌⊎◌,
  inl,
  inr,
  ℕ,
  zero,
  suc,
  ◌+◌,
  ◌<◌,
  ◌≤◌,
  List,
  [],
  ◌∷◌,
  Option,
  Some,
  None,
  Contains,
}
use Rattle.std.proofs.Common.{length, slice_get, slice_index_or, refl, sym, ap, ◌∙◌, subst, arith}
use Rattle.std.proofs.lemmas.Bool.{cases_lt}
use Rattle.std.specs.declared.vec.Vec.{Vec}
use Rattle.std.specs.declared.alloc.Global.{Global}
use Rattle.ls_events.specs.declared.event.Event.{Event}
use Rattle.ls_serial.proofs.Lists.{is_get, some_is}
use Rattle.ls_linearizable.proofs.There.{there_cases, there_first, there_later, there_not}
use Rattle.ls_automaton.specs.declared.outcome.Outcome.{Outcome}
use Rattle.ls_automaton.specs.Alike.{IsLike}
use Rattle.ls_automaton.specs.Held.{row_of}
use Rattle.ls_automaton.specs.Merged.{AreAlikeIn, AreMerged, IsAlikeIn, row_in}
use Rattle.ls_automaton.specs.Tables.{Goes}

-- ---- the tests

abbrev pub AreFirstAlike : List (Vec Outcome Global) → List Outcome → List Outcome → ℕ → Type 0
AreFirstAlike rows row other i = (k : ℕ) (o p : Outcome) → k < i → slice_get row k ≡ Some o →
    slice_get other k ≡ Some p → IsAlikeIn rows o p

pub first_alike_more : (rows : List (Vec Outcome Global)) (row other : List Outcome) (i : ℕ) (d d' : Outcome) →
    AreFirstAlike rows row other i → i < length row → i < length other →
    IsAlikeIn rows (slice_index_or row i d) (slice_index_or other i d') → AreFirstAlike rows row other (i + 1)
first_alike_more rows row other i d d' before in_row in_other like k o p less at there = by_place (cases_lt k i)
  where
    by_place : (k < i) ⊎ (i ≤ k) → IsAlikeIn rows o p
    by_place (inl lt) = before k o p lt at there
    by_place (inr past) =
        let is : k ≡ i = omega (arith, past, less) in
        let one : slice_index_or row i d ≡ o =
        some_is (sym (is_get row i d in_row) ∙ ap (slice_get row) (sym is) ∙ at) in
        let two : slice_index_or other i d' ≡ p =
        some_is (sym (is_get other i d' in_other) ∙ ap (slice_get other) (sym is) ∙ there) in
        subst (λ z. IsAlikeIn rows z p) one (subst (IsAlikeIn rows (slice_index_or row i d)) two like)

pub first_alike_all : (rows : List (Vec Outcome Global)) (row other : List Outcome) (i : ℕ) →
    length row ≡ length other → length row ≤ i → AreFirstAlike rows row other i → AreAlikeIn rows row other
first_alike_all rows [] [] i long all like = tt
first_alike_all rows [] (p ∷ other) i long all like = absurd (omega (arith, long))
first_alike_all rows (o ∷ row) [] i long all like = absurd (omega (arith, long))
first_alike_all rows (o ∷ row) (p ∷ other) zero long all like = absurd (omega (arith, all))
first_alike_all rows (o ∷ row) (p ∷ other) (suc i) long all like = (
  like 0 o p (omega arith) refl refl,
  first_alike_all rows row other i (omega (arith, long)) (omega (arith, all))
      (λ k x y less at there. like (suc k) x y (omega (arith, less)) at there),
)

abbrev pub AreFirstMerged : List (Vec Outcome Global) → List (Vec Outcome Global) → ℕ → Type 0
AreFirstMerged rows merged n = (k : ℕ) → k < n → AreAlikeIn merged (row_in rows k) (row_in merged k)

pub first_merged_more : (rows merged : List (Vec Outcome Global)) (n : ℕ) (a b : Vec Outcome Global) →
    AreFirstMerged rows merged n → n < length rows → n < length merged → a ≡ slice_index_or rows n a →
    b ≡ slice_index_or merged n b → AreAlikeIn merged a.items b.items → AreFirstMerged rows merged (n + 1)
first_merged_more rows merged n a b before in_rows in_merged own own' like k less = by_place (cases_lt k n)
  where
    by_place : (k < n) ⊎ (n ≤ k) → AreAlikeIn merged (row_in rows k) (row_in merged k)
    by_place (inl lt) = before k lt
    by_place (inr past) =
        let is : n ≡ k = omega (arith, past, less) in
        let one : row_in rows n ≡ a.items = ap row_of (is_get rows n a in_rows ∙ ap Some (sym own)) in
        let two : row_in merged n ≡ b.items = ap row_of (is_get merged n b in_merged ∙ ap Some (sym own')) in
        subst (λ m. AreAlikeIn merged (row_in rows m) (row_in merged m)) is
        (subst (λ l. AreAlikeIn merged l (row_in merged n)) (sym one)
        (subst (AreAlikeIn merged a.items) (sym two) like))

beyond : (rows : List (Vec Outcome Global)) (n : ℕ) → length rows ≤ n → row_in rows n ≡ []
beyond [] n all = refl
beyond (r ∷ rows) zero all = absurd (omega (arith, all))
beyond (r ∷ rows) (suc n) all = beyond rows n (omega (arith, all))

pub first_merged_all : (rows merged : List (Vec Outcome Global)) (i : ℕ) → length rows ≡ length merged →
    length rows ≤ i → AreFirstMerged rows merged i → AreMerged rows merged
first_merged_all rows merged i long all first n = by_place (cases_lt n i)
  where
    by_place : (n < i) ⊎ (i ≤ n) → AreAlikeIn merged (row_in rows n) (row_in merged n)
    by_place (inl less) = first n less
    by_place (inr past) =
        subst (λ l. AreAlikeIn merged l (row_in merged n)) (sym (beyond rows n (omega (arith, past, all))))
        (subst (AreAlikeIn merged []) (sym (beyond merged n (omega (arith, past, all, long)))) tt)

alike_same : (rows : List (Vec Outcome Global)) (row : List Outcome) → AreAlikeIn rows row row
alike_same rows [] = tt
alike_same rows (o ∷ row) = ((refl, refl), alike_same rows row)

pub merged_same : (rows : List (Vec Outcome Global)) → AreMerged rows rows
merged_same rows n = alike_same rows (row_in rows n)

-- ---- both explain the same

module _ (rows merged : List (Vec Outcome Global)) (are : AreMerged rows merged) where
  -- a state with these outcomes stands for this one
  abbrev pub IsJoined : ℕ → ℕ → Type 0
  IsJoined n m = row_in merged m ≡ row_in merged n

  abbrev pub IsJoinedBack : ℕ → ℕ → Type 0
  IsJoinedBack m n = IsJoined n m

  record IsPartner (row : List Outcome) (o : Outcome) : Type 0 where
    outcome : Outcome
    there : Contains row outcome
    end : o.end ≡ outcome.end
    state : row_in merged o.after ≡ row_in merged outcome.after

  forth : (row other : List Outcome) (o : Outcome) → AreAlikeIn merged row other → Contains row o → IsPartner other o
  forth [] other o like there = absurd (there_not o there)
  forth (x ∷ row) [] o like there = absurd like
  forth (x ∷ row) (y ∷ other) o like there = by_place (λ t. forth row other o like.1 t) (there_cases x o row there)
    where
      by_place : (Contains row o → IsPartner other o) → (x ≡ o) ⊎ Contains row o → IsPartner (y ∷ other) o
      by_place more (inl is) = record {
        outcome = y;
        there = there_first y other;
        end = ap (λ (z : Outcome). z.end) (sym is) ∙ like.0.0;
        state = ap (λ (z : Outcome). row_in merged z.after) (sym is) ∙ like.0.1;
      }
      by_place more (inr later) =
          let r = more later in
          record { outcome = r.outcome; there = there_later y r.outcome other r.there; end = r.end; state = r.state }

  back : (row other : List Outcome) (p : Outcome) → AreAlikeIn merged row other → Contains other p → IsPartner row p
  back row [] p like there = absurd (there_not p there)
  back [] (y ∷ other) p like there = absurd like
  back (x ∷ row) (y ∷ other) p like there = by_place (λ t. back row other p like.1 t) (there_cases y p other there)
    where
      by_place : (Contains other p → IsPartner row p) → (y ≡ p) ⊎ Contains other p → IsPartner (x ∷ row) p
      by_place more (inl is) = record {
        outcome = x;
        there = there_first x row;
        end = ap (λ (z : Outcome). z.end) (sym is) ∙ sym like.0.0;
        state = ap (λ (z : Outcome). row_in merged z.after) (sym is) ∙ sym like.0.1;
      }
      by_place more (inr later) =
          let r = more later in
          record { outcome = r.outcome; there = there_later x r.outcome row r.there; end = r.end; state = r.state }

  goes_in : (l : List (Vec Outcome Global)) (n : ℕ) (c e : Event) (m : ℕ) → Goes l n c e m →
      Contains (row_in l n) (record { end = e; after = m })
  goes_in l n c e m g = subst (λ r. Contains (row_of r) (record { end = e; after = m })) (sym g.at) g.there

  in_goes : (l : List (Vec Outcome Global)) (n : ℕ) (c : Event) (o : Outcome) → Contains (row_in l n) o →
      Goes l n c o.end o.after
  in_goes l n c o there = by_row (slice_get l n) refl there
    where
      by_row : (r : Option (Vec Outcome Global)) → slice_get l n ≡ r → Contains (row_of r) o → Goes l n c o.end o.after
      by_row None is there = absurd (there_not o there)
      by_row (Some row) is there = record { row = row; at = is; there = there }

  pub joined_like : IsLike (Goes rows) 0 (Goes merged) 0 IsJoined
  joined_like = record {
    begins = refl;
    goes_on = λ n m c e k same call end g.
        let p = forth (row_in rows n) (row_in merged n) (record { end = e; after = k })
        (are n) (goes_in rows n c e k g) in (
          p.outcome.after,
          subst (λ x. Goes merged m c x p.outcome.after) (sym p.end)
              (in_goes merged m c p.outcome (subst (λ l. Contains l p.outcome) (sym same) p.there)),
          sym p.state,
        );
  }

  pub joined_back : IsLike (Goes merged) 0 (Goes rows) 0 IsJoinedBack
  joined_back = record {
    begins = refl;
    goes_on = λ m n c e k same call end g.
        let p = back (row_in rows n) (row_in merged n) (record { end = e; after = k }) (are n)
        (subst (λ l. Contains l (record { end = e; after = k })) same (goes_in merged m c e k g)) in (
          p.outcome.after,
          subst (λ x. Goes rows n c x p.outcome.after) (sym p.end) (in_goes rows n c p.outcome p.there),
          p.state,
        );
  }
