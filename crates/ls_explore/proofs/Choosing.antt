-- Rows of chosen places, one after another.
use Rattle.std.proofs.Common.{◌≡◌, ◌⊎◌, inl, inr, ℕ, ◌+◌, ◌<◌, ◌≤◌, List, [], ◌∷◌, ◌++◌, Option, Some, None}
use Rattle.std.proofs.Common.{refl, sym, ap, ◌∙◌, subst, arith}
use Rattle.std.specs.Prelude.{Contains, Err, IfNone, IfOk, IfSome, Ok, Result, slice_get}
use Rattle.std.proofs.lemmas.Bool.{cases_lt}
use Rattle.ls_code.specs.Machine.{Machine}
use Rattle.ls_history_numbers.specs.Choices.{IsChosen}
use Rattle.ls_history_numbers.proofs.Lists.{contains_cases, contains_last, contains_left, contains_none}
use Rattle.ls_explore.specs.Listed.{IsRowOf}
use Rattle.ls_explore.specs.Rows.{AreApart, Told}
use Rattle.ls_explore.specs.declared.searching.Seen.{Seen}
use Rattle.ls_explore.proofs.Order.{apart_more, apart_none}

none_not_some : {A : Type 0} (x : A) → Some None ≡ Some (Some x) → ⊥
none_not_some x e = cc

some_some : {A : Type 0} (x y : A) → Some (Some x) ≡ Some (Some y) → x ≡ y
some_some x y e = cc

module _ (most : ℕ) (root : Machine) (paths : List (List ℕ)) (seen : List Seen) (choices : List (Option ℕ)) where
  -- the rows of the places that were chosen for the numbers before this one
  pub record AreRows (rows : List Told) (count : ℕ) : Type 0 where
    pub own : (r : Told) → Contains rows r → (n : ℕ) × (at : ℕ) × (n < count) × IsChosen choices n at
        × IsRowOf most root paths seen at r
    pub made : (n at : ℕ) → n < count → IsChosen choices n at → (r : Told) × Contains rows r
        × IsRowOf most root paths seen at r
    pub apart : AreApart rows

  pub no_rows : (rows : List Told) → rows ≡ [] → AreRows rows 0
  no_rows rows none = record {
    own = λ r c. absurd (contains_none rows r none c);
    made = λ n at within chosen. absurd (omega arith);
    apart = apart_none rows none;
  }

  module _ (differ : (n at m other : ℕ) (r s : Told) → IsChosen choices n at → IsChosen choices m other →
      IsRowOf most root paths seen at r → IsRowOf most root paths seen other s → r.history ≡ s.history →
      n ≡ m) (rows : List Told) (count : ℕ) (h : AreRows rows count) where
    -- no row for this number
    rows_same : (new : List Told) → slice_get choices count ≡ Some None → new ≡ rows → AreRows new (count + 1)
    rows_same new is same =
        subst (λ (l : List Told). AreRows l (count + 1)) (sym same) (record {
          own = λ r c. let o = h.own r c in (o.0, o.1, omega (arith, o.2), o.3, o.4);
          made = made;
          apart = h.apart;
        })
      where
        made : (n at : ℕ) → n < count + 1 → IsChosen choices n at → (r : Told) × Contains rows r
            × IsRowOf most root paths seen at r
        made n at within chosen = by_place (cases_lt n count)
          where
            by_place : (n < count) ⊎ (count ≤ n) → (r : Told) × Contains rows r × IsRowOf most root paths seen at r
            by_place (inl less) = h.made n at less chosen
            by_place (inr past) =
                let here : count ≡ n = omega arith in
                absurd (none_not_some at (sym is ∙ ap (slice_get choices) here ∙ chosen))

    -- or one
    rows_one : (new : List Told) (at : ℕ) (r : Told) → slice_get choices count ≡ Some (Some at) →
        IsRowOf most root paths seen at r →
        new ≡ rows ++ r ∷ [] →
        AreRows new (count + 1)
    rows_one new at r is row more = record {
      own = λ x c. own x (contains_cases rows r x (subst (λ (l : List Told). Contains l x) more c));
      made = made;
      apart = apart_more rows new r more other h.apart;
    }
      where
        own : (x : Told) → Contains rows x ⊎ (r ≡ x) → (n : ℕ) × (at : ℕ) × (n < count + 1) × IsChosen choices n at
            × IsRowOf most root paths seen at x
        own x (inl c) = let o = h.own x c in (o.0, o.1, omega (arith, o.2), o.3, o.4)
        own x (inr same) = (count, at, omega arith, is, subst (IsRowOf most root paths seen at) same row)

        made : (n place : ℕ) → n < count + 1 → IsChosen choices n place → (x : Told) × Contains new x
            × IsRowOf most root paths seen place x
        made n place within chosen = by_place (cases_lt n count)
          where
            by_place : (n < count) ⊎ (count ≤ n) → (x : Told) × Contains new x × IsRowOf most root paths seen place x
            by_place (inl less) =
                let m = h.made n place less chosen in
                (m.0, subst (λ (l : List Told). Contains l m.0) (sym more) (contains_left rows r m.0 m.1), m.2)
            by_place (inr past) =
                let here : count ≡ n = omega arith in
                let same : at ≡ place = some_some at place (sym is ∙ ap (slice_get choices) here ∙ chosen) in (
                  r,
                  subst (λ (l : List Told). Contains l r) (sym more) (contains_last rows r),
                  subst (λ (k : ℕ). IsRowOf most root paths seen k r) same row,
                )

        other : (x : Told) → Contains rows x → x.history ≡ r.history → ⊥
        other x c same =
            let o = h.own x c in
            let e : o.0 ≡ count = differ o.0 o.1 count at x r o.3 is o.4 row same in
            omega (arith, e, o.2)

    pub rows_more : (new : List Told) (choice : Option ℕ) → slice_get choices count ≡ Some choice →
        IfNone choice (new ≡ rows) →
        IfSome choice (λ at. (r : Told) × IsRowOf most root paths seen at r × (new ≡ rows ++ r ∷ [])) →
        AreRows new (count + 1)
    rows_more new None is none some = rows_same new is none
    rows_more new (Some at) is none some = rows_one new at some.0 is some.1 some.2

pub some_holds : {A : Type 0} (P : A → Type 0) (o : Option A) → ((x : A) → o ≡ Some x → P x) → IfSome o P
some_holds P None so = tt
some_holds P (Some x) so = so x refl

-- what holds by three facts of what came out well
pub ok_holds : {A E : Type 0} {P Q R S : A → Type 0} (r : Result A E) → IfOk r P → IfOk r Q → IfOk r R →
    ((x : A) → P x → Q x → R x → S x) →
    IfOk r S
ok_holds (Ok x) p q r so = so x p q r
ok_holds (Err e) p q r so = tt
