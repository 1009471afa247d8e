-- Rows of chosen places, one after another.
use Rattle.std.proofs.Common.{◌≡◌, ◌⊎◌, inl, inr, ℕ, ◌+◌, ◌<◌, ◌≤◌, List, [], ◌∷◌, ◌++◌, Option, Some, None}
use Rattle.std.proofs.Common.{sym, ap, ◌∙◌, subst}
use Rattle.std.proofs.Common.{arith, refl}
use Rattle.std.specs.Prelude.{Contains, Err, IfNone, IfOk, IfSome, Ok, Result, slice_get}
use Rattle.std.proofs.lemmas.Bool.{cases_lt}
use Rattle.ls_events.specs.declared.event.Event.{Event}
use Rattle.ls_history_numbers.specs.Choices.{IsChosen}
use Rattle.ls_history_numbers.proofs.Lists.{contains_cases, contains_last, contains_left, contains_none}
use Rattle.ls_search.specs.declared.places.Node.{Node}
use Rattle.ls_search.specs.declared.places.Seen.{Seen}
use Rattle.ls_source_rows.specs.Listed.{IsRowOf}
use Rattle.ls_source_rows.specs.Rows.{AreApart}
use Rattle.ls_source_rows.specs.declared.rows.Row.{Row}
use Rattle.ls_source_rows.proofs.Order.{apart_more, apart_none}

none_not_some : {A : Type 0} (x : A) → Some None ≡ Some (Some x) → ⊥
none_not_some x e = cc

some_some : {A : Type 0} (x y : A) → Some (Some x) ≡ Some (Some y) → x ≡ y
some_some x y e = cc

module _ (histories : List (List Event)) (nodes : List Node) (seen : List Seen) (choices : List (Option ℕ)) where
  -- the rows of the places that were chosen for the numbers before this one
  pub record AreRows (rows : List Row) (count : ℕ) : Type 0 where
    pub own : (r : Row) → Contains rows r → (n : ℕ) × (at : ℕ) × (n < count) × IsChosen choices n at
        × IsRowOf histories nodes seen at r
    pub made : (n at : ℕ) → n < count → IsChosen choices n at → (r : Row) × Contains rows r
        × IsRowOf histories nodes seen at r
    pub apart : AreApart rows

  pub no_rows : (rows : List Row) → rows ≡ [] → AreRows rows 0
  no_rows rows none = record {
    own = λ r c. absurd (contains_none rows r none c);
    made = λ n at within chosen. absurd (omega arith);
    apart = apart_none rows none;
  }

  module _ (differ : (n at m other : ℕ) (r s : Row) → IsChosen choices n at → IsChosen choices m other →
      IsRowOf histories nodes seen at r → IsRowOf histories nodes seen other s → r.history.items ≡ s.history.items →
      n ≡ m) (rows : List Row) (count : ℕ) (h : AreRows rows count) where
    -- no row for this number
    rows_same : (new : List Row) → slice_get choices count ≡ Some None → new ≡ rows → AreRows new (count + 1)
    rows_same new is same =
        subst (λ (l : List Row). AreRows l (count + 1)) (sym same) (record {
          own = λ r c. let o = h.own r c in (o.0, o.1, omega (arith, o.2), o.3, o.4);
          made = made;
          apart = h.apart;
        })
      where
        made : (n at : ℕ) → n < count + 1 → IsChosen choices n at → (r : Row) × Contains rows r
            × IsRowOf histories nodes seen at r
        made n at within chosen = by_place (cases_lt n count)
          where
            by_place : (n < count) ⊎ (count ≤ n) → (r : Row) × Contains rows r × IsRowOf histories nodes seen at r
            by_place (inl less) = h.made n at less chosen
            by_place (inr past) =
                let here : count ≡ n = omega arith in
                absurd (none_not_some at (sym is ∙ ap (slice_get choices) here ∙ chosen))

    -- or one
    rows_one : (new : List Row) (at : ℕ) (r : Row) → slice_get choices count ≡ Some (Some at) →
        IsRowOf histories nodes seen at r →
        new ≡ rows ++ r ∷ [] →
        AreRows new (count + 1)
    rows_one new at r is row more = record {
      own = λ x c. own x (contains_cases rows r x (subst (λ (l : List Row). Contains l x) more c));
      made = made;
      apart = apart_more rows new r more other h.apart;
    }
      where
        own : (x : Row) → Contains rows x ⊎ (r ≡ x) → (n : ℕ) × (at : ℕ) × (n < count + 1) × IsChosen choices n at
            × IsRowOf histories nodes seen at x
        own x (inl c) = let o = h.own x c in (o.0, o.1, omega (arith, o.2), o.3, o.4)
        own x (inr same) = (count, at, omega arith, is, subst (IsRowOf histories nodes seen at) same row)

        made : (n place : ℕ) → n < count + 1 → IsChosen choices n place → (x : Row) × Contains new x
            × IsRowOf histories nodes seen place x
        made n place within chosen = by_place (cases_lt n count)
          where
            by_place : (n < count) ⊎ (count ≤ n) → (x : Row) × Contains new x × IsRowOf histories nodes seen place x
            by_place (inl less) =
                let m = h.made n place less chosen in
                (m.0, subst (λ (l : List Row). Contains l m.0) (sym more) (contains_left rows r m.0 m.1), m.2)
            by_place (inr past) =
                let here : count ≡ n = omega arith in
                let same : at ≡ place = some_some at place (sym is ∙ ap (slice_get choices) here ∙ chosen) in (
                  r,
                  subst (λ (l : List Row). Contains l r) (sym more) (contains_last rows r),
                  subst (λ (k : ℕ). IsRowOf histories nodes seen k r) same row,
                )

        other : (x : Row) → Contains rows x → x.history.items ≡ r.history.items → ⊥
        other x c same =
            let o = h.own x c in
            let e : o.0 ≡ count = differ o.0 o.1 count at x r o.3 is o.4 row same in
            omega (arith, e, o.2)

    pub rows_more : (new : List Row) (choice : Option ℕ) → slice_get choices count ≡ Some choice →
        IfNone choice (new ≡ rows) →
        IfSome choice (λ at. (r : Row) × IsRowOf histories nodes seen at r × (new ≡ rows ++ r ∷ [])) →
        AreRows new (count + 1)
    rows_more new None is none some = rows_same new is none
    rows_more new (Some at) is none some = rows_one new at some.0 is some.1 some.2

pub some_holds : {A : Type 0} (P : A → Type 0) (o : Option A) → ((x : A) → o ≡ Some x → P x) → IfSome o P
some_holds P None so = tt
some_holds P (Some x) so = so x refl

-- what holds by three facts of what came out well
pub ok_holds : {A E : Type 0} {P Q R S : A → Type 0} (r : Result A E) → IfOk r P → IfOk r Q → IfOk r R →
    ((x : A) → P x → Q x → R x → S x) →
    IfOk r S
ok_holds (Ok x) p q r so = so x p q r
ok_holds (Err e) p q r so = tt
