-- The rules, one call after the other.
use Rattle.std.proofs.Common.{◌≡◌, ◌∙◌, ◌||◌, ◌+◌, ◌-◌, ◌<◌, ◌≤◌, ℕ, ℤ, Bool, true, false, cond, List, [], ◌∷◌, ◌++◌}
use Rattle.std.proofs.Common.{length, map, take, drop, get_or, refl, sym, ap, arith, Option, Some}
use Rattle.std.specs.List.{list_any}
use Rattle.std.proofs.lemmas.List.{drop_more, map_more}
use Rattle.std.specs.Prelude.{pos}
use denote.Ref.{Bor}
use Rattle.ls_orders.specs.declared.calls.Operation.TheVariants.{Add}
use Rattle.ls_orders.specs.declared.calls.End.TheVariants.{Pending}
use Rattle.ls_orders.specs.declared.calls.SetCall.{SetCall}
use Rattle.ls_orders.specs.Named.{plain_call}
use Rattle.ls_orders.specs.Rules.{after_call, first_repeated, first_where, is_present, is_same, present_from}

-- whether an item is present after one more call
pub present_push : (z : ℤ) (was : Bool) (xs : List SetCall) (x : SetCall) →
    present_from z was (xs ++ x ∷ []) ≡ after_call z (present_from z was xs) x
present_push z was [] x = refl
present_push z was (y ∷ ys) x = present_push z (after_call z was y) ys x

-- what a read past the end of calls gives
abbrev pub no_call : SetCall
no_call = record { called = 0; operation = Add; item = pos 0; end = Pending }

-- the same of calls that are borrowed
abbrev pub none_lent : Bor SetCall
none_lent = record { ref_ptr = (0, 0); now = no_call }

abbrev pub Lent : Type 0
Lent = List (Bor SetCall)

-- the call at a place
abbrev pub at : Lent → ℕ → SetCall
at xs i = plain_call (get_or xs i none_lent)

-- the calls up to a place, and from it on
abbrev pub front : ℕ → Lent → List SetCall
front i xs = map plain_call (take i xs)

-- the calls from a place on
abbrev pub back : ℕ → Lent → List SetCall
back i xs = map plain_call (drop i xs)

front_more : (xs : Lent) (i : ℕ) → i < length xs → front (i + 1) xs ≡ front i xs ++ at xs i ∷ []
front_more xs i lt = map_more plain_call xs i none_lent lt

back_more : (xs : Lent) (i : ℕ) → i < length xs → back i xs ≡ at xs i ∷ back (i + 1) xs
back_more xs i lt = ap (map plain_call) (drop_more xs i none_lent lt)

-- whether an item is present, one call further
pub present_more : (z : ℤ) (xs : Lent) (i : ℕ) →
    i < length xs →
    is_present z (front (i + 1) xs) ≡ after_call z (is_present z (front i xs)) (at xs i)
present_more z xs i lt = ap (is_present z) (front_more xs i lt) ∙ present_push z false (front i xs) (at xs i)

-- the call at i doesn't pass
pub goes_on : (p : List SetCall → SetCall → Bool) (xs : Lent) (i : ℕ) (all : Option SetCall) →
    i < length xs →
    p (front i xs) (at xs i) ≡ false
    → first_where p (front i xs) (back i xs) ≡ all → first_where p (front (i + 1) xs) (back (i + 1) xs) ≡ all
goes_on p xs i all lt e h =
    let x = at xs i in
    ap (λ f. first_where p f (back (i + 1) xs)) (front_more xs i lt)
    ∙ ap (λ b. cond b (Some x) (first_where p (front i xs ++ x ∷ []) (back (i + 1) xs))) (sym e)
    ∙ ap (first_where p (front i xs)) (sym (back_more xs i lt)) ∙ h

any_push : (p : SetCall → Bool) (xs : List SetCall) (x : SetCall) → list_any p (xs ++ x ∷ []) ≡ (p x || list_any p xs)
any_push p [] x = refl
any_push p (y ∷ ys) x = swap (p y) (p x) (list_any p ys) (list_any p (ys ++ x ∷ [])) (any_push p ys x)
  where
    swap : (a b c d : Bool) → d ≡ (b || c) → (a || d) ≡ (b || (a || c))
    swap true true c d e = refl
    swap true false c d e = refl
    swap false b c d e = e

-- whether any of the first calls passes, one call further
pub any_more : (p : SetCall → Bool) (xs : Lent) (i : ℕ) →
    i < length xs →
    list_any p (front (i + 1) xs) ≡ (p (at xs i) || list_any p (front i xs))
any_more p xs i lt = ap (list_any p) (front_more xs i lt) ∙ any_push p (front i xs) (at xs i)

one_before : (xs : Lent) (i : ℕ) → 0 < i → i ≤ length xs → back (i - 1) xs ≡ at xs (i - 1) ∷ back i xs
one_before xs i some le =
    let lt : i - 1 < length xs = omega arith in
    let next : i - 1 + 1 ≡ i = omega arith in
    back_more xs (i - 1) lt ∙ ap (λ n. at xs (i - 1) ∷ back n xs) next

-- whether any of the last calls passes, one call earlier
pub any_before : (p : SetCall → Bool) (xs : Lent) (i : ℕ) →
    0 < i →
    i ≤ length xs →
    list_any p (back (i - 1) xs) ≡ (p (at xs (i - 1)) || list_any p (back i xs))
any_before p xs i some le = ap (list_any p) (one_before xs i some le)

-- the first call that comes a second time, one call earlier
pub repeated_before : (xs : Lent) (i : ℕ) → 0 < i → i ≤ length xs
    → first_repeated (back (i - 1) xs) ≡ cond (list_any (is_same (at xs (i - 1))) (back i xs)) (Some (at xs (i - 1)))
    (first_repeated (back i xs))
repeated_before xs i some le = ap first_repeated (one_before xs i some le)
