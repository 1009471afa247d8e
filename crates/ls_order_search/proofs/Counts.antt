-- Counting trapped calls.
use Rattle.std.proofs.Common.{◌≡◌, ◌∙◌, ◌&&◌, ◌+◌, ◌<◌, ◌≤◌, ℕ, ℤ, Bool, true, false, cond, [], ◌∷◌, length, get_or}
use Rattle.std.proofs.Common.{take, drop, filter, refl, sym, ap, arith, le-ltb, lt-ltb, length-append, take-append-drop}
use Rattle.std.proofs.Common.{nat_lt, ◌||◌}
use Rattle.std.proofs.Common.{zero, suc, not-suc-le-zero, le_of_suc-le-suc}
use Rattle.std.proofs.lemmas.List.Elements.{filter-append}
use Rattle.std.proofs.lemmas.List.Filters.{length-filter_more}
use Rattle.std.specs.List.{list_any}
use Rattle.std.specs.Ordering.{int_eq}
use Rattle.ls_orders.specs.declared.calls.SetCall.{SetCall}
use Rattle.ls_order_search.specs.Search.{Calls}
use Rattle.ls_order_search.proofs.Filters.{is_item_self}
use Rattle.ls_order_search.specs.Trapped.{has_many_on, has_many_trapped, is_trapped, most_trapped, trapped_on}

-- one more call
pub counted_more : (z : ℤ) (calls : Calls) (i : ℕ) (d : SetCall) → i < length calls
    → trapped_on z (take (i + 1) calls) ≡ trapped_on z (take i calls) + cond (is_trapped (get_or calls i d).end
    && int_eq (get_or calls i d).item z) 1 0
counted_more z calls i d lt = length-filter_more (λ c. is_trapped c.end && int_eq c.item z) calls i d lt

-- no fewer among more calls
counted_less : (z : ℤ) (calls : Calls) (n : ℕ) → trapped_on z (take n calls) ≤ trapped_on z calls
counted_less z calls n =
    let p = λ (c : SetCall). is_trapped c.end && int_eq c.item z in
    let whole : trapped_on z calls ≡ trapped_on z (take n calls) + trapped_on z (drop n calls) =
    ap (λ l. length (filter p l)) (sym (take-append-drop n calls))
    ∙ ap length (filter-append p (take n calls) (drop n calls))
    ∙ length-append (filter p (take n calls)) (filter p (drop n calls)) in
    omega arith

or_true : (b : Bool) → (b || true) ≡ true
or_true false = refl
or_true true = refl

any_at : (p : SetCall → Bool) (xs : Calls) (i : ℕ) (d : SetCall) →
    i < length xs →
    p (get_or xs i d) ≡ true →
    list_any p xs ≡ true
any_at p [] i d lt h = absurd (not-suc-le-zero lt)
any_at p (x ∷ xs) zero d lt h = ap (λ b. b || list_any p xs) h
any_at p (x ∷ xs) (suc i) d lt h = ap (λ b. p x || b) (any_at p xs i d (le_of_suc-le-suc lt) h) ∙ or_true (p x)

-- one trapped call more than the most
pub too_many : (calls : Calls) (i : ℕ) (d : SetCall) →
    i < length calls →
    is_trapped (get_or calls i d).end ≡ true →
    trapped_on (get_or calls i d).item (take i calls) ≡ most_trapped →
    true ≡ has_many_trapped calls
too_many calls i d lt t h =
    let x = get_or calls i d in
    let one : cond {A = ℕ} (is_trapped x.end && int_eq x.item x.item) 1 0 ≡ cond {A = ℕ} true 1 0 =
    ap (λ b. cond {A = ℕ} (b && int_eq x.item x.item) 1 0) t ∙ ap (λ b. cond {A = ℕ} b 1 0) (is_item_self x.item) in
    let more = counted_more x.item calls i d lt in
    let less = counted_less x.item calls (i + 1) in
    let many : nat_lt most_trapped (trapped_on x.item calls) ≡ true =
    lt-ltb most_trapped (trapped_on x.item calls) (omega (arith, one, more, less, h)) in
    sym (any_at (has_many_on calls) calls i d lt
    (ap (λ b. b && nat_lt most_trapped (trapped_on x.item calls)) t ∙ many))

and_false : (b : Bool) → (b && false) ≡ false
and_false false = refl
and_false true = refl

none_many : (calls more : Calls) → ((z : ℤ) → trapped_on z calls ≤ most_trapped) →
    list_any (has_many_on calls) more ≡ false
none_many calls [] h = refl
none_many calls (x ∷ xs) h =
    ap (λ b. b || list_any (has_many_on calls) xs) (ap (λ b. is_trapped x.end && b)
    (le-ltb most_trapped (trapped_on x.item calls) (h x.item)) ∙ and_false (is_trapped x.end))
    ∙ none_many calls xs h

-- no item has more than the most
pub few_enough : (calls : Calls) → ((z : ℤ) → trapped_on z calls ≤ most_trapped) → false ≡ has_many_trapped calls
few_enough calls h = sym (none_many calls calls h)
