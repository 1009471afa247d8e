-- The line of a legal order is read as that order.
use Rattle.std.proofs.Common.{◌≡◌, ◌∙◌, ◌&&◌, ◌==◌, ◌+◌, ◌<◌, ◌≤◌, ◌^◌, ◌/◌, ◌%◌, inl, inr, ℕ, Bool, true, false, cond}
use Rattle.std.proofs.Common.{not, List, [], ◌∷◌, ◌++◌, length, map, Some, Ok, Err, refl, sym, ap, subst, append_assoc}
use Rattle.std.proofs.Common.{arith, eqb-true}
use Rattle.std.specs.Prelude.{find}
use Rattle.std.specs.Fmt.{decimal}
use Rattle.std.specs.List.{flat_map, list_all}
use Rattle.std.specs.Option.{option_map_or}
use Rattle.std.specs.Str.{bytes_eq}
use Rattle.std.proofs.lemmas.Bool.{and_from, and_parts, cases_Bool, true≢false}
use Rattle.std.proofs.lemmas.Bool.Decides.{nat_tests}
use Rattle.std.proofs.lemmas.Fmt.{decimal_by_steps}
use Rattle.std.proofs.lemmas.List.Folds.{list_all-append}
use Rattle.std.proofs.lemmas.Slice.Eq.{bytes_eq-Decides}
use Rattle.ls_items.specs.Items.{Divides, EndsItem, HasNoGap, Item, ends, gap, is_gap, item}
use Rattle.ls_items.proofs.Division.{items_are_divided}
use Rattle.ls_lexer.specs.Characters.{is_digit, is_part}
use Rattle.ls_lexer.specs.Names.{is_name}
use Rattle.ls_report.specs.Discipline.{is_history}
use Rattle.ls_report.specs.Events.{Event, Text}
use Rattle.ls_report.proofs.Parts.{name_parts}
use Rattle.ls_orders.specs.declared.calls.SetCall.{SetCall}
use Rattle.ls_orders.specs.declared.fault.OrderFault.TheVariants as faults
use Rattle.ls_orders.specs.Each.{each, ◌>>=◌}
use Rattle.ls_orders.specs.Orders.{call_at, is_call, is_number}
use Rattle.ls_orders.specs.SetCalls.{call_named, name_at, name_of, set_calls}
use Rattle.ls_order_search.specs.OrderLines.{OrderReadsBack, order_line, spaced}
use Rattle.ls_order_search.specs.Search.{Calls}
use Rattle.ls_order_search.proofs.Legality.{found_among}
use Rattle.ls_order_search.proofs.Names.{called_at, name_cut, name_is, number_at, numbered_at, name_of_call}
use Rattle.ls_order_search.proofs.Names.{well_formed_at}

-- ---- numbers

-- a digit; if the number isn't 0, no 0 comes first
abbrev Numbers : ℕ → Text → Type 0
Numbers n ds = (list_all is_digit ds ≡ true) × (0 < n → is_number ds ≡ true)

digit_of : (n : ℕ) → n < 10 → is_digit (48 + n) ≡ true
digit_of n lt = grind (arith, nat_tests)

not_zero : (n : ℕ) → 0 < n → n < 10 → not ((48 + n) == 48) ≡ true
not_zero n pos lt = elim (cases_Bool ((48 + n) == 48)) [
  | inl e ↦ absurd (omega (arith, eqb-true (48 + n) 48 e))
  | inr e
      ↦ ap not e
]

one_digit : (n : ℕ) → n < 10 → Numbers n ((48 + n) ∷ [])
one_digit n lt = (
  and_from (is_digit (48 + n)) true (digit_of n lt) refl,
  λ pos. and_from (not ((48 + n) == 48)) (is_digit (48 + n) && true) (not_zero n pos lt)
      (and_from (is_digit (48 + n)) true (digit_of n lt) refl),
)

number_push : (ds : Text) (b : ℕ) → is_number ds ≡ true → is_digit b ≡ true → is_number (ds ++ b ∷ []) ≡ true
number_push [] b h k = absurd (true≢false (sym h))
number_push (d ∷ ds) b h k =
    let p = and_parts (not (d == 48)) (list_all is_digit (d ∷ ds)) h in
    and_from (not (d == 48)) (list_all is_digit ((d ∷ ds) ++ b ∷ [])) p.0
    (list_all-append is_digit (d ∷ ds) (b ∷ []) ∙ and_from (list_all is_digit (d ∷ ds)) (list_all is_digit (b ∷ []))
    p.1 (and_from (is_digit b) true k refl))

more_digits : (n : ℕ) (ds : Text) → 10 ≤ n → Numbers (n / 10) ds → Numbers n (ds ++ (48 + n % 10) ∷ [])
more_digits n ds le h =
    let last : is_digit (48 + n % 10) ≡ true = digit_of (n % 10) (omega arith) in
    let some : 0 < n / 10 = omega arith in (
      list_all-append is_digit ds ((48 + n % 10) ∷ []) ∙ and_from (list_all is_digit ds)
          (list_all is_digit ((48 + n % 10) ∷ [])) h.0 (and_from (is_digit (48 + n % 10)) true last refl),
      λ pos. number_push ds (48 + n % 10) (h.1 some) last,
    )

decimal_numbers : (n : ℕ) → n < 2 ^ 64 → Numbers n (decimal n)
decimal_numbers n lt = decimal_by_steps Numbers one_digit more_digits n lt

-- ---- a call's text is an item

part_gap : (b : ℕ) → is_part b ≡ true → is_gap b ≡ false
part_gap b h = grind (arith, nat_tests)

digit_gap : (b : ℕ) → is_digit b ≡ true → is_gap b ≡ false
digit_gap b h = grind (arith, nat_tests)

no_gap : (p : ℕ → Bool) → ((b : ℕ) → p b ≡ true → is_gap b ≡ false) → (bs : Text) → list_all p bs ≡ true → HasNoGap bs
no_gap p f [] h = tt
no_gap p f (b ∷ bs) h = let q = and_parts (p b) (list_all p bs) h in (f b q.0, no_gap p f bs q.1)

no_gap_both : (xs ys : Text) → HasNoGap xs → HasNoGap ys → HasNoGap (xs ++ ys)
no_gap_both [] ys h k = k
no_gap_both (x ∷ xs) ys h k = (h.0, no_gap_both xs ys h.1 k)

-- the text is read as a call, has no gap and some byte
pub record IsItem (text : Text) : Type 0 where
  pub call : is_call text ≡ true
  pub whole : HasNoGap text
  pub some : 0 < length text

longer : (xs ys : Text) → 0 < length ys → 0 < length (xs ++ ys)
longer [] ys h = h
longer (x ∷ xs) ys h = omega arith

name_item : (e : Event) → is_name e.thread ≡ true → 0 < e.call → e.call < 2 ^ 64 → IsItem (name_of e)
name_item e n pos small =
    let d = decimal_numbers e.call small in
    record {
      call = ap (λ o. option_map_or (λ p. is_name p.0 && is_number p.1) o false) (name_cut e n) ∙
          and_from (is_name e.thread) (is_number (decimal e.call)) n (d.1 pos);
      whole = no_gap_both e.thread (46 ∷ decimal e.call) (no_gap is_part part_gap e.thread (name_parts e.thread n))
          (refl, no_gap is_digit digit_gap (decimal e.call) d.0);
      some = longer e.thread (46 ∷ decimal e.call) (omega arith);
    }

abbrev AreItems : List Text → Type 0
AreItems [] = Unit {0}
AreItems (t ∷ ts) = IsItem t × AreItems ts

-- ---- a line of items is read as they are

abbrev Read : ℕ → Text → List Text → Type 0
Read at text calls = (is : List Item) × Divides at text is × (map (λ i. i.1) is ≡ calls)

abbrev tail : List Text → Text
tail calls = flat_map spaced calls ++ 10 ∷ []

ends_item : (calls : List Text) → EndsItem (tail calls)
ends_item [] = refl
ends_item (c ∷ cs) = refl

one_more : (at : ℕ) (call : Text) (calls : List Text) →
    HasNoGap call →
    0 < length call →
    ((next : ℕ) → Read next (tail calls) calls) →
    Read at (call ++ tail calls) (call ∷ calls)
one_more at [] calls h pos later = absurd (omega arith)
one_more at (b ∷ w) calls h pos later =
    let r = later (at + length (b ∷ w)) in
    ((at, b ∷ w) ∷ r.0, item b w h (ends_item calls) r.1, ap (λ l. (b ∷ w) ∷ l) r.2)

read_tail : (at : ℕ) (calls : List Text) → AreItems calls → Read at (tail calls) calls
read_tail at [] h = ([], gap 10 refl ends, refl)
read_tail at (c ∷ cs) h =
    let r = one_more (at + 1) c cs h.0.whole h.0.some (λ next. read_tail next cs h.1) in (
      r.0,
      subst (λ t. Divides at (32 ∷ t) r.0) (sym (append_assoc c (flat_map spaced cs) (10 ∷ []))) (gap 32 refl r.1),
      r.2,
    )

read_line : (calls : List Text) → AreItems calls → Read 0 (order_line calls) calls
read_line [] h = ([], gap 10 refl ends, refl)
read_line (c ∷ cs) h = one_more 0 c cs h.0.whole h.0.some (λ next. read_tail next cs h.1)

taken : (i : Item) (c : Text) → i.1 ≡ c → is_call c ≡ true → call_at i ≡ Ok c
taken i c same h = ap (λ b. cond b (Ok i.1) (Err (faults.BadOrder i.0))) (ap is_call same ∙ h) ∙ ap Ok same

each_call : (is : List Item) (calls : List Text) →
    map (λ i. i.1) is ≡ calls →
    AreItems calls →
    each call_at is ≡ Ok calls
each_call [] [] e h = refl
each_call [] (c ∷ cs) e h = absurd cc
each_call (i ∷ is) [] e h = absurd cc
each_call (i ∷ is) (c ∷ cs) e h =
    let head : i.1 ≡ c = cc in
    let rest : map (λ j. j.1) is ≡ cs = cc in
    ap (λ x. x >>= λ y. each call_at is >>= λ ys. Ok (y ∷ ys)) (taken i c head h.0.call) ∙
    ap (λ x. x >>= λ ys. Ok (c ∷ ys)) (each_call is cs rest h.1)

-- ---- the texts of a legal order

named_by_call : (p : SetCall → Bool) (xs : Calls) (c : SetCall) → find p xs ≡ Some c → p c ≡ true
named_by_call p [] c e = absurd cc
named_by_call p (x ∷ xs) c e = go (p x) refl e (λ i. named_by_call p xs c i)
  where
    same : Some x ≡ Some c → x ≡ c
    same i = cc

    go : (b : Bool) → p x ≡ b → cond b (Some x) (find p xs) ≡ Some c → (find p xs ≡ Some c → p c ≡ true) → p c ≡ true
    go true k i later = ap p (sym (same i)) ∙ k
    go false k i later = later i

module _ (h : List Event) (is : is_history h ≡ true) (small : length h < 2 ^ 64) where
  is_item : (name : Text) (c : SetCall) → call_named h (set_calls h) name ≡ Some c → IsItem name
  is_item name c e =
      let a = found_among (λ d. bytes_eq name (name_at h d.called)) (set_calls h) c e in
      let same : name ≡ name_at h c.called = (bytes_eq-Decides name (name_at h c.called)).0
      (named_by_call (λ d. bytes_eq name (name_at h d.called)) (set_calls h) c e) in
      let at = called_at h c a in
      let low = number_at h c.called at.0 is at.1 in
      subst IsItem (sym (same ∙ name_of_call h c at.0 at.1))
      (name_item at.0 (name_is at.0 (well_formed_at h c.called at.0 is at.1)) (numbered_at h c.called at.0 is at.1 at.2)
      (omega arith))

  are_items : (order : List Text) (calls : Calls) →
      map (call_named h (set_calls h)) order ≡ map (λ c. Some c) calls →
      AreItems order
  are_items [] calls e = tt
  are_items (t ∷ ts) [] e = absurd cc
  are_items (t ∷ ts) (c ∷ cs) e =
      let head : call_named h (set_calls h) t ≡ Some c = cc in
      let rest : map (call_named h (set_calls h)) ts ≡ map (λ d. Some d) cs = cc in
      (is_item t c head, are_items ts cs rest)

-- the law: the line of a legal order is read as that order
pub reads_back : OrderReadsBack
reads_back h order is small l =
    let texts = are_items h is small order l.calls l.named in
    let r = read_line order texts in
    ap (each call_at) ((items_are_divided 0 (order_line order) r.0).1 r.1) ∙ each_call r.0 order r.2 texts
