-- The calls that an order names, and what a set holds after calls, one step further.
use Rattle.std.proofs.Common.{◌≡◌, ◌∙◌, ◌+◌, ◌-◌, ◌<◌, ◌≤◌, ℕ, suc, ℤ, Bool, false, cond, List, [], ◌∷◌, ◌++◌, not}
use Rattle.std.proofs.Common.{length, take, drop, get_or, refl, sym, ap, arith, append_assoc, Option, Some, None}
use Rattle.std.specs.List.{before_first, cons_option, filter, filter_map, position_or_len}
use Rattle.std.specs.Str.{bytes_eq}
use Rattle.std.proofs.lemmas.Cmp.{nat_list_eq_equiv}
use Rattle.std.proofs.lemmas.List.{drop_more, take_more}
use Rattle.ls_report.specs.Events.{Event, Text}
use Rattle.ls_orders.specs.Rules.{after_call, is_present}
use Rattle.ls_orders.specs.SetCalls.{call_named, name_at}
use Rattle.ls_orders.specs.declared.calls.SetCall.{SetCall}
use Rattle.ls_orders.proofs.RuleLemmas.{no_call, present_push}

-- one call more, in front: of calls with one text the first is found
pub named_before : (es : List Event) (calls : List SetCall) (i : ℕ) (text : Text) →
    0 < i →
    i ≤ length calls →
    call_named es (drop (i - 1) calls) text
    ≡ cond (bytes_eq (name_at es (get_or calls (i - 1) no_call).called) text) (Some (get_or calls (i - 1) no_call))
    (call_named es (drop i calls) text)
named_before es calls i text some le =
    let lt : i - 1 < length calls = omega arith in
    let next : i - 1 + 1 ≡ i = omega arith in
    let call = get_or calls (i - 1) no_call in
    ap (λ cs. call_named es cs text) (drop_more calls (i - 1) no_call lt)
    ∙ ap (λ n. call_named es (call ∷ drop n calls) text) next
    ∙ ap (λ b. cond b (Some call) (call_named es (drop i calls) text))
    (nat_list_eq_equiv.symm text (name_at es call.called))

-- an entry that isn't looked for is passed
past_entry : (look : Text → Option SetCall) (p : Text → Bool) (name : Text) (names : List Text) →
    p name ≡ false →
    filter_map look (before_first p (name ∷ names)) ≡ cons_option (look name) (filter_map look (before_first p names))
past_entry look p name names e =
    let n = position_or_len p names in
    let next : 1 + n ≡ suc n = omega arith in
    ap (λ b. filter_map look (take (cond (not b) (1 + n) 0) (name ∷ names))) e
    ∙ ap (λ k. filter_map look (take k (name ∷ names))) next

-- an entry that names a call
pub entry_named : (look : Text → Option SetCall) (p : Text → Bool) (front : List SetCall) (name : Text)
    (names : List Text) (call : SetCall) (all : List SetCall) →
    p name ≡ false →
    look name ≡ Some call →
    front ++ filter_map look (before_first p (name ∷ names)) ≡ all →
    (front ++ call ∷ []) ++ filter_map look (before_first p names) ≡ all
entry_named look p front name names call all other is h =
    append_assoc front (call ∷ []) (filter_map look (before_first p names))
    ∙ ap (λ o. front ++ cons_option o (filter_map look (before_first p names))) (sym is)
    ∙ ap (λ cs. front ++ cs) (sym (past_entry look p name names other)) ∙ h

-- an entry that names none
pub entry_of_none : (look : Text → Option SetCall) (p : Text → Bool) (front : List SetCall) (name : Text)
    (names : List Text) (all : List SetCall) →
    p name ≡ false →
    look name ≡ None →
    front ++ filter_map look (before_first p (name ∷ names)) ≡ all →
    front ++ filter_map look (before_first p names) ≡ all
entry_of_none look p front name names all other is h =
    ap (λ o. front ++ cons_option o (filter_map look (before_first p names))) (sym is)
    ∙ ap (λ cs. front ++ cs) (sym (past_entry look p name names other)) ∙ h

-- entries that are looked up alike name the same calls
pub named_alike : (f g : Text → Option SetCall) (names : List Text) →
    ((name : Text) → f name ≡ g name) →
    filter_map f names ≡ filter_map g names
named_alike f g [] same = refl
named_alike f g (name ∷ names) same = ap (λ o. cons_option o (filter_map f names)) (same name)
    ∙ ap (λ cs. cons_option (g name) cs) (named_alike f g names same)

-- tests that answer alike leave the same items
pub filtered_alike : (f g : ℤ → Bool) (items : List ℤ) →
    ((item : ℤ) → f item ≡ g item) →
    filter f items ≡ filter g items
filtered_alike f g [] same = refl
filtered_alike f g (item ∷ items) same = ap (λ b. cond b (item ∷ filter f items) (filter f items)) (same item)
    ∙ ap (λ xs. cond (g item) (item ∷ xs) xs) (filtered_alike f g items same)

-- whether an item is in the set, one call further
pub present_taken : (item : ℤ) (calls : List SetCall) (i : ℕ) →
    i < length calls →
    is_present item (take (i + 1) calls) ≡ after_call item (is_present item (take i calls)) (get_or calls i no_call)
present_taken item calls i lt = ap (is_present item) (take_more calls i no_call lt)
    ∙ present_push item false (take i calls) (get_or calls i no_call)
