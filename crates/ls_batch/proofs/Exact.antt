-- Keys tell events apart, and lists of keys histories.
use Rattle.std.proofs.Common.{◌≡◌, ◌≢◌, ℕ, List, [], ◌∷◌, ◌∙◌, map, refl, ap, ap₂, sym, Bool, true, false, true≢false}
use Rattle.std.proofs.Common.{Ordering, Less, Equal, Greater}
use Rattle.std.specs.Prelude.{Some, None}
use Rattle.std.specs.Cmp.Lexicographic.{slice_cmp}
use Rattle.std.specs.Ordering.{ordering_reverse, ordering_then, int_cmp, nat_cmp, is_eq}
use Rattle.std.specs.Cmp.{IsTotalOrder}
use Rattle.std.proofs.lemmas.Cmp.{int_cmp_total, nat_cmp_total}
use Rattle.std.proofs.lemmas.Map.Lookups.{CmpEqualImpliesEq, exact_unsigned, exact_signed}
use Rattle.ls_events.specs.declared.event.Event.{Event}
use Rattle.ls_events.specs.declared.event.Happening.{Happening}
use Rattle.ls_events.specs.declared.event.Happening.TheVariants as happening
use Rattle.ls_events.specs.declared.value.Value.TheVariants as value
use Rattle.ls_events.specs.declared.kind.Kind.{Kind}
use Rattle.ls_events.specs.declared.kind.Kind.TheVariants as kind
use Rattle.ls_batch.specs.declared.keys.HappeningKey.{HappeningKey}
use Rattle.ls_batch.specs.declared.keys.HappeningKey.TheVariants as outcome
use Rattle.ls_batch.specs.declared.keys.EventKey.{EventKey}
use Rattle.ls_batch.specs.contracts.keys.HappeningKeyOrd.TheImpl as outcome_ord
use Rattle.ls_batch.specs.contracts.keys.EventKeyOrd.TheImpl as event_ord
use Rattle.ls_batch.specs.Keys.{trap_key, happening_key, event_key, key_event, key_happening}
use Rattle.ls_batch.specs.Counted.{are_same}
use Rattle.ls_batch.specs.Numbers.{Key}
use Rattle.ls_batch.specs.Tallies.{History}

trapped_back : (k : Kind) → key_happening (trap_key k) ≡ happening.Trapped k
trapped_back kind.Arithmetic = refl
trapped_back kind.NullPointer = refl
trapped_back kind.ArrayIndexOutOfBounds = refl
trapped_back kind.NegativeArraySize = refl
trapped_back kind.IllegalMonitorState = refl
trapped_back kind.StackOverflow = refl
trapped_back kind.Error = refl

happened_back : (h : Happening) → key_happening (happening_key h) ≡ h
happened_back happening.Called = refl
happened_back (happening.Returned None) = refl
happened_back (happening.Returned (Some (value.Int n))) = refl
happened_back (happening.Returned (Some (value.Boolean b))) = refl
happened_back (happening.Returned (Some (value.Reference r))) = refl
happened_back (happening.Returned (Some (value.Pair r b))) = refl
happened_back (happening.Trapped k) = trapped_back k

event_back : (e : Event) → key_event (event_key e) ≡ e
event_back e = λ i. record { thread = e.thread; call = e.call; happening = happened_back e.happening i }

pub history_back : (h : History) → map key_event (map event_key h) ≡ h
history_back [] = refl
history_back (e ∷ es) = λ i. event_back e i ∷ history_back es i

pub same_history : (g h : History) → map event_key g ≡ map event_key h → g ≡ h
same_history g h e = sym (history_back g) ∙ (ap (map key_event) e ∙ history_back h)

outcome_back : (o : HappeningKey) → happening_key (key_happening o) ≡ o
outcome_back outcome.Called = refl
outcome_back outcome.Returned = refl
outcome_back (outcome.Int n) = refl
outcome_back (outcome.Boolean b) = refl
outcome_back (outcome.Reference r) = refl
outcome_back (outcome.Pair r b) = refl
outcome_back outcome.Arithmetic = refl
outcome_back outcome.NullPointer = refl
outcome_back outcome.ArrayIndexOutOfBounds = refl
outcome_back outcome.NegativeArraySize = refl
outcome_back outcome.IllegalMonitorState = refl
outcome_back outcome.StackOverflow = refl
outcome_back outcome.Error = refl

key_back : (m : EventKey) → event_key (key_event m) ≡ m
key_back m = λ i. record { thread = m.thread; call = m.call; happening = outcome_back m.happening i }

-- each list of keys is that of a history
pub keys_back : (ms : List EventKey) → map event_key (map key_event ms) ≡ ms
keys_back [] = refl
keys_back (m ∷ ms) = λ i. key_back m i ∷ keys_back ms i

-- the order of keys tells all apart
pub both_equal : (a b : Ordering) → ordering_then a b ≡ Equal → (a ≡ Equal) × (b ≡ Equal)
both_equal Less b e = absurd (cc)
both_equal Equal b e = (refl, e)
both_equal Greater b e = absurd (cc)

abbrev outcome_cmp : HappeningKey → HappeningKey → Ordering
outcome_cmp = (outcome_ord.ghosts).cmp

abbrev pub event_cmp : EventKey → EventKey → Ordering
event_cmp = (event_ord.ghosts).cmp

exact_truth : (a b : Bool) → (outcome_ord.ghosts).cmp (outcome.Boolean a) (outcome.Boolean b) ≡ Equal → a ≡ b
exact_truth true true e = refl
exact_truth false false e = refl
exact_truth true false e = absurd (cc)
exact_truth false true e = absurd (cc)

exact_pair : (r s : ℕ) (b c : Bool) →
    (outcome_ord.ghosts).cmp (outcome.Pair r b) (outcome.Pair s c) ≡ Equal →
    outcome.Pair r b ≡ outcome.Pair s c
exact_pair r s b c e = let k = both_equal (nat_cmp r s) _ e in
    λ i. outcome.Pair (exact_unsigned r s k.0 i) (exact_truth b c k.1 i)

exact_outcome : CmpEqualImpliesEq outcome_cmp
exact_outcome (outcome.Int m) (outcome.Int n) e = ap (λ z. outcome.Int z) (exact_signed m n e)
exact_outcome (outcome.Boolean m) (outcome.Boolean n) e = ap (λ z. outcome.Boolean z) (exact_truth m n e)
exact_outcome (outcome.Reference m) (outcome.Reference n) e = ap (λ z. outcome.Reference z) (exact_unsigned m n e)
exact_outcome (outcome.Pair r b) (outcome.Pair s c) e = exact_pair r s b c e
exact_outcome outcome.Called outcome.Called e = refl
exact_outcome outcome.Returned outcome.Returned e = refl
exact_outcome outcome.Arithmetic outcome.Arithmetic e = refl
exact_outcome outcome.NullPointer outcome.NullPointer e = refl
exact_outcome outcome.ArrayIndexOutOfBounds outcome.ArrayIndexOutOfBounds e = refl
exact_outcome outcome.NegativeArraySize outcome.NegativeArraySize e = refl
exact_outcome outcome.IllegalMonitorState outcome.IllegalMonitorState e = refl
exact_outcome outcome.StackOverflow outcome.StackOverflow e = refl
exact_outcome outcome.Error outcome.Error e = refl
exact_outcome a b e = absurd (true≢false (sym (ap is_eq e)))

exact_event : CmpEqualImpliesEq event_cmp
exact_event a b e =
    let first = both_equal (nat_cmp a.thread b.thread) _ e in
    let rest = both_equal (nat_cmp a.call b.call) (outcome_cmp a.happening b.happening) first.1 in
    let thread = exact_unsigned a.thread b.thread first.0 in
    let call = exact_unsigned a.call b.call rest.0 in
    let happening = exact_outcome a.happening b.happening rest.1 in
    λ i. record { thread = thread i; call = call i; happening = happening i }

exact_list : {K : Type 0} (R : K → K → Ordering) → CmpEqualImpliesEq R → CmpEqualImpliesEq (slice_cmp R)
exact_list R h [] [] e = refl
exact_list R h [] (y ∷ ys) e = absurd (cc)
exact_list R h (x ∷ xs) [] e = absurd (cc)
exact_list R h (x ∷ xs) (y ∷ ys) e = let k = both_equal (R x y) (slice_cmp R xs ys) e in λ i. h x y k.0 i ∷
    exact_list R h xs ys k.1 i

pub exact_history : (xs ys : List EventKey) → slice_cmp event_cmp xs ys ≡ Equal → xs ≡ ys
exact_history xs ys e = exact_list event_cmp exact_event xs ys e

-- ---- lists of keys as they are compared

is_equal : (o : Ordering) → is_eq o ≡ true → o ≡ Equal
is_equal Less e = absurd (true≢false (sym e))
is_equal Equal e = refl
is_equal Greater e = absurd (true≢false (sym e))

-- ---- a history is compared as equal to itself

itself : {K : Type 0} (R : K → K → Ordering) → IsTotalOrder R → (x : K) → R x x ≡ Equal
itself {K} R total x = go (R x x) (total.antisymm x x)
  where
    go : (o : Ordering) → o ≡ ordering_reverse o → o ≡ Equal
    go Less e = absurd cc
    go Equal e = refl
    go Greater e = absurd cc

then_equal : (a b : Ordering) → a ≡ Equal → b ≡ Equal → ordering_then a b ≡ Equal
then_equal a b e f = ap₂ ordering_then e f

truth_itself : (b : Bool) → (outcome_ord.ghosts).cmp (outcome.Boolean b) (outcome.Boolean b) ≡ Equal
truth_itself true = refl
truth_itself false = refl

outcome_itself : (o : HappeningKey) → outcome_cmp o o ≡ Equal
outcome_itself (outcome.Int n) = itself int_cmp int_cmp_total n
outcome_itself (outcome.Boolean b) = truth_itself b
outcome_itself (outcome.Reference n) = itself nat_cmp nat_cmp_total n
outcome_itself (outcome.Pair r b) = then_equal (nat_cmp r r) _ (itself nat_cmp nat_cmp_total r) (truth_itself b)
outcome_itself outcome.Called = refl
outcome_itself outcome.Returned = refl
outcome_itself outcome.Arithmetic = refl
outcome_itself outcome.NullPointer = refl
outcome_itself outcome.ArrayIndexOutOfBounds = refl
outcome_itself outcome.NegativeArraySize = refl
outcome_itself outcome.IllegalMonitorState = refl
outcome_itself outcome.StackOverflow = refl
outcome_itself outcome.Error = refl

event_itself : (k : EventKey) → event_cmp k k ≡ Equal
event_itself k =
    then_equal (nat_cmp k.thread k.thread) _ (itself nat_cmp nat_cmp_total k.thread)
    (then_equal (nat_cmp k.call k.call) (outcome_cmp k.happening k.happening) (itself nat_cmp nat_cmp_total k.call)
    (outcome_itself k.happening))

list_itself : (ks : List EventKey) → slice_cmp event_cmp ks ks ≡ Equal
list_itself [] = refl
list_itself (k ∷ ks) = then_equal (event_cmp k k) (slice_cmp event_cmp ks ks) (event_itself k) (list_itself ks)

-- ---- keys as they are compared

pub same_keys : (k l : Key) → are_same k l ≡ true → k ≡ l
same_keys k l e =
    let parts = both_equal (nat_cmp k.number l.number) (slice_cmp event_cmp k.events l.events) (is_equal _ e) in
    let number = exact_unsigned k.number l.number parts.0 in
    let events = exact_history k.events l.events parts.1 in
    λ i. record { number = number i; events = events i }

pub are_itself : (k : Key) → are_same k k ≡ true
are_itself k = ap is_eq (then_equal (nat_cmp k.number k.number) (slice_cmp event_cmp k.events k.events)
    (itself nat_cmp nat_cmp_total k.number) (list_itself k.events))

pub are_apart : (k l : Key) → are_same k l ≡ false → k ≢ l
are_apart k l e = λ same. true≢false (sym (are_itself k) ∙ ap (are_same k) same ∙ e)
