-- How calls end, one event before the other.
use Rattle.std.proofs.Common.{◌≡◌, ◌∙◌, ◌==◌, ◌&&◌, ◌+◌, ◌-◌, ◌<◌, ◌≤◌, ℕ, Bool, true, false, cond, List, [], ◌∷◌, ◌++◌}
use Rattle.std.proofs.Common.{length, map, drop, get_or, arith, refl, sym, ap}
use Rattle.std.specs.Prelude.{Option, Some, None, reverse, unwrap_or}
use Rattle.std.specs.HashMap.{HashMap, UpdatesBy, get}
use Rattle.std.specs.Str.{bytes_eq}
use Rattle.std.proofs.lemmas.List.{reverse-append}
use Rattle.ls_report.specs.Events.{Text}
use Rattle.ls_report.specs.Plain.{plain_event}
use Rattle.ls_report.specs.declared.history.NamedEvent.{NamedEvent}
use Rattle.ls_orders.specs.declared.calls.End.{End}
use Rattle.ls_orders.specs.declared.calls.End.TheVariants.{Pending}
use Rattle.ls_orders.specs.declared.calls.SetCall.{SetCall}
use Rattle.ls_orders.specs.Ends.{CallKey, ended}
use Rattle.ls_orders.specs.SetCalls.{Asked, asked_of, calls_from, end_at, end_of, with_asked}
use Rattle.ls_orders.proofs.FindingLemmas.{drop_event}

-- ---- the map

abbrev pub key_eq : CallKey → CallKey → Bool
key_eq x y = x.0 == y.0 && bytes_eq x.1.now y.1.now

swap : (a b : Bool) → (a && b) ≡ (b && a)
swap true true = refl
swap true false = refl
swap false true = refl
swap false false = refl

or_pending : (b : Bool) (w o : Option End) →
    unwrap_or (cond b w o) Pending ≡ cond b (unwrap_or w Pending) (unwrap_or o Pending)
or_pending true w o = refl
or_pending false w o = refl

-- how calls end after one end is put into the map
pub end_put : {S : Type 0} (old new : HashMap CallKey End S) (k : CallKey) (w : Option End) →
    UpdatesBy key_eq (key_eq k) old new w →
    (thread : Text) (call : ℕ)
    → ended new thread call ≡ cond (bytes_eq k.1.now thread && k.0 == call) (unwrap_or w Pending)
    (ended old thread call)
end_put old new k w u thread call =
    let q : CallKey = (call, record { ref_ptr = (0, 0); now = thread }) in
    ap (λ o. unwrap_or o Pending) (u.0 q) ∙ or_pending (key_eq k q) w (get key_eq old q)
    ∙ ap (λ b. cond b (unwrap_or w Pending) (ended old thread call)) (swap (k.0 == call) (bytes_eq k.1.now thread))

-- the same at other words for the thread and the end
pub put_there : (old new : Text → ℕ → End) (t u : Text) (n : ℕ) (x y : End) → t ≡ u → x ≡ y
    → ((thread : Text) (number : ℕ) → new thread number ≡ cond (bytes_eq t thread && n == number) x (old thread number))
    → (thread : Text) (number : ℕ) → new thread number ≡ cond (bytes_eq u thread && n == number) y (old thread number)
put_there old new t u n x y same end put thread number =
    put thread number ∙ ap (λ s. cond (bytes_eq s thread && n == number) x (old thread number)) same
    ∙ ap (λ z. cond (bytes_eq u thread && n == number) z (old thread number)) end

-- ---- the events

pub event_before : (es : List NamedEvent) (i : ℕ) (e : NamedEvent) → 0 < i → i ≤ length es → e ≡ get_or es (i - 1) e
    → drop (i - 1) (map plain_event es) ≡ plain_event e ∷ drop i (map plain_event es)
event_before es i e some le is =
    let lt : i - 1 < length es = omega arith in
    let next : i - 1 + 1 ≡ i = omega arith in
    drop_event es (i - 1) e lt is ∙ ap (λ n. plain_event e ∷ drop n (map plain_event es)) next

-- how calls end, seen from one event earlier
pub ends_before : (es : List NamedEvent) (i : ℕ) (e : NamedEvent) (old new : Text → ℕ → End) →
    0 < i →
    i ≤ length es →
    e ≡ get_or es (i - 1) e
    → ((thread : Text) (call : ℕ) → old thread call ≡ end_of thread call i (drop i (map plain_event es)))
    → ((thread : Text) (call : ℕ) → new thread call
    ≡ cond (bytes_eq (plain_event e).thread thread && (plain_event e).call == call)
    (end_at (i - 1) (plain_event e).occurrence) (old thread call))
    → (thread : Text) (call : ℕ) → new thread call ≡ end_of thread call (i - 1) (drop (i - 1) (map plain_event es))
ends_before es i e old new some le is was put thread call =
    let next : i ≡ i - 1 + 1 = omega arith in
    let here = λ (x : End). cond (bytes_eq (plain_event e).thread thread && (plain_event e).call == call)
    (end_at (i - 1) (plain_event e).occurrence) x in
    put thread call ∙ ap here (was thread call) ∙ ap (λ n. here (end_of thread call n (drop i (map plain_event es))))
    next
    ∙ ap (end_of thread call (i - 1)) (sym (event_before es i e some le is))

-- ---- the calls

calls_before : (es : List NamedEvent) (i : ℕ) (e : NamedEvent) → 0 < i → i ≤ length es → e ≡ get_or es (i - 1) e
    → calls_from (i - 1) (drop (i - 1) (map plain_event es))
    ≡ with_asked (asked_of (plain_event e).occurrence) (i - 1)
    (end_of (plain_event e).thread (plain_event e).call i (drop i (map plain_event es)))
    (calls_from i (drop i (map plain_event es)))
calls_before es i e some le is =
    let next : i - 1 + 1 ≡ i = omega arith in
    let more = drop i (map plain_event es) in
    ap (calls_from (i - 1)) (event_before es i e some le is)
    ∙ ap (λ n. with_asked (asked_of (plain_event e).occurrence) (i - 1)
    (end_of (plain_event e).thread (plain_event e).call n more) (calls_from n more)) next

-- the set calls from one event earlier on, if that event is a set call
pub call_before : (es : List NamedEvent) (i : ℕ) (e : NamedEvent) (asked : Asked) (end : End) (calls new : List SetCall)
    →
    0 < i →
    i ≤ length es →
    e ≡ get_or es (i - 1) e
    → Some asked ≡ asked_of (plain_event e).occurrence → end ≡ end_of (plain_event e).thread (plain_event e).call i
    (drop i (map plain_event es))
    → new ≡ calls ++ record { called = i - 1; operation = asked.0; item = asked.1; end = end } ∷ []
    → reverse calls ≡ calls_from i (drop i (map plain_event es)) →
    reverse new ≡ calls_from (i - 1) (drop (i - 1) (map plain_event es))
call_before es i e asked end calls new some le is o there pushed h =
    let more = drop i (map plain_event es) in
    let c : SetCall = record { called = i - 1; operation = asked.0; item = asked.1; end = end } in
    ap reverse pushed ∙ reverse-append calls (c ∷ []) ∙ ap (λ xs. c ∷ xs) h
    ∙ ap (λ x. with_asked (Some asked) (i - 1) x (calls_from i more)) there
    ∙ ap (λ x. with_asked x (i - 1) (end_of (plain_event e).thread (plain_event e).call i more) (calls_from i more)) o
    ∙ sym (calls_before es i e some le is)

-- the set calls from one event earlier on, if that event is none
pub no_call_before : (es : List NamedEvent) (i : ℕ) (e : NamedEvent) (calls : List SetCall) →
    0 < i →
    i ≤ length es →
    e ≡ get_or es (i - 1) e
    → None ≡ asked_of (plain_event e).occurrence
    → reverse calls ≡ calls_from i (drop i (map plain_event es)) →
    reverse calls ≡ calls_from (i - 1) (drop (i - 1) (map plain_event es))
no_call_before es i e calls some le is o h =
    let more = drop i (map plain_event es) in
    h ∙ ap (λ x. with_asked x (i - 1) (end_of (plain_event e).thread (plain_event e).call i more) (calls_from i more)) o
    ∙ sym (calls_before es i e some le is)
