-- The set calls of a history by their places, and their names.
use Rattle.std.proofs.lemmas.Option.{none-some}
use Rattle.std.proofs.Common.{◌≡◌, ◌⊎◌, inl, inr, ◌∙◌, ◌&&◌, ◌==◌, ◌+◌, ◌<◌, ◌^◌, ℕ, zero, suc, ℤ, Bool, true, false}
use Rattle.std.proofs.Common.{cond}
use Rattle.std.proofs.Common.{List, [], ◌∷◌, ◌++◌, length, length-append, drop, get_or, Contains}
use Rattle.std.proofs.Common.{Option, Some, None, refl, sym, ap, ap₂, subst, arith, eqb-true}
use Rattle.std.specs.Prelude.{slice_get}
use Rattle.std.specs.Fmt.{decimal}
use Rattle.std.specs.Str.{bytes_eq}
use Rattle.std.proofs.lemmas.Bool.{and_parts, and_from, true≢false}
use Rattle.std.proofs.lemmas.Fmt.{decimal_injective}
use Rattle.std.proofs.lemmas.Slice.Eq.{bytes_eq-Decides}
use Rattle.ls_report.specs.Events.{Event, Text}
use Rattle.ls_report.specs.Lines.{call_text}
use Rattle.ls_report.proofs.CutLemmas.{Without, lacks-decimal, without}
use Rattle.ls_linearizable.proofs.There.{there_cases, there_first, there_later, there_not}
use Rattle.ls_serial.proofs.Lists.{some_is}
use Rattle.ls_orders.specs.declared.calls.SetCall.{SetCall}
use Rattle.ls_orders.specs.declared.calls.End.{End}
use Rattle.ls_orders.specs.declared.calls.Operation.{Operation}
use Rattle.ls_orders.specs.declared.calls.End.TheVariants as ends
use Rattle.ls_orders.specs.SetCalls.{Asked, asked_of, calls_from, end_at, end_of, set_calls}
use Rattle.ls_orders.specs.SetCalls.{with_asked}

-- ---- texts of calls (as in `ls_orders/proofs/NameLemmas`)

at_seam : (b : ℕ) (xs ys : Text) → get_or (xs ++ b ∷ ys) (length xs) 0 ≡ b
at_seam b [] ys = refl
at_seam b (x ∷ xs) ys = at_seam b xs ys

has_seam : (b : ℕ) (xs ys zs : Text) → Without b zs → zs ≡ xs ++ b ∷ ys → ⊥
has_seam b xs ys zs w e =
    w (length xs) (omega (arith, ap length e, length-append xs (b ∷ ys)))
    (ap (λ l. get_or l (length xs) 0) e ∙ at_seam b xs ys)

last_point : (b : ℕ) (xs ys ps qs : Text) → Without b ps → Without b qs → xs ++ b ∷ ps ≡ ys ++ b ∷ qs →
    (xs ≡ ys) × (ps ≡ qs)
last_point b [] [] ps qs u v e = (refl, cc)
last_point b [] (y ∷ ys) ps qs u v e = absurd (has_seam b ys qs ps u cc)
last_point b (x ∷ xs) [] ps qs u v e = absurd (has_seam b xs ps qs v cc)
last_point b (x ∷ xs) (y ∷ ys) ps qs u v e =
    let first : x ≡ y = cc in
    let p = last_point b xs ys ps qs u v cc in
    (ap₂ (λ a l. a ∷ l) first p.0, p.1)

no_point : (n : ℕ) → n < 2 ^ 64 → Without 46 (decimal n)
no_point n lt = without 46 (decimal n) (lacks-decimal 46 n (λ m small same. omega arith) lt)

-- texts of two calls are the same only if thread and number are
pub same_call : (t u : Text) (m n : ℕ) → m < 2 ^ 64 → n < 2 ^ 64 → call_text t m ≡ call_text u n → (t ≡ u) × (m ≡ n)
same_call t u m n a b e =
    let p = last_point 46 t u (decimal m) (decimal n) (no_point m a) (no_point n b) e in
    (p.0, decimal_injective m n a b p.1)

-- ---- how a call ends

-- the events are of this thread's call
abbrev pub IsOf : Text → ℕ → Event → Type 0
IsOf thread call e = (e.thread ≡ thread) × (e.call ≡ call)

-- how the call ends in events that begin at this place: with its first event in them, or not
pub data HasEnd (thread : Text) (call at : ℕ) (es : List Event) (end : End) : Type 0 where
  Open : ((k : ℕ) (e : Event) → slice_get es k ≡ Some e → IsOf thread call e → ⊥) →
      end ≡ ends.Pending → HasEnd thread call at es end
  Found : (k : ℕ) (e : Event) → slice_get es k ≡ Some e → IsOf thread call e →
      end ≡ end_at (at + k) e.occurrence → HasEnd thread call at es end

-- `end_of` says so
pub has_end : (thread : Text) (call at : ℕ) (es : List Event) → HasEnd thread call at es (end_of thread call at es)
has_end thread call at [] = Open (λ k e there is. none-some _ there) refl
has_end thread call at (e ∷ es) =
    by_test (bytes_eq e.thread thread && e.call == call) refl (has_end thread call (at + 1) es)
  where
    is_of : IsOf thread call e → (bytes_eq e.thread thread && e.call == call) ≡ true
    is_of is = and_from (bytes_eq e.thread thread) (e.call == call) ((bytes_eq-Decides e.thread thread).1 is.0)
        (grind (arith, is.1))

    by_later : (bytes_eq e.thread thread && e.call == call) ≡ false →
        HasEnd thread call (at + 1) es (end_of thread call (at + 1) es) →
        HasEnd thread call at (e ∷ es) (end_of thread call (at + 1) es)
    by_later fails (Open none is) = Open (λ k x there of. by_place k x there of) is
      where
        by_place : (k : ℕ) (x : Event) → slice_get (e ∷ es) k ≡ Some x → IsOf thread call x → ⊥
        by_place zero x there of =
            let same : e ≡ x = some_is there in
            true≢false (sym (is_of (subst (IsOf thread call) (sym same) of)) ∙ fails)
        by_place (suc k) x there of = none k x there of
    by_later fails (Found k x there of is) =
        Found (suc k) x there of (is ∙ ap (λ n. end_at n x.occurrence) (omega arith))

    by_test : (b : Bool) → (bytes_eq e.thread thread && e.call == call) ≡ b →
        HasEnd thread call (at + 1) es (end_of thread call (at + 1) es) →
        HasEnd thread call at (e ∷ es) (cond b (end_at at e.occurrence) (end_of thread call (at + 1) es))
    by_test true is later =
        let p = and_parts (bytes_eq e.thread thread) (e.call == call) is in
        Found 0 e refl ((bytes_eq-Decides e.thread thread).0 p.0, eqb-true e.call call p.1)
        (ap (λ n. end_at n e.occurrence) (omega arith))
    by_test false fails later = by_later fails later

-- ---- set calls

-- the call is at this place of the history, of which `es` is what is left from place `at` on
pub record IsCallAt (at : ℕ) (es : List Event) (c : SetCall) : Type 0 where
  pub k : ℕ
  pub event : Event
  pub there : slice_get es k ≡ Some event
  pub asked : asked_of event.occurrence ≡ Some (c.operation, c.item)
  pub called : c.called ≡ at + k
  pub end : c.end ≡ end_of event.thread event.call (at + k + 1) (drop (k + 1) es)

more_is : (k : ℕ) → suc k + 1 ≡ suc (k + 1)
more_is k = omega arith

drop_more : (e : Event) (es : List Event) (k : ℕ) → drop (suc k + 1) (e ∷ es) ≡ drop (k + 1) es
drop_more e es k = ap (λ n. drop n (e ∷ es)) (more_is k)

drop_first : (e : Event) (es : List Event) → drop (0 + 1) (e ∷ es) ≡ es
drop_first e es = refl

place_later : (at k : ℕ) → at + 1 + k ≡ at + suc k
place_later at k = omega arith

end_later : (at k : ℕ) → at + 1 + k + 1 ≡ at + suc k + 1
end_later at k = omega arith

end_first : (at : ℕ) → at + 1 ≡ at + 0 + 1
end_first at = omega arith

place_first : (at : ℕ) → at ≡ at + 0
place_first at = omega arith

-- one event before
later_call : (at : ℕ) (e : Event) (es : List Event) (c : SetCall) → IsCallAt (at + 1) es c → IsCallAt at (e ∷ es) c
later_call at e es c r = record {
  k = suc r.k;
  event = r.event;
  there = r.there;
  asked = r.asked;
  called = r.called ∙ place_later at r.k;
  end = r.end ∙ ap₂ (λ n l. end_of r.event.thread r.event.call n l) (end_later at r.k) (sym (drop_more e es r.k));
}

calls_there : (at : ℕ) (es : List Event) (c : SetCall) → Contains (calls_from at es) c → IsCallAt at es c
calls_there at [] c there = absurd (there_not c there)
calls_there at (e ∷ es) c there = by_asked (calls_there (at + 1) es c) (asked_of e.occurrence) refl there
  where
    by_asked : (Contains (calls_from (at + 1) es) c → IsCallAt (at + 1) es c) → (a : Option Asked) →
        asked_of e.occurrence ≡ a →
        Contains (with_asked a at (end_of e.thread e.call (at + 1) es) (calls_from (at + 1) es)) c →
        IsCallAt at (e ∷ es) c
    by_asked more None is inside = later_call at e es c (more inside)
    by_asked more (Some a) is inside = by_place (there_cases _ c (calls_from (at + 1) es) inside)
      where
        first_is : IsCallAt at (e ∷ es)
            (record { called = at; operation = a.0; item = a.1; end = end_of e.thread e.call (at + 1) es })
        first_is = record {
          k = 0;
          event = e;
          there = refl;
          asked = is;
          called = place_first at;
          end = ap (λ n. end_of e.thread e.call n es) (end_first at);
        }

        by_place : (record { called = at; operation = a.0; item = a.1; end = end_of e.thread e.call (at + 1) es } ≡ c) ⊎
            Contains (calls_from (at + 1) es) c → IsCallAt at (e ∷ es) c
        by_place (inl same) = subst (IsCallAt at (e ∷ es)) same first_is
        by_place (inr later) = later_call at e es c (more later)

-- the set call of a call event
abbrev pub call_of : ℕ → List Event → ℕ → Event → Asked → SetCall
call_of at es k e a = record {
  called = at + k;
  operation = a.0;
  item = a.1;
  end = end_of e.thread e.call (at + k + 1) (drop (k + 1) es);
}

there_calls : (at : ℕ) (es : List Event) (k : ℕ) (e : Event) (a : Asked) → slice_get es k ≡ Some e →
    asked_of e.occurrence ≡ Some a → Contains (calls_from at es) (call_of at es k e a)
there_calls at [] k e a there is = absurd (none-some _ there)
there_calls at (x ∷ es) zero e a there is =
    let same : x ≡ e = some_is there in
    let first = there_first (call_of at (x ∷ es) 0 e a) (calls_from (at + 1) es) in
    subst (λ z. Contains z (call_of at (x ∷ es) 0 e a)) (sym (first_with x same)) first
  where
    first_with : (x : Event) → x ≡ e → calls_from at (x ∷ es) ≡ call_of at (x ∷ es) 0 e a ∷ calls_from (at + 1) es
    first_with x same =
        ap (λ z. with_asked (asked_of z.occurrence) at (end_of z.thread z.call (at + 1) es) (calls_from (at + 1) es))
        same
        ∙ ap (λ z. with_asked z at (end_of e.thread e.call (at + 1) es) (calls_from (at + 1) es)) is
        ∙ ap₂ (λ p q. record { called = p; operation = a.0; item = a.1; end = end_of e.thread e.call q es } ∷ calls_from
        (at + 1) es)
        (place_first at) (end_first at)
there_calls at (x ∷ es) (suc k) e a there is = by_asked (asked_of x.occurrence) (there_calls (at + 1) es k e a there is)
  where
    same : call_of (at + 1) es k e a ≡ call_of at (x ∷ es) (suc k) e a
    same = ap₂ (λ p q. record { called = p; operation = a.0; item = a.1; end = q }) (place_later at k)
        (ap₂ (λ n l. end_of e.thread e.call n l) (end_later at k) (sym (drop_more x es k)))

    by_asked : (o : Option Asked) → Contains (calls_from (at + 1) es) (call_of (at + 1) es k e a) →
        Contains (with_asked o at (end_of x.thread x.call (at + 1) es) (calls_from (at + 1) es))
        (call_of at (x ∷ es) (suc k) e a)
    by_asked None inside = subst (Contains (calls_from (at + 1) es)) same inside
    by_asked (Some b) inside = there_later _ (call_of at (x ∷ es) (suc k) e a) (calls_from (at + 1) es)
        (subst (Contains (calls_from (at + 1) es)) same inside)

-- ---- in a whole history

-- the call begins with this event, which is at its place
pub record IsCallOf (es : List Event) (c : SetCall) : Type 0 where
  pub event : Event
  pub there : slice_get es c.called ≡ Some event
  pub asked : asked_of event.occurrence ≡ Some (c.operation, c.item)
  pub end : c.end ≡ end_of event.thread event.call (c.called + 1) (drop (c.called + 1) es)

from_zero : (k : ℕ) → 0 + k ≡ k
from_zero k = omega arith

-- each set call of a history stands at its place
pub set_call_at : (es : List Event) (c : SetCall) → Contains (set_calls es) c → IsCallOf es c
set_call_at es c there =
    let r = calls_there 0 es c there in
    let is : c.called ≡ r.k = r.called ∙ from_zero r.k in
    record {
      event = r.event;
      there = ap (slice_get es) is ∙ r.there;
      asked = r.asked;
      end = r.end ∙ ap₂ (λ n m. end_of r.event.thread r.event.call (n + 1) (drop (m + 1) es)) (sym r.called) (sym is);
    }

-- the call that begins with the event at this place
abbrev pub set_call : List Event → ℕ → Event → Asked → SetCall
set_call es k e a = record {
  called = k;
  operation = a.0;
  item = a.1;
  end = end_of e.thread e.call (k + 1) (drop (k + 1) es);
}

-- each event that asks gives a set call
pub at_set_call : (es : List Event) (k : ℕ) (e : Event) (a : Asked) → slice_get es k ≡ Some e →
    asked_of e.occurrence ≡ Some a → Contains (set_calls es) (set_call es k e a)
at_set_call es k e a there is = subst (Contains (set_calls es))
    (ap (λ n. record {
      called = n;
      operation = a.0;
      item = a.1;
      end =
          end_of e.thread e.call (n + 1) (drop (k + 1) es);
    }) (from_zero k))
    (there_calls 0 es k e a there is)

-- two calls at the same place are the same
pair_first : (x y : Asked) → x ≡ y → x.0 ≡ y.0
pair_first x y e = ap (λ z. z.0) e

pair_second : (x y : Asked) → x ≡ y → x.1 ≡ y.1
pair_second x y e = ap (λ z. z.1) e

abbrev built : ℕ → Operation → ℤ → End → SetCall
built k o i x = record { called = k; operation = o; item = i; end = x }

same_built : (k l : ℕ) → k ≡ l → (o p : Operation) → o ≡ p → (i j : ℤ) → i ≡ j → (x y : End) → x ≡ y →
    built k o i x ≡ built l p j y
same_built k l a o p b i j c x y d = cc

-- at one place stands one set call
pub same_place : (es : List Event) (c d : SetCall) → IsCallOf es c → IsCallOf es d → c.called ≡ d.called → c ≡ d
same_place es c d a b e =
    let same : a.event ≡ b.event = some_is (sym a.there ∙ ap (slice_get es) e ∙ b.there) in
    let p = some_is (sym a.asked ∙ ap (λ z. asked_of z.occurrence) same ∙ b.asked) in
    let end : c.end ≡ d.end =
    a.end ∙ ap₂ (λ z n. end_of z.thread z.call (n + 1) (drop (n + 1) es)) same e ∙ sym b.end in
    same_built c.called d.called e c.operation d.operation (pair_first _ _ p) c.item d.item
    (pair_second _ _ p) c.end d.end end
