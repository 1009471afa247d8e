-- A history whose set calls, in the order in which they are called, are a run of a set has a legal order.
use Rattle.std.proofs.lemmas.Bool.{false_from_ne_true}
use Rattle.std.proofs.Common.{◌≡◌, ◌⊎◌, inl, inr, ◌∙◌, ◌+◌, ◌<◌, ◌≤◌, ℕ, true, false, List, [], ◌∷◌, ◌++◌}
use Rattle.std.proofs.Common.{drop, map, Option, Some, None, refl, sym, ap, subst, arith, Contains, eqb-true}
use Rattle.std.specs.List.{list_any}
use Rattle.std.proofs.lemmas.Bool.Decides.{nat_tests}
use Rattle.ls_events.specs.declared.event.Event.{Event as RunEvent}
use Rattle.ls_checked.specs.CheckedProgram.{Program}
use Rattle.ls_report.specs.Events.{Event}
use Rattle.ls_linearizable.specs.Once.{AreOnce}
use Rattle.ls_linearizable.proofs.There.{any_there, there_any, there_cases, there_not, there_later}
use Rattle.ls_orders.specs.declared.calls.SetCall.{SetCall}
use Rattle.ls_orders.specs.SetCalls.{Asked, asked_of, call_named, calls_from, end_of, first_foreign, name_at}
use Rattle.ls_orders.specs.SetCalls.{set_calls, with_asked}
use Rattle.ls_orders.specs.Rules.{ended_before, is_returned, is_same}
use Rattle.ls_orders.specs.Legal.{IsRun, empty}
use Rattle.ls_order_search.specs.Answers.{HasOrder}
use Rattle.ls_legal_laws.specs.Laws.{AreNamed, HasOwnNames}
use Rattle.ls_legal_laws.proofs.Calls.{Found, HasEnd, IsCallOf, Open, has_end, set_call_at}
use Rattle.ls_legal_laws.proofs.Lists.{any_false, there_split}
use Rattle.ls_legal_laws.proofs.Ends.{came_before, not_pending}
use Rattle.ls_legal_laws.proofs.Only.{named_only}

-- ---- places rise

abbrev From : ℕ → List SetCall → Type 0
From at cs = (c : SetCall) → Contains cs c → at ≤ c.called

calls_after : (at : ℕ) (es : List Event) → From at (calls_from at es)
calls_after at [] c there = absurd (there_not c there)
calls_after at (e ∷ es) c there = by_asked (asked_of e.occurrence) there (calls_after (at + 1) es c)
  where
    by_asked : (a : Option Asked) →
        Contains (with_asked a at (end_of e.thread e.call (at + 1) es) (calls_from (at + 1) es)) c →
        (Contains (calls_from (at + 1) es) c → at + 1 ≤ c.called) → at ≤ c.called
    by_asked None inside more = let le = more inside in omega (arith, le)
    by_asked (Some a) inside more = by_place (there_cases _ c (calls_from (at + 1) es) inside)
      where
        by_place : (record { called = at; operation = a.0; item = a.1; end = end_of e.thread e.call (at + 1) es } ≡ c) ⊎
            Contains (calls_from (at + 1) es) c → at ≤ c.called
        by_place (inl same) = let p : at ≡ c.called = ap (λ (z : SetCall). z.called) same in omega (arith, p)
        by_place (inr later) = let le = more later in omega (arith, le)

rise : (at : ℕ) (es : List Event) (front back : List SetCall) (c d : SetCall) → calls_from at es ≡ front ++ c ∷ back →
    Contains back d →
    c.called < d.called
rise at [] [] back c d is there = absurd cc
rise at [] (f ∷ front) back c d is there = absurd cc
rise at (e ∷ es) front back c d is there =
    by_asked (asked_of e.occurrence) front is (λ front is. rise (at + 1) es front back c d is there)
  where
    by_asked : (a : Option Asked) (front : List SetCall) →
        with_asked a at (end_of e.thread e.call (at + 1) es) (calls_from (at + 1) es) ≡ front ++ c ∷ back →
        ((front : List SetCall) → calls_from (at + 1) es ≡ front ++ c ∷ back → c.called < d.called) →
        c.called < d.called
    by_asked None front is more = more front is
    by_asked (Some a) (f ∷ front) is more = more front (cc)
    by_asked (Some a) [] is more =
        let tail : calls_from (at + 1) es ≡ back = cc in
        let first : record { called = at; operation = a.0; item = a.1; end = end_of e.thread e.call (at + 1) es } ≡ c =
        cc in
        let p : at ≡ c.called = ap (λ (z : SetCall). z.called) first in
        let le = calls_after (at + 1) es d (subst (λ l. Contains l d) (sym tail) there) in
        omega (arith, p, le)

module _ (p : Program) (own : HasOwnNames p) (h : List RunEvent) (H : List Event) (hn : AreNamed p h H)
    (oh : AreOnce h) where
  -- no call ends before one that was called earlier
  late : (x : SetCall) (n : ℕ) → IsCallOf H x → n < x.called → ended_before x.end n ≡ true → ⊥
  late x n r lt early = by_end (has_end r.event.thread r.event.call (x.called + 1) (drop (x.called + 1) H))
    where
      by_end : HasEnd r.event.thread r.event.call (x.called + 1) (drop (x.called + 1) H)
          (end_of r.event.thread r.event.call (x.called + 1) (drop (x.called + 1) H)) → ⊥
      by_end (Open none is) = not_pending n (ap (λ z. ended_before z n) (sym (r.end ∙ is)) ∙ early)
      by_end (Found k y there of is) =
          let lt' = came_before (x.called + 1 + k) n y.occurrence
          (ap (λ z. ended_before z n) (sym (r.end ∙ is)) ∙ early) in
          omega (arith, lt, lt')

  in_time : (front middle back : List SetCall) (x y : SetCall) → set_calls H ≡ front ++ y ∷ (middle ++ x ∷ back) →
      ended_before x.end y.called ≡ false
  in_time front middle back x y is =
      let inside = there_split middle back x in
      let lt = rise 0 H front (middle ++ x ∷ back) y x is inside in
      false_from_ne_true (ended_before x.end y.called) (late x y.called
      (set_call_at H x (subst (λ l. Contains l x) (sym is)
      (later front (y ∷ (middle ++ x ∷ back)) x (there_later y x (middle ++ x ∷ back) inside)))) lt)
    where
      later : (front back : List SetCall) (c : SetCall) → Contains back c → Contains (front ++ back) c
      later [] back c i = i
      later (f ∷ front) back c i = there_later f c (front ++ back) (later front back c i)

  once : (front back : List SetCall) (x : SetCall) → set_calls H ≡ front ++ x ∷ back → list_any (is_same x) back ≡ false
  once front back x is = any_false (is_same x) back (λ y there same.
      let lt = rise 0 H front back x y is there in
      let e = eqb-true y.called x.called same in
      absurd (omega (arith, lt, e)))

  complete : (front back : List SetCall) (c : SetCall) → set_calls H ≡ front ++ c ∷ back → is_returned c.end ≡ true →
      list_any (is_same c) (set_calls H) ≡ true
  complete front back c is returned =
      there_any (is_same c) (set_calls H) c (subst (λ l. Contains l c) (sym is) (there_split front back c))
      (grind (arith, nat_tests))

  all_named : (cs : List SetCall) → ((c : SetCall) → Contains cs c → Contains (set_calls H) c) →
      map (call_named H (set_calls H)) (map (λ c. name_at H c.called) cs) ≡ map (λ c. Some c) cs
  all_named [] within = refl
  all_named (c ∷ cs) within =
      ap (λ z. z ∷ map (call_named H (set_calls H)) (map (λ c. name_at H c.called) cs))
      (named_only p own h H hn oh c (within c (Rattle.ls_linearizable.proofs.There.there_first c cs)))
      ∙ ap (λ l. Some c ∷ l) (all_named cs (λ d there. within d (there_later c d cs there)))

  -- the order in which the calls are called is legal, if it is a run of a set
  pub ordered : first_foreign H ≡ None → IsRun empty (set_calls H) → HasOrder H
  ordered one run = (
    map (λ c. name_at H c.called) (set_calls H),
    record {
      one_set = one;
      calls = set_calls H;
      named = all_named (set_calls H) (λ c there. there);
      once = once;
      complete = complete;
      in_time = in_time;
      run = run;
    },
  )
