-- A serial history explains another: calls of a legal order of the one are calls of a legal order of the other.
use Rattle.std.proofs.lemmas.Bool.{false_from_ne_true}
use Rattle.std.proofs.Common.{◌≡◌, ◌⊎◌, inl, inr, ◌∙◌, ◌+◌, ◌<◌, ℕ, ℤ, Bool, true, false, List}
use Rattle.std.proofs.Common.{[]}
use Rattle.std.proofs.Common.{◌∷◌, ◌++◌, map, take, drop, Some, None, refl, sym, ap, ap₂, subst, arith}
use Rattle.std.proofs.Common.{Contains, eqb-true}
use Rattle.std.specs.Prelude.{slice_get}
use Rattle.std.specs.List.{list_any}
use Rattle.std.proofs.lemmas.Bool.{true≢false}
use Rattle.std.proofs.lemmas.Bool.Decides.{nat_tests}
use Rattle.ls_events.specs.declared.event.Event.{Event as RunEvent}
use Rattle.ls_checked.specs.CheckedProgram.{Program}
use Rattle.ls_report.specs.Events.{Event, Text}
use Rattle.ls_report.specs.Printing.{named}
use Rattle.ls_serial.specs.Serial.{Explains, IsCall, IsEnd, IsSerial}
use Rattle.ls_serial.proofs.Lists.{contains_get, get_contains, get_take, take_get, drop_get, some_is}
use Rattle.ls_linearizable.specs.Once.{AreOnce}
use Rattle.ls_linearizable.proofs.There.{any_there, there_any, there_cases, there_first, there_later, there_not}
use Rattle.ls_orders.specs.declared.calls.SetCall.{SetCall}
use Rattle.ls_orders.specs.declared.calls.Operation.{Operation}
use Rattle.ls_orders.specs.declared.calls.End.TheVariants as ends
use Rattle.ls_orders.specs.SetCalls.{call_named, end_at, end_of, first_foreign, name_at, set_calls}
use Rattle.ls_orders.specs.Rules.{answer_of, differs, ended_before, is_returned, is_same, present_after}
use Rattle.std.specs.Ordering.{int_eq}
use Rattle.std.specs.Prelude.{if◌then◌else◌}
use Rattle.ls_orders.specs.Legal.{IsLegal, IsRun, Set, after, empty}
use Rattle.ls_legal_laws.specs.Laws.{AreNamed, HasOwnNames}
use Rattle.ls_legal_laws.proofs.Calls.{Found, HasEnd, IsCallOf, IsOf, Open, at_set_call, has_end, set_call, set_call_at}
use Rattle.ls_legal_laws.proofs.Naming.{IsBefore, asks_called, before, call_or_end, is_name, named_run, named_there}
use Rattle.ls_legal_laws.proofs.Naming.{run_named}
use Rattle.ls_legal_laws.proofs.Naming.{same_called}
use Rattle.ls_legal_laws.proofs.Naming.{same_of}
use Rattle.ls_legal_laws.proofs.Only.{Begins, begins, named_only}
use Rattle.ls_legal_laws.proofs.Lists.{found_there, split_there, there_split, drop_is, any_false}
use Rattle.ls_legal_laws.proofs.Ends.{both_differ, both_return, came_before, EndsIt, comes_before, not_pending}
use Rattle.ls_legal_laws.proofs.Ends.{pending_not, ends_it, end_here}

module _ (p : Program) (own : HasOwnNames p) (g h : List RunEvent) (G H : List Event) (gn : AreNamed p g G)
    (hn : AreNamed p h H)
    (og : AreOnce g) (oh : AreOnce h) (serial : IsSerial g) (x : Explains g h) where
  pub record BothEnd (c d : SetCall) : Type 0 where
    end : RunEvent
    name : Event
    is : named p end ≡ Some name
    ends : IsEnd end
    place : ℕ
    in_h : slice_get h place ≡ Some end
    in_g : slice_get g (c.called + 1) ≡ Some end
    d_is : d.end ≡ end_at place name.occurrence
    c_is : c.end ≡ end_at (c.called + 1) name.occurrence

  -- the same call in both
  pub record Twin (c d : SetCall) : Type 0 where
    event : RunEvent
    name : Event
    is : named p event ≡ Some name
    first : slice_get g c.called ≡ Some event
    second : slice_get h d.called ≡ Some event
    operation : d.operation ≡ c.operation
    item : d.item ≡ c.item
    end : (d.end ≡ ends.Pending) ⊎ BothEnd c d
    call : IsCallOf H d
    there : Contains (set_calls H) d

  -- an end of a call that stands in g comes right behind it
  right_behind : (e f : RunEvent) (i b : ℕ) → slice_get g i ≡ Some e → IsCall e → slice_get g b ≡ Some f → IsEnd f →
      f.thread ≡ e.thread → f.call ≡ e.call → b ≡ i + 1
  right_behind e f i b at call there end t n =
      let r = before g b f serial there end in
      let same : r.call ≡ e = same_called r.call e r.is_call call (sym r.ends.thread ∙ t) (sym r.ends.call ∙ n) in
      let place : r.place ≡ i = og e r.place i (r.there ∙ ap Some same) at in
      omega (arith, r.next, place)

  module _ (c : SetCall) (inside : Contains (set_calls G) c) where
    r : IsCallOf G c
    r = set_call_at G c inside

    o : (e : RunEvent) × (slice_get g c.called ≡ Some e) × (named p e ≡ Some r.event)
    o = named_run p g G c.called r.event gn r.there

    is_call : IsCall o.0
    is_call = asks_called p o.0 r.event (c.operation, c.item) o.2 r.asked

    j : (k : ℕ) × (slice_get h k ≡ Some o.0)
    j = contains_get h o.0 (x.called o.0 (get_contains g c.called o.0 o.1) is_call)

    in_H : slice_get H j.0 ≡ Some r.event
    in_H = named_there p h H j.0 o.0 r.event hn j.1 o.2

    abbrev d : SetCall
    d = set_call H j.0 r.event (c.operation, c.item)

    -- a later event of the call in h
    later_end : (k : ℕ) (y : Event) → slice_get (drop (j.0 + 1) H) k ≡ Some y → IsOf r.event.thread r.event.call y →
        (other : SetCall) → other.end ≡ end_at (j.0 + 1 + k) y.occurrence → BothEnd c other
    later_end k y there of other is = by_kind (call_or_end f.0)
      where
        f : (e : RunEvent) × (slice_get h (j.0 + 1 + k) ≡ Some e) × (named p e ≡ Some y)
        f = named_run p h H (j.0 + 1 + k) y hn (drop_get (j.0 + 1) H k y there)

        same : (f.0.thread ≡ o.0.thread) × (f.0.call ≡ o.0.call)
        same = same_of p own o.0 f.0 r.event y o.2 f.2 of

        again : IsCall f.0 → ⊥
        again call =
            let e = same_called f.0 o.0 call is_call same.0 same.1 in
            let n = oh o.0 (j.0 + 1 + k) j.0 (f.1 ∙ ap Some e) j.1 in
            omega (arith, n)

        by_kind : IsCall f.0 ⊎ IsEnd f.0 → BothEnd c other
        by_kind (inl call) = absurd (again call)
        by_kind (inr end) =
            let b = contains_get g f.0 (x.ended f.0 (get_contains h (j.0 + 1 + k) f.0 f.1) end) in
            let place : b.0 ≡ c.called + 1 = right_behind o.0 f.0 c.called b.0 o.1 is_call b.1 end same.0 same.1 in
            let in_g : slice_get g (c.called + 1) ≡ Some f.0 = ap (slice_get g) (sym place) ∙ b.1 in
            let in_G : slice_get G (c.called + 1) ≡ Some y = named_there p g G (c.called + 1) f.0 y gn in_g f.2 in
            let rest = drop_is G (c.called + 1) y in_G in
            record {
              end = f.0;
              name = y;
              is = f.2;
              ends = end;
              place = j.0 + 1 + k;
              in_h = f.1;
              in_g = in_g;
              d_is = is;
              c_is = r.end
                  ∙ end_here r.event.thread r.event.call (c.called + 1) (drop (c.called + 1) G) rest.0 y rest.1 of;
            }

    ends_so : (other : SetCall) → HasEnd r.event.thread r.event.call (j.0 + 1) (drop (j.0 + 1) H) other.end →
        (other.end ≡ ends.Pending) ⊎ BothEnd c other
    ends_so other (Open none is) = inl is
    ends_so other (Found k y there of is) = inr (later_end k y there of other is)

    twin : (d : SetCall) × Twin c d
    twin = (
      d,
      record {
        event = o.0;
        name = r.event;
        is = o.2;
        first = o.1;
        second = j.1;
        operation = refl;
        item = refl;
        end = ends_so d (has_end r.event.thread r.event.call (j.0 + 1) (drop (j.0 + 1) H));
        call = set_call_at H d (at_set_call H j.0 r.event (c.operation, c.item) in_H r.asked);
        there = at_set_call H j.0 r.event (c.operation, c.item) in_H r.asked;
      },
    )

  -- its event is a call, and its end is none
  twin_called : (c d : SetCall) (t : Twin c d) → IsCall t.event
  twin_called c d t =
      let y = run_named p h H d.called t.event hn t.second in
      let same : y.0 ≡ t.call.event = some_is (sym y.1 ∙ t.call.there) in
      asks_called p t.event t.call.event (d.operation, d.item) (y.2 ∙ ap Some same) t.call.asked

  name_ends : (e : RunEvent) (y : Event) → named p e ≡ Some y → IsEnd e → EndsIt y.occurrence
  name_ends e y is end = let n = is_name p e y is in
      subst (λ (z : Event). EndsIt z.occurrence) (sym n.is) (ends_it p n.call e.happening end)

  abbrev pub Twins : List SetCall → List SetCall → Type 0
  Twins [] [] = Unit {0}
  Twins (c ∷ cs) (d ∷ ds) = Twin c d × Twins cs ds
  Twins [] (d ∷ ds) = ⊥
  Twins (c ∷ cs) [] = ⊥

  twins_of : (order : List Text) (cs : List SetCall) →
      map (call_named G (set_calls G)) order ≡ map (λ c. Some c) cs → (ds : List SetCall) × Twins cs ds
  twins_of [] [] is = ([], tt)
  twins_of [] (c ∷ cs) is = absurd cc
  twins_of (n ∷ order) [] is = absurd cc
  twins_of (n ∷ order) (c ∷ cs) is =
      let first : call_named G (set_calls G) n ≡ Some c = cc in
      let t = twin c (found_there _ (set_calls G) c first) in
      let rest = twins_of order cs (cc) in
      (t.0 ∷ rest.0, (t.1, rest.1))

  record Split (cs front : List SetCall) (d : SetCall) (back : List SetCall) : Type 0 where
    before : List SetCall
    call : SetCall
    behind : List SetCall
    is : cs ≡ before ++ call ∷ behind
    twin : Twin call d
    backs : Twins behind back

  split_twins : (cs front : List SetCall) (d : SetCall) (back : List SetCall) → Twins cs (front ++ d ∷ back) →
      Split cs front d back
  split_twins [] [] d back t = absurd t
  split_twins (c ∷ cs) [] d back t = record { before = []; call = c; behind = cs; is = refl; twin = t.0; backs = t.1 }
  split_twins [] (f ∷ front) d back t = absurd t
  split_twins (c ∷ cs) (f ∷ front) d back t = let s = split_twins cs front d back t.1 in record {
    before = c ∷ s.before;
    call = s.call;
    behind = s.behind;
    is = ap (λ l. c ∷ l) s.is;
    twin = s.twin;
    backs = s.backs;
  }

  twin_there : (cs ds : List SetCall) → Twins cs ds → (c : SetCall) → Contains cs c → (d : SetCall) × Contains ds d
      × Twin c d
  twin_there [] ds t c inside = absurd (there_not c inside)
  twin_there (a ∷ cs) [] t c inside = absurd t
  twin_there (a ∷ cs) (b ∷ ds) t c inside = by_place (there_cases a c cs inside) (twin_there cs ds t.1 c)
    where
      by_place : (a ≡ c) ⊎ Contains cs c → (Contains cs c → (d : SetCall) × Contains ds d × Twin c d) →
          (d : SetCall) × Contains (b ∷ ds) d × Twin c d
      by_place (inl same) more = (b, there_first b ds, subst (λ z. Twin z b) same t.0)
      by_place (inr inside) more = let r = more inside in (r.0, there_later b r.0 ds r.1, r.2)

  there_twin : (cs ds : List SetCall) → Twins cs ds → (d : SetCall) → Contains ds d → (c : SetCall) × Contains cs c
      × Twin c d
  there_twin cs [] t d inside = absurd (there_not d inside)
  there_twin [] (b ∷ ds) t d inside = absurd t
  there_twin (a ∷ cs) (b ∷ ds) t d inside = by_place (there_cases b d ds inside) (there_twin cs ds t.1 d)
    where
      by_place : (b ≡ d) ⊎ Contains ds d → (Contains ds d → (c : SetCall) × Contains cs c × Twin c d) →
          (c : SetCall) × Contains (a ∷ cs) c × Twin c d
      by_place (inl same) more = (a, there_first a cs, subst (Twin a) same t.0)
      by_place (inr inside) more = let r = more inside in (r.0, there_later a r.0 cs r.1, r.2)

  all_named : (cs ds : List SetCall) → Twins cs ds →
      map (call_named H (set_calls H)) (map (λ d. name_at H d.called) ds) ≡ map (λ d. Some d) ds
  all_named cs [] t = refl
  all_named [] (d ∷ ds) t = absurd t
  all_named (c ∷ cs) (d ∷ ds) t =
      ap (λ z. z ∷ map (call_named H (set_calls H)) (map (λ d. name_at H d.called) ds))
      (named_only p own h H hn oh d t.0.there)
      ∙ ap (λ l. Some d ∷ l) (all_named cs ds t.1)

  -- ---- a run of a set

  differs_not : (c d : SetCall) → Twin c d → (w : Bool) → differs c.end w ≡ false → differs d.end w ≡ false
  differs_not c d t w e = by_end t.end
    where
      by_end : (d.end ≡ ends.Pending) ⊎ BothEnd c d → differs d.end w ≡ false
      by_end (inl pends) = ap (λ z. differs z w) pends
      by_end (inr b) = ap (λ z. differs z w) b.d_is
          ∙ both_differ b.place (c.called + 1) b.name.occurrence w
          ∙ ap (λ z. differs z w) (sym b.c_is)
          ∙ e

  abbrev after_op : Set → Operation → ℤ → Set
  after_op set o i = λ item. if int_eq i item then present_after o (set item) else set item

  same_after : (set : Set) (c d : SetCall) → Twin c d → after set c ≡ after set d
  same_after set c d t = ap₂ (after_op set) (sym t.operation) (sym t.item)

  run_of : (set : Set) (cs ds : List SetCall) → Twins cs ds → IsRun set cs → IsRun set ds
  run_of set cs [] t run = tt
  run_of set [] (d ∷ ds) t run = absurd t
  run_of set (c ∷ cs) (d ∷ ds) t run = (
    differs_not c d t.0 (answer_of d.operation (set d.item))
        (ap (differs c.end) (ap₂ (λ o i. answer_of o (set i)) t.0.operation t.0.item) ∙ run.0),
    run_of (after set d) cs ds t.1 (subst (λ z. IsRun z cs) (same_after set c d t.0) run.1),
  )

  -- ---- the order

  module _ (order : List Text) (l : IsLegal G order) where
    pub w : (ds : List SetCall) × Twins l.calls ds
    w = twins_of order l.calls l.named

    -- twins of the same call are the same
    only_twin : (c d e : SetCall) → Twin c d → Twin c e → e.called ≡ d.called
    only_twin c d e a b =
        let same : b.event ≡ a.event = some_is (sym b.first ∙ a.first) in
        oh a.event e.called d.called (b.second ∙ ap Some same) a.second

    twin_only : (c b d e : SetCall) → Twin c d → Twin b e → e.called ≡ d.called → b.called ≡ c.called
    twin_only c b d e s t is =
        let same : t.event ≡ s.event = some_is (sym t.second ∙ ap (slice_get h) is ∙ s.second) in
        og s.event b.called c.called (t.first ∙ ap Some same) s.first

    once : (front back : List SetCall) (d : SetCall) → w.0 ≡ front ++ d ∷ back → list_any (is_same d) back ≡ false
    once front back d is = any_false (is_same d) back again
      where
        s : Split l.calls front d back
        s = split_twins l.calls front d back (subst (Twins l.calls) is w.1)

        again : (e : SetCall) → Contains back e → is_same d e ≡ true → ⊥
        again e inside same =
            let b = there_twin s.behind back s.backs e inside in
            let place = twin_only s.call b.0 d e s.twin b.2 (eqb-true e.called d.called same) in
            true≢false (sym (there_any (is_same s.call) s.behind b.0 b.1 (grind (arith, place, nat_tests)))
            ∙ l.once s.before s.behind s.call s.is)

    module _ (d : SetCall) (r : IsCallOf H d) (returned : is_returned d.end ≡ true) where
      abbrev b : Begins p own h H hn oh d
      b = begins p own h H hn oh d r

      module _ (k : ℕ) (y : Event) (there : slice_get (drop (d.called + 1) H) k ≡ Some y)
          (of : IsOf r.event.thread r.event.call y)
          (end : end_of r.event.thread r.event.call (d.called + 1) (drop (d.called + 1) H) ≡ end_at
          (d.called + 1 + k) y.occurrence) where
        f : (e : RunEvent) × (slice_get h (d.called + 1 + k) ≡ Some e) × (named p e ≡ Some y)
        f = named_run p h H (d.called + 1 + k) y hn (drop_get (d.called + 1) H k y there)

        same : (f.0.thread ≡ b.event.thread) × (f.0.call ≡ b.event.call)
        same = same_of p own b.event f.0 r.event y b.is f.2 of

        again : IsCall f.0 → ⊥
        again call =
            let e = same_called f.0 b.event call b.call same.0 same.1 in
            let n = oh b.event (d.called + 1 + k) d.called (f.1 ∙ ap Some e) b.in_h in
            omega (arith, n)

        module _ (ends : IsEnd f.0) where
          at : (n : ℕ) × (slice_get g n ≡ Some f.0)
          at = contains_get g f.0 (x.ended f.0 (get_contains h (d.called + 1 + k) f.0 f.1) ends)

          q : IsBefore g at.0 f.0
          q = before g at.0 f.0 serial at.1 ends

          is_event : q.call ≡ b.event
          is_event = same_called q.call b.event q.is_call b.call (sym q.ends.thread ∙ same.0) (sym q.ends.call ∙ same.1)

          in_g : slice_get g q.place ≡ Some b.event
          in_g = q.there ∙ ap Some is_event

          in_G : slice_get G q.place ≡ Some r.event
          in_G = named_there p g G q.place b.event r.event gn in_g b.is

          abbrev c : SetCall
          c = set_call G q.place r.event (d.operation, d.item)

          c_there : Contains (set_calls G) c
          c_there = at_set_call G q.place r.event (d.operation, d.item) in_G r.asked

          in_G_end : slice_get G (q.place + 1) ≡ Some y
          in_G_end =
              let next : at.0 ≡ q.place + 1 = omega (arith, q.next) in
              named_there p g G (q.place + 1) f.0 y gn (ap (slice_get g) (sym next) ∙ at.1) f.2

          rest : (rest : List Event) × (drop (q.place + 1) G ≡ y ∷ rest)
          rest = drop_is G (q.place + 1) y in_G_end

          c_end : c.end ≡ end_at (q.place + 1) y.occurrence
          c_end = end_here r.event.thread r.event.call (q.place + 1) (drop (q.place + 1) G) rest.0 y rest.1 of

          c_returned : is_returned c.end ≡ true
          c_returned = ap is_returned c_end
              ∙ both_return (q.place + 1) (d.called + 1 + k) y.occurrence
              ∙ ap is_returned (sym (r.end ∙ end))
              ∙ returned

          split : (front : List SetCall) × (back : List SetCall) × (set_calls G ≡ front ++ c ∷ back)
          split = split_there (set_calls G) c c_there

          found : (a : SetCall) × Contains l.calls a × (is_same c a ≡ true)
          found = any_there (is_same c) l.calls (l.complete split.0 split.1 c split.2 c_returned)

          t : (e : SetCall) × Contains w.0 e × Twin found.0 e
          t = twin_there l.calls w.0 w.1 found.0 found.1

          place : t.0.called ≡ d.called
          place =
              let same_call : found.0.called ≡ q.place = eqb-true found.0.called q.place found.2 in
              let is : t.2.event ≡ b.event = some_is (sym t.2.first ∙ ap (slice_get g) same_call ∙ in_g) in
              oh b.event t.0.called d.called (t.2.second ∙ ap Some is) b.in_h

        by_kind : IsCall f.0 ⊎ IsEnd f.0 → list_any (is_same d) w.0 ≡ true
        by_kind (inl call) = absurd (again call)
        by_kind (inr ends) = there_any (is_same d) w.0 (t ends).0 (t ends).1
            (let is = place ends in grind (arith, is, nat_tests))

      by_ending : HasEnd r.event.thread r.event.call (d.called + 1) (drop (d.called + 1) H)
          (end_of r.event.thread r.event.call (d.called + 1) (drop (d.called + 1) H)) → list_any (is_same d) w.0 ≡ true
      by_ending (Open none pends) = absurd (pending_not (ap is_returned (sym (r.end ∙ pends)) ∙ returned))
      by_ending (Found k y there of end) = by_kind k y there of end (call_or_end (f k y there of end).0)

    complete : (front back : List SetCall) (d : SetCall) → set_calls H ≡ front ++ d ∷ back → is_returned d.end ≡ true →
        list_any (is_same d) w.0 ≡ true
    complete front back d is returned =
        let r = set_call_at H d (subst (λ l. Contains l d) (sym is) (there_split front back d)) in
        by_ending d r returned (has_end r.event.thread r.event.call (d.called + 1) (drop (d.called + 1) H))

    split_two : (cs front middle back : List SetCall) (y e : SetCall) → Twins cs (front ++ y ∷ (middle ++ e ∷ back)) →
        (first : List SetCall) × (second : List SetCall) × (third : List SetCall) × (a : SetCall) × (b : SetCall)
        × (cs ≡ first ++ a ∷ (second ++ b ∷ third)) × Twin a y × Twin b e
    split_two cs front middle back y e t =
        let s = split_twins cs front y (middle ++ e ∷ back) t in
        let u = split_twins s.behind middle e back s.backs in
        (s.before, u.before, u.behind, s.call, u.call, s.is ∙ ap (λ l. s.before ++ s.call ∷ l) u.is, s.twin, u.twin)

    in_time : (front middle back : List SetCall) (e y : SetCall) → w.0 ≡ front ++ y ∷ (middle ++ e ∷ back) →
        ended_before e.end y.called ≡ false
    in_time front middle back e y is = false_from_ne_true (ended_before e.end y.called) (λ early. by_end early b.end)
      where
        s : (first : List SetCall) × (second : List SetCall) × (third : List SetCall) × (a : SetCall) × (b : SetCall)
            × (l.calls ≡ first ++ a ∷ (second ++ b ∷ third)) × Twin a y × Twin b e
        s = split_two l.calls front middle back y e (subst (Twins l.calls) is w.1)

        a : Twin s.3 y
        a = s.6

        b : Twin s.4 e
        b = s.7

        by_end : ended_before e.end y.called ≡ true → (e.end ≡ ends.Pending) ⊎ BothEnd s.4 e → ⊥
        by_end early (inl pends) = not_pending y.called (ap (λ z. ended_before z y.called) (sym pends) ∙ early)
        by_end early (inr v) =
            let lt : v.place < y.called = came_before v.place y.called v.name.occurrence
            (ap (λ z. ended_before z y.called) (sym v.d_is) ∙ early) in
            let inside : Contains (take y.called h) v.end =
            get_contains (take y.called h) v.place v.end (get_take y.called h v.place v.end lt v.in_h) in
            let sooner : Contains (take s.3.called g) v.end =
            x.order a.event y.called s.3.called (twin_called s.3 y a) a.second a.first v.end inside v.ends in
            let at = contains_get (take s.3.called g) v.end sooner in
            let z = take_get s.3.called g at.0 v.end at.1 in
            let place : at.0 ≡ s.4.called + 1 = og v.end at.0 (s.4.called + 1) z.1 v.in_g in
            true≢false (sym (ap (λ q. ended_before q s.3.called) v.c_is
            ∙ comes_before (s.4.called + 1) s.3.called v.name.occurrence (name_ends v.end v.name v.is v.ends)
            (omega (arith, z.0, place)))
            ∙ l.in_time s.0 s.1 s.2 s.4 s.3 s.5)

    -- the order of the twins is legal
    pub legal : first_foreign H ≡ None → IsLegal H (map (λ d. name_at H d.called) w.0)
    legal one = record {
      one_set = one;
      calls = w.0;
      named = all_named l.calls w.0 w.1;
      once = once;
      complete = complete;
      in_time = in_time;
      run = run_of empty l.calls w.0 w.1 l.run;
    }
