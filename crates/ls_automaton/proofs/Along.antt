-- Along a history that a serial run explains, a pair is held.
use Rattle.std.proofs.Common.{◌≡◌, ◌⊎◌, inl, inr, ℕ, suc, ◌+◌, ◌<◌, ◌≤◌, List, [], ◌∷◌, ◌++◌, Some, Contains}
use Rattle.std.proofs.Common.{length}
use Rattle.std.proofs.Common.{slice_get, take, refl, sym, ap, ◌∙◌, subst, arith}
use Rattle.std.proofs.lemmas.Bool.{cases_lt}
use Rattle.ls_events.specs.declared.event.Event.{Event}
use Rattle.ls_serial.specs.Serial.{AreCalled, AreEnded, Explains, IsCall, IsEnd, IsEndOf, IsSerial}
use Rattle.ls_serial.proofs.Lists.{get_contains, contains_get, get_take, take_get, some_is}
use Rattle.ls_serial.proofs.Steps.{not_both}
use Rattle.ls_linearizable.specs.Once.{AreOnce}
use Rattle.ls_linearizable.proofs.There.{there_cases, there_first, there_later, there_not}
use Rattle.ls_automaton.specs.Automaton.{Idle, Open, Took, Pair, with_status, Serially, Takes, Done, Take}
use Rattle.ls_automaton.specs.Automaton.{IsPending, status_of}
use Rattle.ls_automaton.proofs.Lists.{append_assoc, get_of_second, in_both, in_first, in_second, take_all}
use Rattle.ls_automaton.proofs.Lists.{take_first, take_more}
use Rattle.ls_automaton.proofs.Holding.{serially_more}
use Rattle.ls_automaton.proofs.Runs.{apart, call_of, end_of, not_before_call, one_end, same_call, pending_call}
use Rattle.ls_automaton.proofs.Runs.{serially_serial, with_cases, with_other, with_same}

module _ {S : Type 0} (Leads : S → Event → Event → S → Type 0) (first : S) (h run : List Event) (last : S)
    (whole : Serially Leads first run last) (once_run : AreOnce run) (explains : Explains run h)
    (once : AreOnce h) where
  -- the end of the pending call with these numbers, which has taken effect
  pub record IsTaken (before front : List Event) (t n : ℕ) (e : Event) : Type 0 where
    pub there : Contains front e
    pub end : IsEnd e
    pub new : Contains before e → ⊥
    pub thread : e.thread ≡ t
    pub call : e.call ≡ n

  -- a pair of a beginning of the run, whose calls have taken effect
  pub record IsAlong (before : List Event) (p : Pair S) : Type 0 where
    pub front : List Event
    pub back : List Event
    pub is : front ++ back ≡ run
    pub done : Serially Leads first front p.state
    pub rest : Serially Leads p.state back last
    pub ended : AreEnded before front
    pub called : AreCalled front before
    pub begun : (c : Event) → IsPending before c → (Contains front c → ⊥) → status_of p.calls c ≡ Open c
    pub took : (e : Event) → Contains front e → IsEnd e → (Contains before e → ⊥) → status_of p.calls e ≡ Took e
    pub sound : (t n : ℕ) (e : Event) → p.calls t n ≡ Took e → IsTaken before front t n e

  run_serial : IsSerial run
  run_serial = serially_serial Leads first last run whole

  ends_once : (c e f : Event) → IsCall c → Contains run e → Contains run f → IsEndOf c e → IsEndOf c f → e ≡ f
  ends_once c e f call = one_end run c e f run_serial once_run call

  module _ (before : List Event) (p : Pair S) (k : IsAlong before p) where
    pub front_run : (x : Event) → Contains k.front x → Contains run x
    front_run x there = subst (λ l. Contains l x) k.is (in_first k.front k.back x there)

    pub back_run : (x : Event) → Contains k.back x → Contains run x
    back_run x there = subst (λ l. Contains l x) k.is (in_second k.front k.back x there)

    pub not_in_both : (x : Event) → Contains k.front x → Contains k.back x → ⊥
    not_in_both x = apart k.front k.back x (subst AreOnce (sym k.is) once_run)

    -- the call of an end that has taken effect and hasn't come is pending
    pub waiting : (e : Event) → Contains k.front e → IsEnd e → (Contains before e → ⊥) →
        (c : Event) × IsPending before c × IsEndOf c e × Contains k.front c
    waiting e there end new =
        pending_call before k.front e (serially_serial Leads first p.state k.front k.done) k.called k.ended
        (λ c f call ends in_front ends'. ends_once c f e call (front_run f in_front) (front_run e there)
        ends' ends) there end new

  module _ (n : ℕ) where
    -- one more call of the run takes effect
    record Next (x : Event) (p : Pair S) (k : IsAlong (take n h) p) (c e : Event) (more : List Event) : Type 0 where
      pair : Pair S
      leads : (q : Pair S) → Takes Leads x pair q → Takes Leads x p q
      along : IsAlong (take n h) pair
      front : along.front ≡ k.front ++ c ∷ e ∷ []
      back : along.back ≡ more

    module _ (p : Pair S) (k : IsAlong (take n h) p) (c e : Event) (more : List Event) (parts : k.back ≡ c ∷ e ∷ more)
        (x : Event) (at : slice_get h n ≡ Some x) (end : IsEnd x) (later : Contains k.back x) where
      steps : Serially Leads p.state (c ∷ e ∷ more) last
      steps = subst (λ l. Serially Leads p.state l last) parts k.rest

      c_back : Contains k.back c
      c_back = subst (λ l. Contains l c) (sym parts) (there_first c (e ∷ more))

      e_back : Contains k.back e
      e_back = subst (λ l. Contains l e) (sym parts) (there_later c e (e ∷ more) (there_first e more))

      c_at : slice_get run (length k.front + 0) ≡ Some c
      c_at = ap (λ l. slice_get l (length k.front + 0)) (sym k.is ∙ ap (λ l. k.front ++ l) parts)
          ∙ get_of_second k.front (c ∷ e ∷ more) 0 c refl

      take_front : take (length k.front + 0) run ≡ k.front
      take_front = ap (take (length k.front + 0)) (sym k.is)
          ∙ take_first k.front k.back (length k.front + 0) (omega arith)
          ∙ ap (λ i. take i k.front) zero_less ∙ take_all k.front
        where
          zero_less : length k.front + 0 ≡ length k.front
          zero_less = omega arith

      -- its call was called before this place
      c_before : Contains (take n h) c
      c_before =
          let there = contains_get h c (explains.called c (back_run (take n h) p k c c_back) steps.0) in
          by_place there.0 there.1 (cases_lt there.0 n) (cases_lt n there.0)
        where
          by_place : (i : ℕ) → slice_get h i ≡ Some c → (i < n) ⊎ (n ≤ i) → (n < i) ⊎ (i ≤ n) → Contains (take n h) c
          by_place i got (inl lt) other = get_contains (take n h) i c (get_take n h i c lt got)
          by_place i got (inr le) (inl more') =
              let early : Contains (take i h) x = get_contains (take i h) n x (get_take i h n x more' at) in
              let sooner = explains.order c i (length k.front + 0) steps.0 got c_at x early end in
              absurd (not_in_both (take n h) p k x (subst (λ l. Contains l x) take_front sooner) later)
          by_place i got (inr le) (inr ge) =
              let same : i ≡ n = omega (arith, le, ge) in
              let is : c ≡ x = some_is (sym got ∙ ap (slice_get h) same ∙ at) in
              absurd (not_both x (subst IsCall is steps.0) end)

      c_pending : IsPending (take n h) c
      c_pending = record {
        there = c_before;
        is_call = steps.0;
        pending = λ f there ends.
            let in_front = k.ended f there ends.ends in
            let is : f ≡ e =
            ends_once c f e steps.0 (front_run (take n h) p k f in_front) (back_run (take n h) p k e e_back)
            ends steps.1 in
            not_in_both (take n h) p k e (subst (Contains k.front) is in_front) e_back;
      }

      c_new : Contains k.front c → ⊥
      c_new there = not_in_both (take n h) p k c there c_back

      -- the call with this end hasn't taken effect
      not_yet : (f : Event) → status_of p.calls x ≡ Took f → ⊥
      not_yet f took =
          let w = call_of run x run_serial (back_run (take n h) p k x later) end in
          open_not w.call f (sym
          (k.begun w.call (x_pending w.call w.there w.is_call w.ends) (new w.call w.ends w.is_call))
          ∙ ap (λ i. p.calls i w.call.call) (sym w.ends.thread) ∙ ap (p.calls x.thread) (sym w.ends.call) ∙ took)
        where
          open_not : (c : Event) (f : Event) → Open c ≡ Took f → ⊥
          open_not c f same = cc

          new : (c : Event) → IsEndOf c x → IsCall c → Contains k.front c → ⊥
          new c ends call in_front =
              let z = end_of k.front c (serially_serial Leads first p.state k.front k.done) in_front call in
              let is : z.end ≡ x = ends_once c z.end x call (front_run (take n h) p k z.end z.there)
              (back_run (take n h) p k x later) z.ends ends in
              not_in_both (take n h) p k x (subst (Contains k.front) is z.there) later

          -- its call was called before
          x_before : (c : Event) → IsCall c → IsEndOf c x → (j : ℕ) → slice_get run j ≡ Some c → (i : ℕ) →
              slice_get h i ≡ Some c →
              (i < n) ⊎ (n ≤ i) → (n < i) ⊎ (i ≤ n) → Contains (take n h) c
          x_before c call ends j in_run i got (inl lt) other = get_contains (take n h) i c (get_take n h i c lt got)
          x_before c call ends j in_run i got (inr le) (inl more') =
              let early : Contains (take i h) x = get_contains (take i h) n x (get_take i h n x more' at) in
              absurd (not_before_call run c x j run_serial once_run call ends
              in_run (explains.order c i j call got in_run x early end))
          x_before c call ends j in_run i got (inr le) (inr ge) =
              let same : i ≡ n = omega (arith, le, ge) in
              absurd (not_both c call (subst IsEnd (some_is (sym at ∙ ap (slice_get h) (sym same) ∙ got)) end))

          x_pending : (c : Event) → Contains run c → IsCall c → IsEndOf c x → IsPending (take n h) c
          x_pending c there call ends = record {
            there = let a = contains_get run c there in let b = contains_get h c (explains.called c there call) in
                x_before c call ends a.0 a.1 b.0 b.1 (cases_lt b.0 n) (cases_lt n b.0);
            is_call = call;
            pending = λ f in_h ends'.
                let is : f ≡ x = ends_once c f x call (front_run (take n h) p k f (k.ended f in_h ends'.ends))
                (back_run (take n h) p k x later) ends' ends in
                not_in_both (take n h) p k x (subst (Contains k.front) is (k.ended f in_h ends'.ends)) later;
          }

      abbrev pair_after : Pair S
      pair_after = record { state = steps.2; calls = with_status p.calls c (Took e) }

      abbrev front_after : List Event
      front_after = k.front ++ c ∷ e ∷ []

      begun_after : (d : Event) → IsPending (take n h) d → (Contains front_after d → ⊥) →
          status_of (with_status p.calls c (Took e)) d ≡ Open d
      begun_after d pending new =
          with_other p.calls c (Took e) d other
          ∙ k.begun d pending (λ there. new (in_first k.front (c ∷ e ∷ []) d there))
        where
          other : d.thread ≡ c.thread → d.call ≡ c.call → ⊥
          other t m =
              let is : d ≡ c = same_call d c pending.is_call steps.0 t m in
              new (in_second k.front (c ∷ e ∷ []) d (subst (Contains (c ∷ e ∷ [])) (sym is) (there_first c (e ∷ []))))

      took_after : (f : Event) → Contains front_after f → IsEnd f → (Contains (take n h) f → ⊥) →
          status_of (with_status p.calls c (Took e)) f ≡ Took f
      took_after f there ends new = by_part (in_both k.front (c ∷ e ∷ []) f there)
        where
          old : Contains k.front f → status_of (with_status p.calls c (Took e)) f ≡ Took f
          old in_front =
              let w = waiting (take n h) p k f in_front ends new in
              with_other p.calls c (Took e) f (λ t m.
              let is : w.0 ≡ c = same_call w.0 c w.1.is_call steps.0 (sym w.2.thread ∙ t) (sym w.2.call ∙ m) in
              c_new (subst (Contains k.front) is w.3))
              ∙ k.took f in_front ends new

          by_second : (e ≡ f) ⊎ Contains [] f → status_of (with_status p.calls c (Took e)) f ≡ Took f
          by_second (inl is) = with_same p.calls c f (Took e) (ap (λ (z : Event). z.thread) (sym is) ∙ steps.1.thread)
              (ap (λ (z : Event). z.call) (sym is) ∙ steps.1.call) ∙ ap Took is
          by_second (inr none) = absurd (there_not f none)

          by_first : (c ≡ f) ⊎ Contains (e ∷ []) f → status_of (with_status p.calls c (Took e)) f ≡ Took f
          by_first (inl is) = absurd (not_both f (subst IsCall is steps.0) ends)
          by_first (inr later') = by_second (there_cases e f [] later')

          by_part : Contains k.front f ⊎ Contains (c ∷ e ∷ []) f →
              status_of (with_status p.calls c (Took e)) f ≡ Took f
          by_part (inl one) = old one
          by_part (inr two) = by_first (there_cases c f (e ∷ []) two)

      sound_after : (t m : ℕ) (f : Event) → with_status p.calls c (Took e) t m ≡ Took f →
          IsTaken (take n h) front_after t m f
      sound_after t m f is = by_key (with_cases p.calls c (Took e) t m (Took f) is)
        where
          same_end : {a b : Event} → Took a ≡ Took b → a ≡ b
          same_end q = cc

          by_key : ((t ≡ c.thread) × (m ≡ c.call) × (Took e ≡ Took f)) ⊎
              ((t ≡ c.thread → m ≡ c.call → ⊥) × (p.calls t m ≡ Took f)) →
              IsTaken (take n h) front_after t m f
          by_key (inl new) = subst (IsTaken (take n h) front_after t m) (same_end new.2) (record {
            there = in_second k.front (c ∷ e ∷ []) e (there_later c e (e ∷ []) (there_first e []));
            end = steps.1.ends;
            new = λ there. not_in_both (take n h) p k e (k.ended e there steps.1.ends) e_back;
            thread = steps.1.thread ∙ sym new.0;
            call = steps.1.call ∙ sym new.1;
          })
          by_key (inr old) = let r = k.sound t m f old.1 in record {
            there = in_first k.front (c ∷ e ∷ []) f r.there;
            end = r.end;
            new = r.new;
            thread = r.thread;
            call = r.call;
          }

      called_after : AreCalled front_after (take n h)
      called_after d there call = by_part (in_both k.front (c ∷ e ∷ []) d there)
        where
          by_second : (e ≡ d) ⊎ Contains [] d → Contains (take n h) d
          by_second (inl is) = absurd (not_both d call (subst IsEnd is steps.1.ends))
          by_second (inr none) = absurd (there_not d none)

          by_first : (c ≡ d) ⊎ Contains (e ∷ []) d → Contains (take n h) d
          by_first (inl is) = subst (Contains (take n h)) is c_before
          by_first (inr later') = by_second (there_cases e d [] later')

          by_part : Contains k.front d ⊎ Contains (c ∷ e ∷ []) d → Contains (take n h) d
          by_part (inl one) = k.called d one call
          by_part (inr two) = by_first (there_cases c d (e ∷ []) two)

      next : Next x p k c e more
      next = record {
        pair = pair_after;
        leads = λ q takes. Take p q c e steps.2 not_yet (k.begun c c_pending c_new) steps.1 steps.3 takes;
        along = record {
          front = front_after;
          back = more;
          is = append_assoc k.front (c ∷ e ∷ []) more ∙ ap (λ l. k.front ++ l) (sym parts) ∙ k.is;
          done = serially_more Leads first p.state steps.2 k.front c e k.done steps.0 steps.1 steps.3;
          rest = steps.4;
          ended = λ f there ends. in_first k.front (c ∷ e ∷ []) f (k.ended f there ends);
          called = called_after;
          begun = begun_after;
          took = took_after;
          sound = sound_after;
        };
        front = refl;
        back = refl;
      }

    -- calls take effect up to the one with this end
    pub record Reached (p : Pair S) (x : Event) : Type 0 where
      pub pair : Pair S
      pub takes : Takes Leads x p pair
      pub along : IsAlong (take n h) pair
      pub there : Contains along.front x

    pub reach : (back : List Event) (p : Pair S) (k : IsAlong (take n h) p) → k.back ≡ back → (x : Event) →
        slice_get h n ≡ Some x → IsEnd x → Contains back x → Reached p x
    reach [] p k parts x at end there = absurd (there_not x there)
    reach (c ∷ []) p k parts x at end there = absurd (subst (λ l. Serially Leads p.state l last) parts k.rest)
    reach (c ∷ e ∷ more) p k parts x at end there =
        let later : Contains k.back x = subst (λ l. Contains l x) (sym parts) there in
        let m = next p k c e more parts x at end later in
        by_first m (λ rest. reach more m.pair m.along m.back x at end rest) (there_cases c x (e ∷ more) there)
      where
        here : (m : Next x p k c e more) → e ≡ x → Reached p x
        here m is = record {
          pair = m.pair;
          takes = m.leads m.pair (Done m.pair);
          along = m.along;
          there = subst (λ l. Contains l x) (sym m.front)
              (in_second k.front (c ∷ e ∷ [])
              x (there_later c x (e ∷ []) (subst (Contains (e ∷ [])) is (there_first e []))));
        }

        further : (m : Next x p k c e more) → Reached m.pair x → Reached p x
        further m r = record { pair = r.pair; takes = m.leads r.pair r.takes; along = r.along; there = r.there }

        by_second : (m : Next x p k c e more) → (Contains more x → Reached m.pair x) → (e ≡ x) ⊎ Contains more x →
            Reached p x
        by_second m go (inl is) = here m is
        by_second m go (inr rest) = further m (go rest)

        by_first : (m : Next x p k c e more) → (Contains more x → Reached m.pair x) → (c ≡ x) ⊎
            Contains (e ∷ more) x → Reached p x
        by_first m go (inl is) =
            absurd (not_both x (subst IsCall is (subst (λ l. Serially Leads p.state l last) parts k.rest).0) end)
        by_first m go (inr later) = by_second m go (there_cases e x more later)

    -- ---- one event more

    module _ (p : Pair S) (k : IsAlong (take n h) p) (x : Event) (at : slice_get h n ≡ Some x) where
      abbrev later : List Event
      later = take n h ++ x ∷ []

      now : take (suc n) h ≡ later
      now = take_more h n x at

      pub not_before : Contains (take n h) x → ⊥
      not_before there =
          let before = contains_get (take n h) x there in
          let r = take_get n h before.0 x before.1 in
          let same : before.0 ≡ n = once x before.0 n r.1 at in
          omega (arith, same, r.0)

      in_old : (y : Event) → Contains later y → Contains (take n h) y ⊎ (x ≡ y)
      in_old y there = by_part (in_both (take n h) (x ∷ []) y there)
        where
          by_new : (x ≡ y) ⊎ Contains [] y → Contains (take n h) y ⊎ (x ≡ y)
          by_new (inl is) = inr is
          by_new (inr none) = absurd (there_not y none)

          by_part : Contains (take n h) y ⊎ Contains (x ∷ []) y → Contains (take n h) y ⊎ (x ≡ y)
          by_part (inl old) = inl old
          by_part (inr new) = by_new (there_cases x y [] new)

      into : (y : Event) → Contains (take n h) y → Contains later y
      into y there = in_first (take n h) (x ∷ []) y there

      last_there : Contains later x
      last_there = in_second (take n h) (x ∷ []) x (there_first x [])

      -- a call that is pending later, and was called before, was pending before
      was_pending : (c : Event) → IsPending later c → Contains (take n h) c → IsPending (take n h) c
      was_pending c pending there = record {
        there = there;
        is_call = pending.is_call;
        pending = λ e in_old' ends. pending.pending e (into e in_old') ends;
      }

      -- ---- a call

      module _ (call : IsCall x) where
        begun_call : (d : Event) → IsPending later d → (Contains k.front d → ⊥) →
            status_of (with_status p.calls x (Open x)) d ≡ Open d
        begun_call d pending new = by_part (in_old d pending.there)
          where
            mine : x ≡ d → status_of (with_status p.calls x (Open x)) d ≡ Open d
            mine is = with_same p.calls x
                d (Open x) (ap (λ (z : Event). z.thread) (sym is)) (ap (λ (z : Event). z.call) (sym is))
                ∙ ap Open is

            by_part : Contains (take n h) d ⊎ (x ≡ d) → status_of (with_status p.calls x (Open x)) d ≡ Open d
            by_part (inl old) =
                with_other p.calls x (Open x) d (λ t m.
                let is : d ≡ x = same_call d x pending.is_call call t m in
                not_before (subst (Contains (take n h)) is old))
                ∙ k.begun d (was_pending d pending old) new
            by_part (inr is) = mine is

        took_call : (f : Event) → Contains k.front f → IsEnd f → (Contains later f → ⊥) →
            status_of (with_status p.calls x (Open x)) f ≡ Took f
        took_call f there ends new =
            let w = waiting (take n h) p k f there ends (λ old. new (into f old)) in
            with_other p.calls x (Open x) f (λ t m.
            let is : w.0 ≡ x = same_call w.0 x w.1.is_call call (sym w.2.thread ∙ t) (sym w.2.call ∙ m) in
            not_before (subst (Contains (take n h)) is w.1.there))
            ∙ k.took f there ends (λ old. new (into f old))

        sound_call : (t m : ℕ) (f : Event) → with_status p.calls x (Open x) t m ≡ Took f → IsTaken later k.front t m f
        sound_call t m f is = by_key (with_cases p.calls x (Open x) t m (Took f) is)
          where
            not_open : Open x ≡ Took f → ⊥
            not_open q = cc

            by_part : IsEnd f → (Contains (take n h) f → ⊥) → Contains (take n h) f ⊎ (x ≡ f) → ⊥
            by_part end new (inl old) = new old
            by_part end new (inr same) = not_both f (subst IsCall same call) end

            by_key : ((t ≡ x.thread) × (m ≡ x.call) × (Open x ≡ Took f)) ⊎
                ((t ≡ x.thread → m ≡ x.call → ⊥) × (p.calls t m ≡ Took f)) →
                IsTaken later k.front t m f
            by_key (inl new) = absurd (not_open new.2)
            by_key (inr old) = let r = k.sound t m f old.1 in record {
              there = r.there;
              end = r.end;
              new = λ there. by_part r.end r.new (in_old f there);
              thread = r.thread;
              call = r.call;
            }

        pub along_call : IsAlong later (record { state = p.state; calls = with_status p.calls x (Open x) })
        along_call = record {
          front = k.front;
          back = k.back;
          is = k.is;
          done = k.done;
          rest = k.rest;
          ended = λ e there ends. by_part e ends (in_old e there);
          called = λ c there is. into c (k.called c there is);
          begun = begun_call;
          took = took_call;
          sound = sound_call;
        }
          where
            by_part : (e : Event) → IsEnd e → Contains (take n h) e ⊎ (x ≡ e) → Contains k.front e
            by_part e ends (inl old) = k.ended e old ends
            by_part e ends (inr is) = absurd (not_both e (subst IsCall is call) ends)

      -- ---- an end

      module _ (end : IsEnd x) (there : Contains k.front x) where
        begun_end : (d : Event) → IsPending later d → (Contains k.front d → ⊥) →
            status_of (with_status p.calls x Idle) d ≡ Open d
        begun_end d pending new = by_part (in_old d pending.there)
          where
            by_part : Contains (take n h) d ⊎ (x ≡ d) → status_of (with_status p.calls x Idle) d ≡ Open d
            by_part (inl old) =
                let before = was_pending d pending old in
                with_other p.calls x Idle d (λ t m.
                pending.pending x last_there (record { ends = end; thread = sym t; call = sym m }))
                ∙ k.begun d before new
            by_part (inr is) = absurd (not_both d pending.is_call (subst IsEnd is end))

        took_end : (f : Event) → Contains k.front f → IsEnd f → (Contains later f → ⊥) →
            status_of (with_status p.calls x Idle) f ≡ Took f
        took_end f in_front ends new =
            let v = waiting (take n h) p k f in_front ends (λ old. new (into f old)) in
            with_other p.calls x Idle f (λ t m.
            let same : x ≡ f = ends_once v.0 x f v.1.is_call (front_run (take n h) p k x there)
            (front_run (take n h) p k f in_front) (record {
              ends = end;
              thread = sym t
                  ∙ v.2.thread;
              call = sym m ∙ v.2.call;
            }) v.2 in
            new (subst (Contains later) same last_there))
            ∙ k.took f in_front ends (λ old. new (into f old))

        sound_end : (t m : ℕ) (f : Event) → with_status p.calls x Idle t m ≡ Took f → IsTaken later k.front t m f
        sound_end t m f is = by_key (with_cases p.calls x Idle t m (Took f) is)
          where
            not_idle : Idle ≡ Took f → ⊥
            not_idle q = cc

            by_part : (t ≡ x.thread → m ≡ x.call → ⊥) → IsTaken (take n h) k.front t m f → Contains (take n h) f ⊎
                (x ≡ f) → ⊥
            by_part ne r (inl old) = r.new old
            by_part ne r (inr same) = ne (sym r.thread ∙ ap (λ (z : Event). z.thread) (sym same))
                (sym r.call ∙ ap (λ (z : Event). z.call) (sym same))

            by_key : ((t ≡ x.thread) × (m ≡ x.call) × (Idle ≡ Took f)) ⊎
                ((t ≡ x.thread → m ≡ x.call → ⊥) × (p.calls t m ≡ Took f)) →
                IsTaken later k.front t m f
            by_key (inl new) = absurd (not_idle new.2)
            by_key (inr old) = let r = k.sound t m f old.1 in record {
              there = r.there;
              end = r.end;
              new = λ there'. by_part old.0 r (in_old f there');
              thread = r.thread;
              call = r.call;
            }

        pub along_end : IsAlong later (record { state = p.state; calls = with_status p.calls x Idle })
        along_end = record {
          front = k.front;
          back = k.back;
          is = k.is;
          done = k.done;
          rest = k.rest;
          ended = λ e in_later ends. by_part e ends (in_old e in_later);
          called = λ c in_front is. into c (k.called c in_front is);
          begun = begun_end;
          took = took_end;
          sound = sound_end;
        }
          where
            by_part : (e : Event) → IsEnd e → Contains (take n h) e ⊎ (x ≡ e) → Contains k.front e
            by_part e ends (inl old) = k.ended e old ends
            by_part e ends (inr is) = subst (Contains k.front) is there
