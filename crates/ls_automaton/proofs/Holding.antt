-- A pair that is held is that of a serial run which explains the history.
use Rattle.std.proofs.Common.{◌≡◌, ◌⊎◌, inl, inr, ℕ, ◌<◌, ◌≤◌, Bool, true, false, nat_eq, ◌&&◌, if◌then◌else◌, List}
use Rattle.std.proofs.Common.{[], ◌∷◌, ◌++◌, Some, None, Contains, length}
use Rattle.std.proofs.Common.{take, refl, sym, ap, ◌∙◌, subst, arith}
use Rattle.std.proofs.lemmas.Bool.{cases_lt}
use Rattle.ls_events.specs.declared.event.Event.{Event}
use Rattle.ls_serial.specs.Serial.{AreCalled, AreEnded, Explains, IsCall, IsEnd, IsEndOf, KeepsOrder}
use Rattle.ls_serial.proofs.Lists.{get_contains, contains_get, get_within}
use Rattle.ls_serial.proofs.Steps.{not_both}
use Rattle.ls_linearizable.specs.Once.{AreOnce}
use Rattle.ls_linearizable.proofs.There.{there_cases, there_first, there_later, there_not}
use Rattle.ls_automaton.specs.Automaton.{Status, Idle, Open, Took, Pair, Statuses, status_of, with_status, Serially}
use Rattle.ls_automaton.specs.Automaton.{Takes, Done, Take, Holds, Starts, Calls, Ends}
use Rattle.ls_automaton.specs.Laws.{HeldIsExplained, RunsAreOnce}
use Rattle.ls_automaton.proofs.Runs.{apart, call_of, one_end, same_call, serially_serial, with_other, with_same}
use Rattle.ls_automaton.proofs.Lists.{get_first, get_last, get_of_first, in_both, in_first, in_second, in_take}
use Rattle.ls_automaton.proofs.Lists.{in_take_first, take_first}

-- what a status says of a history and a run
abbrev pub IsSo : List Event → List Event → Status → Type 0
IsSo h g Idle = Unit {0}
IsSo h g (Open c) = IsCall c × Contains h c
IsSo h g (Took e) = Contains g e

so_more : (h h' g g' : List Event) → ((x : Event) → Contains h x → Contains h' x) →
    ((x : Event) → Contains g x → Contains g' x) → (s : Status) → IsSo h g s → IsSo h' g' s
so_more h h' g g' a b Idle so = tt
so_more h h' g g' a b (Open c) so = (so.0, a c so.1)
so_more h h' g g' a b (Took e) so = b e so

-- a history with one event less
pub once_first : (h : List Event) (x : Event) → AreOnce (h ++ x ∷ []) → AreOnce h
once_first h x once e i j at there = once e i j (get_of_first h (x ∷ []) i e at) (get_of_first h (x ∷ []) j e there)

module _ {S : Type 0} (Leads : S → Event → Event → S → Type 0) where
  pub serially_more : (s m n : S) (g : List Event) (c e : Event) → Serially Leads s g m → IsCall c → IsEndOf c e →
      Leads m c e n → Serially Leads s (g ++ c ∷ e ∷ []) n
  serially_more s m n [] c e run call end leads =
      (call, end, n, subst (λ x. Leads x c e n) (sym run) leads, refl)
  serially_more s m n (d ∷ []) c e run call end leads = absurd run
  serially_more s m n (d ∷ f ∷ g) c e run call end leads =
      (run.0, run.1, run.2, run.3, serially_more run.2 m n g c e run.4 call end leads)

  -- each end in the run that hasn't come is taken
  abbrev pub AreTaken : List Event → List Event → Statuses → Type 0
  AreTaken h g calls = (x : Event) → Contains g x → IsEnd x → (Contains h x → ⊥) → status_of calls x ≡ Took x

  -- a run, with what the statuses of a pair say of it
  pub record IsLinked (first : S) (h : List Event) (p : Pair S) : Type 0 where
    pub run : List Event
    pub serially : Serially Leads first run p.state
    pub explains : Explains run h
    pub says : (t n : ℕ) → IsSo h run (p.calls t n)
    pub taken : AreTaken h run p.calls

  -- the status of one thread changes
  with_so : (h g : List Event) (calls : Statuses) (e : Event) (x : Status) → ((u n : ℕ) → IsSo h g (calls u n)) →
      IsSo h g x →
      (u n : ℕ) → IsSo h g (with_status calls e x u n)
  with_so h g calls e x old new u n = by_test (nat_eq u e.thread && nat_eq n e.call)
    where
      by_test : (b : Bool) → IsSo h g (if b then x else calls u n)
      by_test true = new
      by_test false = old u n

  -- a pending call takes effect
  takes : (first : S) → RunsAreOnce Leads first → (h : List Event) (p : Pair S) (c e : Event) (m : S) →
      status_of p.calls c ≡ Open c → IsEndOf c e →
      Leads p.state c e m → IsLinked first h p →
      IsLinked first h (record { state = m; calls = with_status p.calls c (Took e) })
  takes first runs h p c e m begun end leads k = record {
    run = k.run ++ c ∷ e ∷ [];
    serially = serially_more first p.state m k.run c e k.serially so.0 end leads;
    explains = record { ended = ended; called = called; order = order };
    says = with_so h (k.run ++ c ∷ e ∷ []) p.calls c (Took e)
        (λ u n. so_more h h k.run (k.run ++ c ∷ e ∷ []) (λ x there. there) (in_first k.run (c ∷ e ∷ []))
        (p.calls u n) (k.says u n))
        (in_second k.run (c ∷ e ∷ []) e (there_later c e (e ∷ []) (there_first e [])));
    taken = taken;
  }
    where
      so : IsSo h k.run (Open c)
      so = subst (IsSo h k.run) begun (k.says c.thread c.call)

      both : Serially Leads first (k.run ++ c ∷ e ∷ []) m
      both = serially_more first p.state m k.run c e k.serially so.0 end leads

      -- an end of the run is that of another call
      other : (x : Event) → Contains k.run x → IsEnd x → x.thread ≡ c.thread → x.call ≡ c.call → ⊥
      other x there ends t n =
          let w = call_of k.run x (serially_serial Leads first p.state k.run k.serially) there ends in
          let is : w.call ≡ c = same_call w.call c w.is_call so.0 (sym w.ends.thread ∙ t) (sym w.ends.call ∙ n) in
          apart k.run (c ∷ e ∷ []) c (runs (k.run ++ c ∷ e ∷ []) m both)
          (subst (Contains k.run) is w.there) (there_first c (e ∷ []))

      taken : AreTaken h (k.run ++ c ∷ e ∷ []) (with_status p.calls c (Took e))
      taken x there ends new = by_part (in_both k.run (c ∷ e ∷ []) x there)
        where
          by_second : (e ≡ x) ⊎ Contains [] x → status_of (with_status p.calls c (Took e)) x ≡ Took x
          by_second (inl is) = with_same p.calls c x (Took e) (ap (λ (z : Event). z.thread) (sym is) ∙ end.thread)
              (ap (λ (z : Event). z.call) (sym is) ∙ end.call) ∙ ap Took is
          by_second (inr none) = absurd (there_not x none)

          by_first : (c ≡ x) ⊎ Contains (e ∷ []) x → status_of (with_status p.calls c (Took e)) x ≡ Took x
          by_first (inl is) = absurd (not_both x (subst IsCall is so.0) ends)
          by_first (inr later) = by_second (there_cases e x [] later)

          by_part : Contains k.run x ⊎ Contains (c ∷ e ∷ []) x → status_of (with_status p.calls c (Took e)) x ≡ Took x
          by_part (inl old) = with_other p.calls c (Took e) x (other x old ends) ∙ k.taken x old ends new
          by_part (inr two) = by_first (there_cases c x (e ∷ []) two)

      ended : AreEnded h (k.run ++ c ∷ e ∷ [])
      ended x there ends = in_first k.run (c ∷ e ∷ []) x (k.explains.ended x there ends)

      called : AreCalled (k.run ++ c ∷ e ∷ []) h
      called x there call = by_part (in_both k.run (c ∷ e ∷ []) x there)
        where
          by_second : (e ≡ x) ⊎ Contains [] x → Contains h x
          by_second (inl is) = absurd (not_both x call (subst IsEnd is end.ends))
          by_second (inr none) = absurd (there_not x none)

          by_first : (c ≡ x) ⊎ Contains (e ∷ []) x → Contains h x
          by_first (inl is) = subst (Contains h) is so.1
          by_first (inr later) = by_second (there_cases e x [] later)

          by_part : Contains k.run x ⊎ Contains (c ∷ e ∷ []) x → Contains h x
          by_part (inl old) = k.explains.called x old call
          by_part (inr new) = by_first (there_cases c x (e ∷ []) new)

      order : KeepsOrder (k.run ++ c ∷ e ∷ []) h
      order x i j call at there = by_place (cases_lt j (length k.run))
        where
          by_place : (j < length k.run) ⊎ (length k.run ≤ j) → AreEnded (take i h) (take j (k.run ++ c ∷ e ∷ []))
          by_place (inl lt) y early ends =
              subst (λ l. Contains l y) (sym (take_first k.run (c ∷ e ∷ []) j (omega (arith, lt))))
              (k.explains.order x i j call at (get_first k.run (c ∷ e ∷ []) j x lt there) y early ends)
          by_place (inr le) y early ends =
              in_take_first k.run (c ∷ e ∷ []) j y le (k.explains.ended y (in_take h i y early) ends)

  all_taken : (first : S) → RunsAreOnce Leads first → (h : List Event) (x : Event) (p q : Pair S) →
      Takes Leads x p q → IsLinked first h p → IsLinked first h q
  all_taken first runs h x p q (Done p') k = k
  all_taken first runs h x p q (Take p' q' c e m not_yet begun end leads more) k =
      all_taken first runs h x (record { state = m; calls = with_status p'.calls c (Took e) }) q' more
      (takes first runs h p' c e m begun end leads k)

  -- nothing has happened
  at_start : (first : S) → IsLinked first [] (record { state = first; calls = λ t n. Idle })
  at_start first = record {
    run = [];
    serially = refl;
    explains = record {
      ended = λ x there ends. there;
      called = λ x there call. there;
      order = λ c i j call at there. absurd (none at);
    };
    says = λ t n. tt;
    taken = λ x there ends new. absurd (there_not x there);
  }
    where
      none : {c : Event} → None ≡ Some c → ⊥
      none p = cc

  -- a call begins
  called_more : (first : S) (h : List Event) (p : Pair S) (c : Event) → IsCall c → AreOnce (h ++ c ∷ []) →
      IsLinked first h p →
      IsLinked first (h ++ c ∷ []) (record { state = p.state; calls = with_status p.calls c (Open c) })
  called_more first h p c is_call once k = record {
    run = k.run;
    serially = k.serially;
    explains = record {
      ended = ended;
      called = λ x there call. in_first h (c ∷ [])
          x (k.explains.called x there call);
      order = order;
    };
    says = with_so (h ++ c ∷ []) k.run p.calls c (Open c)
        (λ u n. so_more h (h ++ c ∷ []) k.run k.run (in_first h (c ∷ [])) (λ x there. there) (p.calls u n)
        (k.says u n))
        (is_call, in_second h (c ∷ []) c (there_first c []));
    taken = taken;
  }
    where
      other : (x : Event) → Contains k.run x → IsEnd x → x.thread ≡ c.thread → x.call ≡ c.call → ⊥
      other x there ends t n =
          let w = call_of k.run x (serially_serial Leads first p.state k.run k.serially) there ends in
          let is : w.call ≡ c = same_call w.call c w.is_call is_call (sym w.ends.thread ∙ t) (sym w.ends.call ∙ n) in
          apart h (c ∷ []) c once
          (subst (Contains h) is (k.explains.called w.call w.there w.is_call)) (there_first c [])

      taken : AreTaken (h ++ c ∷ []) k.run (with_status p.calls c (Open c))
      taken x there ends new = with_other p.calls c (Open c) x (other x there ends)
          ∙ k.taken x there ends (λ old. new (in_first h (c ∷ []) x old))

      ended : AreEnded (h ++ c ∷ []) k.run
      ended x there ends = by_part (in_both h (c ∷ []) x there)
        where
          by_new : (c ≡ x) ⊎ Contains [] x → Contains k.run x
          by_new (inl is) = absurd (not_both x (subst IsCall is is_call) ends)
          by_new (inr none) = absurd (there_not x none)

          by_part : Contains h x ⊎ Contains (c ∷ []) x → Contains k.run x
          by_part (inl old) = k.explains.ended x old ends
          by_part (inr new) = by_new (there_cases c x [] new)

      order : KeepsOrder k.run (h ++ c ∷ [])
      order x i j call at there = by_place (get_last h c i x at)
        where
          by_place : (i < length h) ⊎ ((i ≡ length h) × (c ≡ x)) → AreEnded (take i (h ++ c ∷ [])) (take j k.run)
          by_place (inl lt) y early ends =
              k.explains.order x i j call (get_first h (c ∷ []) i x lt at) there y
              (subst (λ l. Contains l y) (take_first h (c ∷ []) i (omega (arith, lt))) early) ends
          by_place (inr (last, is)) y early ends =
              let before = contains_get h x (k.explains.called x (get_contains k.run j x there) call) in
              let same : before.0 ≡ i = once x before.0 i (get_of_first h (c ∷ []) before.0 x before.1) at in
              absurd (omega (arith, same, last, get_within h before.0 x before.1))

  -- a call ends
  ended_more : (first : S) → RunsAreOnce Leads first → (h : List Event) (p : Pair S) (e : Event) → IsEnd e →
      status_of p.calls e ≡ Took e →
      IsLinked first h p →
      IsLinked first (h ++ e ∷ []) (record { state = p.state; calls = with_status p.calls e Idle })
  ended_more first runs h p e is_end took k = record {
    run = k.run;
    serially = k.serially;
    explains = record {
      ended = ended;
      called = λ x there call. in_first h (e ∷ [])
          x (k.explains.called x there call);
      order = order;
    };
    says = with_so (h ++ e ∷ []) k.run p.calls e Idle
        (λ u n. so_more h (h ++ e ∷ []) k.run k.run (in_first h (e ∷ [])) (λ x there. there) (p.calls u n)
        (k.says u n)) tt;
    taken = taken;
  }
    where
      there_e : Contains k.run e
      there_e = subst (IsSo h k.run) took (k.says e.thread e.call)

      other : (x : Event) → Contains k.run x → IsEnd x → (Contains (h ++ e ∷ []) x → ⊥) → x.thread ≡ e.thread →
          x.call ≡ e.call → ⊥
      other x there ends new t n =
          let serial = serially_serial Leads first p.state k.run k.serially in
          let w = call_of k.run x serial there ends in
          let is : e ≡ x = one_end k.run w.call e x serial (runs k.run p.state k.serially) w.is_call there_e there
          (record { ends = is_end; thread = sym t ∙ w.ends.thread; call = sym n ∙ w.ends.call }) w.ends in
          new (subst (Contains (h ++ e ∷ [])) is (in_second h (e ∷ []) e (there_first e [])))

      taken : AreTaken (h ++ e ∷ []) k.run (with_status p.calls e Idle)
      taken x there ends new = with_other p.calls e Idle x (other x there ends new)
          ∙ k.taken x there ends (λ old. new (in_first h (e ∷ []) x old))

      ended : AreEnded (h ++ e ∷ []) k.run
      ended x there ends = by_part (in_both h (e ∷ []) x there)
        where
          by_new : (e ≡ x) ⊎ Contains [] x → Contains k.run x
          by_new (inl is) = subst (Contains k.run) is (subst (IsSo h k.run) took (k.says e.thread e.call))
          by_new (inr none) = absurd (there_not x none)

          by_part : Contains h x ⊎ Contains (e ∷ []) x → Contains k.run x
          by_part (inl old) = k.explains.ended x old ends
          by_part (inr new) = by_new (there_cases e x [] new)

      order : KeepsOrder k.run (h ++ e ∷ [])
      order x i j call at there = by_place (get_last h e i x at)
        where
          by_place : (i < length h) ⊎ ((i ≡ length h) × (e ≡ x)) → AreEnded (take i (h ++ e ∷ [])) (take j k.run)
          by_place (inl lt) y early ends =
              k.explains.order x i j call (get_first h (e ∷ []) i x lt at) there y
              (subst (λ l. Contains l y) (take_first h (e ∷ []) i (omega (arith, lt))) early) ends
          by_place (inr (last, is)) y early ends = absurd (not_both x call (subst IsEnd is is_end))

  pub linked : (first : S) → RunsAreOnce Leads first → (h : List Event) (p : Pair S) → AreOnce h →
      Holds Leads first h p → IsLinked first h p
  linked first runs h p once Starts = at_start first
  linked first runs h p once (Calls h' p' c held call) =
      called_more first h' p' c call once (linked first runs h' p' (once_first h' c once) held)
  linked first runs h p once (Ends h' p' q e held takes end took) =
      ended_more first runs h' q e end took
      (all_taken first runs h' e p' q takes (linked first runs h' p' (once_first h' e once) held))

  pub held_explained : (first : S) → HeldIsExplained Leads first
  held_explained first runs h p once held =
      let k = linked first runs h p once held in
      record { run = k.run; last = p.state; serially = k.serially; explains = k.explains }
