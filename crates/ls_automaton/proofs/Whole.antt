-- Along the whole history that a serial run explains, a pair is held.
use Rattle.std.proofs.Common.{◌≡◌, ◌⊎◌, inl, inr, ℕ, zero, suc, ◌≤◌, List, [], ◌∷◌, Some, Contains, length}
use Rattle.std.proofs.Common.{slice_get, take, refl, sym, subst, arith}
use Rattle.ls_events.specs.declared.event.Event.{Event}
use Rattle.ls_serial.specs.Serial.{Explains, IsCall, IsEnd}
use Rattle.ls_serial.proofs.Lists.{get_contains, get_there}
use Rattle.ls_linearizable.specs.Once.{AreOnce}
use Rattle.ls_linearizable.proofs.There.{there_not}
use Rattle.ls_automaton.specs.Automaton.{
  Calls,
  Done,
  Ends,
  Holds,
  Idle,
  Open,
  Pair,
  Serially,
  Starts,
  Took,
  with_status,
}
use Rattle.ls_automaton.proofs.Along.{IsAlong, Reached, along_call, along_end, not_before, reach}
use Rattle.ls_automaton.proofs.Lists.{in_both, take_all, take_more}
use Rattle.ls_automaton.proofs.Runs.{which}

module _ {S : Type 0} (Leads : S → Event → Event → S → Type 0) (first : S) (h run : List Event) (last : S)
    (whole : Serially Leads first run last) (once_run : AreOnce run) (explains : Explains run h)
    (once : AreOnce h) where
  pub record IsHeld (before : List Event) : Type 0 where
    pub pair : Pair S
    pub held : Holds Leads first before pair
    pub along : IsAlong Leads first h run last whole once_run explains once before pair

  not_idle : (e : Event) → Idle ≡ Took e → ⊥
  not_idle e q = cc

  at_first : (l : List Event) → l ≡ [] → IsHeld l
  at_first l none = subst IsHeld (sym none) (record {
    pair = record { state = first; calls = λ t m. Idle };
    held = Starts;
    along = record {
      front = [];
      back = run;
      is = refl;
      done = refl;
      rest = whole;
      ended = λ e there ends. there;
      called = λ c there call. there;
      begun = λ c pending new. absurd (there_not c pending.there);
      took = λ e there ends new. absurd (there_not e there);
      sound = λ t m e is. absurd (not_idle e is);
    };
  })

  with_call : (n : ℕ) (x : Event) → slice_get h n ≡ Some x → IsCall x → IsHeld (take n h) → IsHeld (take (suc n) h)
  with_call n x at call k = subst IsHeld (sym (take_more h n x at)) (record {
    pair = record { state = k.pair.state; calls = with_status k.pair.calls x (Open x) };
    held = Calls (take n h) k.pair x k.held call;
    along = along_call Leads first h run last whole once_run explains once n k.pair k.along x at call;
  })

  with_end : (n : ℕ) (x : Event) → slice_get h n ≡ Some x → IsEnd x → (k : IsHeld (take n h)) →
      Reached Leads first h run last whole once_run explains once n k.pair x →
      IsHeld (take (suc n) h)
  with_end n x at end k r = subst IsHeld (sym (take_more h n x at)) (record {
    pair = record { state = r.pair.state; calls = with_status r.pair.calls x Idle };
    held = Ends (take n h) k.pair r.pair x k.held r.takes end
        (r.along.took x r.there
        end (not_before Leads first h run last whole once_run explains once n r.pair r.along x at));
    along = along_end Leads first h run last whole once_run explains once n r.pair r.along x at end r.there;
  })

  reached : (n : ℕ) (x : Event) → slice_get h n ≡ Some x → IsEnd x → (k : IsHeld (take n h)) →
      Reached Leads first h run last whole once_run explains once n k.pair x
  reached n x at end k =
      by_part (in_both k.along.front k.along.back x (subst (λ l. Contains l x) (sym k.along.is)
      (explains.ended x (get_contains h n x at) end)))
    where
      by_part : Contains k.along.front x ⊎ Contains k.along.back x →
          Reached Leads first h run last whole once_run explains once n k.pair x
      by_part (inl there) = record { pair = k.pair; takes = Done k.pair; along = k.along; there = there }
      by_part (inr later) =
          reach Leads first h run last whole once_run explains once n k.along.back k.pair k.along refl x at end later

  by_event : (n : ℕ) (x : Event) → slice_get h n ≡ Some x → (IsCall x) ⊎ (IsEnd x) → IsHeld (take n h) →
      IsHeld (take (suc n) h)
  by_event n x at (inl call) k = with_call n x at call k
  by_event n x at (inr end) k = with_end n x at end k (reached n x at end k)

  pub held_so_far : (n : ℕ) → n ≤ length h → IsHeld (take n h)
  held_so_far zero le = at_first (take 0 h) (nothing h)
    where
      nothing : (l : List Event) → take 0 l ≡ []
      nothing [] = refl
      nothing (x ∷ l) = refl
  held_so_far (suc n) le =
      let at = get_there h n (omega (arith, le)) in
      by_event n at.0 at.1 (which at.0) (held_so_far n (omega (arith, le)))

  pub held_all : IsHeld h
  held_all = subst IsHeld (take_all h) (held_so_far (length h) (omega arith))
