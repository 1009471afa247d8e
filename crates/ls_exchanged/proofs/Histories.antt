-- Serial histories, and what they explain, with other numbers of threads.
use Rattle.std.proofs.Common.{◌≡◌, ℕ, List, [], ◌∷◌, Some, Contains, slice_get, take}
use Rattle.std.proofs.Common.{sym, ap, ◌∙◌, subst}
use Rattle.std.specs.Prelude.{option_map}
use Rattle.std.proofs.lemmas.List.{take-map}
use Rattle.std.proofs.lemmas.Option.{slice_get-map}
use Rattle.ls_events.specs.declared.event.Event.{Event}
use Rattle.ls_serial.specs.Serial.{AreCalled, AreEnded, Explains, IsEndOf, IsSerial, KeepsOrder}
use Rattle.ls_serial.proofs.Lists.{contains_get, get_contains}
use Rattle.ls_exchanged.proofs.Alike.{list_twice}
use Rattle.ls_exchanged.proofs.Runs.{other_event, other_events}

module _ (f : ℕ → ℕ) (own : (t : ℕ) → f (f t) ≡ t) where
  -- ---- changed twice, an event is itself

  -- an event that is changed twice is itself
  pub event_twice : (e : Event) → other_event f (other_event f e) ≡ e
  event_twice e = ap (λ t. record { thread = t; call = e.call; happening = e.happening }) (own e.thread)

  events_twice : (h : List Event) → other_events f (other_events f h) ≡ h
  events_twice h = list_twice (other_event f) event_twice h

  -- ---- places

  at_other : (h : List Event) (i : ℕ) (c : Event) →
      slice_get h i ≡ Some c →
      slice_get (other_events f h) i ≡ Some (other_event f c)
  at_other h i c at = slice_get-map (other_event f) h i ∙ ap (option_map (other_event f)) at

  at_back : (h : List Event) (i : ℕ) (c : Event) →
      slice_get (other_events f h) i ≡ Some c →
      slice_get h i ≡ Some (other_event f c)
  at_back h i c at = ap (λ l. slice_get l i) (sym (events_twice h)) ∙ at_other (other_events f h) i c at

  -- an event that is there is there under its other number
  pub there_other : (h : List Event) (c : Event) → Contains h c → Contains (other_events f h) (other_event f c)
  there_other h c there =
      let k = contains_get h c there in get_contains (other_events f h) k.0 (other_event f c) (at_other h k.0 c k.1)

  -- and back
  pub there_back : (h : List Event) (c : Event) → Contains (other_events f h) c → Contains h (other_event f c)
  there_back h c there =
      subst (λ l. Contains l (other_event f c)) (events_twice h) (there_other (other_events f h) c there)

  -- ---- serial histories

  end_other : (c e : Event) → IsEndOf c e → IsEndOf (other_event f c) (other_event f e)
  end_other c e o = record { ends = o.ends; thread = ap f o.thread; call = o.call }

  -- an end is the end of the call under its other number
  pub end_back : (c e : Event) → IsEndOf (other_event f c) e → IsEndOf c (other_event f e)
  end_back c e o = subst (λ z. IsEndOf z (other_event f e)) (event_twice c) (end_other (other_event f c) e o)

  -- a serial history is one under other numbers
  pub serial_other : (g : List Event) → IsSerial g → IsSerial (other_events f g)
  serial_other [] s = s
  serial_other (c ∷ []) s = absurd s
  serial_other (c ∷ e ∷ rest) s = (s.0, end_other c e s.1, serial_other rest s.2)

  -- ---- what they explain

  -- what has ended has ended under other numbers
  pub ended_other : (h g : List Event) → AreEnded h g → AreEnded (other_events f h) (other_events f g)
  ended_other h g all e there ends =
      subst (Contains (other_events f g)) (event_twice e)
      (there_other g (other_event f e) (all (other_event f e) (there_back h e there) ends))

  called_other : (g h : List Event) → AreCalled g h → AreCalled (other_events f g) (other_events f h)
  called_other g h all c there call =
      subst (Contains (other_events f h)) (event_twice c)
      (there_other h (other_event f c) (all (other_event f c) (there_back g c there) call))

  order_other : (g h : List Event) → KeepsOrder g h → KeepsOrder (other_events f g) (other_events f h)
  order_other g h keeps c i j call at there =
      subst (λ l. AreEnded l (take j (other_events f g))) (sym (take-map (other_event f) i h))
      (subst (AreEnded (other_events f (take i h))) (sym (take-map (other_event f) j g))
      (ended_other (take i h) (take j g) (keeps (other_event f c) i j call (at_back h i c at) (at_back g j c there))))

  -- what explains a history explains it under other numbers
  pub explains_other : (g h : List Event) → Explains g h → Explains (other_events f g) (other_events f h)
  explains_other g h x = record {
    ended = ended_other h g x.ended;
    called = called_other g h x.called;
    order = order_other g h x.order;
  }
