-- The events of a run with their names.
use Rattle.std.proofs.lemmas.Option.{none-some}
use Rattle.std.proofs.Common.{◌≡◌, ◌⊎◌, inl, inr, ◌∙◌, ◌-◌, ◌<◌, ◌^◌, ℕ, zero, suc, Bool, true, false, List, [], ◌∷◌}
use Rattle.std.proofs.Common.{map}
use Rattle.std.proofs.Common.{Option, Some, None, refl, sym, ap, subst, arith}
use Rattle.std.specs.Prelude.{option_map, slice_get}
use Rattle.std.specs.Option.{option_and_then}
use Rattle.ls_events.specs.declared.event.Event.{Event as RunEvent}
use Rattle.ls_events.specs.declared.event.Happening.{Happening}
use Rattle.ls_events.specs.declared.event.Happening.TheVariants as happenings
use Rattle.ls_checked.specs.CheckedProgram.{Program, ThreadProgram, ProgramCall}
use Rattle.ls_report.specs.Events.{Event}
use Rattle.ls_report.specs.Lines.{call_text}
use Rattle.ls_report.specs.Printing.{event_of, named, occurrence_of}
use Rattle.ls_serial.specs.Serial.{IsCall, IsEnd, IsEndOf, IsSerial, is_called}
use Rattle.ls_serial.proofs.Lists.{get_within, some_is}
use Rattle.ls_serial.proofs.Steps.{not_both}
use Rattle.ls_orders.specs.SetCalls.{Asked, asked_of}
use Rattle.ls_legal_laws.specs.Laws.{AreNamed, HasOwnNames}
use Rattle.ls_legal_laws.proofs.Calls.{IsOf, same_call}

-- ---- run events

called_is : (h : Happening) → is_called h ≡ true → h ≡ happenings.Called
called_is happenings.Called e = refl
called_is (happenings.Returned v) e = absurd cc
called_is (happenings.Trapped k) e = absurd cc

same_event : (t u : ℕ) → t ≡ u → (m n : ℕ) → m ≡ n → (x y : Happening) → x ≡ y → (e f : RunEvent) →
    e ≡ record { thread = t; call = m; happening = x } → f ≡ record { thread = u; call = n; happening = y } → e ≡ f
same_event t u a m n b x y c e f p q = cc

-- two calls of the same thread with the same number are the same event
pub same_called : (e f : RunEvent) → IsCall e → IsCall f → e.thread ≡ f.thread → e.call ≡ f.call → e ≡ f
same_called e f a b t n = same_event e.thread f.thread t e.call f.call n e.happening f.happening
    (called_is e.happening a ∙ sym (called_is f.happening b)) e f refl refl

-- an event is a call or an end
pub call_or_end : (e : RunEvent) → IsCall e ⊎ IsEnd e
call_or_end e = by_test (is_called e.happening) refl
  where
    by_test : (b : Bool) → is_called e.happening ≡ b → (is_called e.happening ≡ true) ⊎ (is_called e.happening ≡ false)
    by_test true is = inl is
    by_test false is = inr is

-- in a serial history the call of an end stands before it
pub record IsBefore (g : List RunEvent) (b : ℕ) (e : RunEvent) : Type 0 where
  pub place : ℕ
  pub next : b ≡ suc place
  pub call : RunEvent
  pub there : slice_get g place ≡ Some call
  pub is_call : IsCall call
  pub ends : IsEndOf call e

-- the call of an end stands right before that end
pub before : (g : List RunEvent) (b : ℕ) (e : RunEvent) → IsSerial g → slice_get g b ≡ Some e → IsEnd e → IsBefore g b e
before [] b e s there end = absurd (none-some _ there)
before (c ∷ []) b e s there end = absurd s
before (c ∷ d ∷ g) zero e s there end = absurd (not_both c s.0 (subst IsEnd (sym (some_is there)) end))
before (c ∷ d ∷ g) (suc zero) e s there end = record {
  place = 0;
  next = refl;
  call = c;
  there = refl;
  is_call = s.0;
  ends = subst (IsEndOf c) (some_is there) s.1;
}
before (c ∷ d ∷ g) (suc (suc b)) e s there end = let r = before g b e s.2 there end in record {
  place = suc (suc r.place);
  next = ap (λ n. suc (suc n)) r.next;
  call = r.call;
  there = r.there;
  is_call = r.is_call;
  ends = r.ends;
}

-- ---- names

map_named : (f : RunEvent → Option Event) (run : List RunEvent) (events : List Event) (k : ℕ) (e : RunEvent) →
    map f run ≡ map Some events → slice_get run k ≡ Some e →
    (x : Event) × (slice_get events k ≡ Some x) × (f e ≡ Some x)
map_named f [] events k e is there = absurd (none-some _ there)
map_named f (r ∷ run) [] k e is there = absurd cc
map_named f (r ∷ run) (x ∷ events) zero e is there =
    let first : f r ≡ Some x = cc in
    (x, refl, ap f (sym (some_is there)) ∙ first)
map_named f (r ∷ run) (x ∷ events) (suc k) e is there = map_named f run events k e (cc) there

named_map : (f : RunEvent → Option Event) (run : List RunEvent) (events : List Event) (k : ℕ) (x : Event) →
    map f run ≡ map Some events → slice_get events k ≡ Some x →
    (e : RunEvent) × (slice_get run k ≡ Some e) × (f e ≡ Some x)
named_map f run [] k x is there = absurd (none-some _ there)
named_map f [] (y ∷ events) k x is there = absurd cc
named_map f (r ∷ run) (y ∷ events) zero x is there =
    let first : f r ≡ Some y = cc in
    (r, refl, first ∙ there)
named_map f (r ∷ run) (y ∷ events) (suc k) x is there = named_map f run events k x (cc) there

module _ (p : Program) where
  -- each event has its name at its place
  pub run_named : (run : List RunEvent) (events : List Event) (k : ℕ) (e : RunEvent) → AreNamed p run events →
      slice_get run k ≡ Some e → (x : Event) × (slice_get events k ≡ Some x) × (named p e ≡ Some x)
  run_named run events k e is there = map_named (named p) run events k e is there

  -- each name is that of the event at its place
  pub named_run : (run : List RunEvent) (events : List Event) (k : ℕ) (x : Event) → AreNamed p run events →
      slice_get events k ≡ Some x → (e : RunEvent) × (slice_get run k ≡ Some e) × (named p e ≡ Some x)
  named_run run events k x is there = named_map (named p) run events k x is there

  -- the name of an event stands at its place
  pub named_there : (run : List RunEvent) (events : List Event) (k : ℕ) (e : RunEvent) (x : Event) →
      AreNamed p run events →
      slice_get run k ≡ Some e →
      named p e ≡ Some x →
      slice_get events k ≡ Some x
  named_there run events k e x is there name =
      let y = run_named run events k e is there in
      y.1 ∙ sym y.2 ∙ name

  pub record IsName (e : RunEvent) (x : Event) : Type 0 where
    pub thread : ThreadProgram
    pub at : slice_get p.threads e.thread ≡ Some thread
    pub call : ProgramCall
    pub there : slice_get thread.calls (e.call - 1) ≡ Some call
    pub is : x ≡ event_of p thread e call

  -- the name of an event is that of its thread and call
  pub is_name : (e : RunEvent) (x : Event) → named p e ≡ Some x → IsName e x
  is_name e x is = by_thread (slice_get p.threads e.thread) refl is
    where
      by_call : (t : ThreadProgram) → slice_get p.threads e.thread ≡ Some t → (c : Option ProgramCall) →
          slice_get t.calls (e.call - 1) ≡ c → option_map (event_of p t e) c ≡ Some x → IsName e x
      by_call t at None there is = absurd (none-some _ is)
      by_call t at (Some c) there is = record { thread = t; at = at; call = c; there = there; is = sym (some_is is) }

      by_thread : (t : Option ThreadProgram) → slice_get p.threads e.thread ≡ t →
          option_and_then (λ t. option_map (event_of p t e) (slice_get t.calls (e.call - 1))) t ≡ Some x → IsName e x
      by_thread None at is = absurd (none-some _ is)
      by_thread (Some t) at is = by_call t at (slice_get t.calls (e.call - 1)) refl is

  -- only a call asks
  asked_called : (c : ProgramCall) (h : Happening) (a : Asked) → asked_of (occurrence_of p c h) ≡ Some a →
      is_called h ≡ true
  asked_called c happenings.Called a is = refl
  asked_called c (happenings.Returned v) a is = absurd (none-some _ is)
  asked_called c (happenings.Trapped k) a is = absurd (none-some _ is)

  -- only the call event of a run asks by its names
  pub asks_called : (e : RunEvent) (x : Event) (a : Asked) → named p e ≡ Some x → asked_of x.occurrence ≡ Some a →
      IsCall e
  asks_called e x a is asks = let n = is_name e x is in
      asked_called n.call e.happening a (ap (λ z. asked_of z.occurrence) (sym n.is) ∙ asks)

  module _ (own : HasOwnNames p) where
    -- names of the same thread's call
    pub same_of : (e f : RunEvent) (x y : Event) → named p e ≡ Some x → named p f ≡ Some y → IsOf x.thread x.call y →
        (f.thread ≡ e.thread) × (f.call ≡ e.call)
    same_of e f x y a b is =
        let m = is_name e x a in
        let n = is_name f y b in (
          own.apart f.thread e.thread n.thread m.thread n.at m.at
              (ap (λ z. z.thread) (sym n.is) ∙ is.0 ∙ ap (λ z. z.thread) m.is),
          ap (λ z. z.call) (sym n.is) ∙ is.1 ∙ ap (λ z. z.call) m.is,
        )

    small : (e : RunEvent) (x : Event) → named p e ≡ Some x → x.call < 2 ^ 64
    small e x a =
        let m = is_name e x a in
        let w = get_within m.thread.calls (e.call - 1) m.call m.there in
        let l = own.counted e.thread m.thread m.at in
        let same : x.call ≡ e.call = ap (λ z. z.call) m.is in
        omega (arith, w, l, same)

    -- events with the same text of their call
    pub same_text : (e f : RunEvent) (x y : Event) → named p e ≡ Some x → named p f ≡ Some y →
        call_text x.thread x.call ≡ call_text y.thread y.call → (f.thread ≡ e.thread) × (f.call ≡ e.call)
    same_text e f x y a b is =
        let s = same_call x.thread y.thread x.call y.call (small e x a) (small f y b) is in
        same_of e f x y a b (sym s.0, sym s.1)
