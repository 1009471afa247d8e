-- Readable histories of a program are told apart by their texts.
use Rattle.std.proofs.Common.{◌≡◌, ◌∙◌, ◌-◌, ◌<◌, ◌^◌, ℕ, List, [], ◌∷◌, length, map, Option, Some, None, refl, sym, ap}
use Rattle.std.specs.Prelude.{option_and_then, option_map, slice_get}
use Rattle.ls_events.specs.declared.event.Event.{Event as RunEvent}
use Rattle.ls_events.specs.declared.event.Happening.{Happening}
use Rattle.ls_events.specs.declared.event.Happening.TheVariants as happenings
use Rattle.ls_checked.specs.CheckedProgram.{Calling, Making, Program, ProgramCall, ThreadProgram}
use Rattle.ls_report.specs.Events.{Called, Event, Made, Occurrence, Returned, Trapped}
use Rattle.ls_report.specs.Printing.{event_of, named, occurrence_of, run_text}
use Rattle.ls_report.proofs.CutLemmas.{none_is, some_is}
use Rattle.ls_report.proofs.Unique.{one_history}
use Rattle.ls_text_laws.specs.Histories.{IsReadable}

-- what happened, without the names
happened : Occurrence → Happening
happened (Made object class values) = happenings.Called
happened (Called object method values) = happenings.Called
happened (Returned value) = happenings.Returned value
happened (Trapped kind) = happenings.Trapped kind

happened_is : (p : Program) (call : ProgramCall) (h : Happening) → happened (occurrence_of p call h) ≡ h
unfolding happened
happened_is p (Making name class class_name values) happenings.Called = refl
happened_is p (Calling name method method_name result values) happenings.Called = refl
happened_is p call (happenings.Returned value) = refl
happened_is p call (happenings.Trapped kind) = refl

-- the thread and the call of an event with names
record HasNames (p : Program) (e : RunEvent) (x : Event) : Type 0 where
  thread : ThreadProgram
  call : ProgramCall
  there : slice_get p.threads e.thread ≡ Some thread
  is : event_of p thread e call ≡ x

has_names : (p : Program) (e : RunEvent) (x : Event) → named p e ≡ Some x → HasNames p e x
has_names p e x h = by_thread (slice_get p.threads e.thread) refl h
  where
    by_call : (t : ThreadProgram)
        → slice_get p.threads e.thread ≡ Some t
        → (o : Option ProgramCall)
        → option_map (event_of p t e) o ≡ Some x
        → HasNames p e x
    by_call t there None k = absurd (none_is k)
    by_call t there (Some c) k = record { thread = t; call = c; there = there; is = some_is k }

    by_thread : (o : Option ThreadProgram) → slice_get p.threads e.thread ≡ o
        → option_and_then (λ t. option_map (event_of p t e) (slice_get t.calls (e.call - 1))) o ≡ Some x
        → HasNames p e x
    by_thread None there k = absurd (none_is k)
    by_thread (Some t) there k = by_call t there (slice_get t.calls (e.call - 1)) k

first_is : {X : Type 0} {x y : X} {xs ys : List X} → x ∷ xs ≡ y ∷ ys → x ≡ y
first_is e = cc

rest_is : {X : Type 0} {x y : X} {xs ys : List X} → x ∷ xs ≡ y ∷ ys → xs ≡ ys
rest_is e = cc

not_empty : {X : Type 0} {x : X} {xs : List X} → [] ≡ x ∷ xs → ⊥
not_empty e = cc

module _ (p : Program) (once : (i j : ℕ) (t u : ThreadProgram) → slice_get p.threads i ≡ Some t →
    slice_get p.threads j ≡ Some u → t.name ≡ u.name → i ≡ j) where
  same_event : (e f : RunEvent) (x : Event) → named p e ≡ Some x → named p f ≡ Some x → e ≡ f
  same_event e f x h k =
      let a = has_names p e x h in
      let b = has_names p f x k in
      let same : event_of p a.thread e a.call ≡ event_of p b.thread f b.call = a.is ∙ sym b.is in
      let thread : e.thread ≡ f.thread = once e.thread f.thread a.thread b.thread a.there b.there
      (ap (λ (z : Event). z.thread) same) in
      let call : e.call ≡ f.call = ap (λ (z : Event). z.call) same in
      let happening : e.happening ≡ f.happening =
      sym (happened_is p a.call e.happening) ∙ ap (λ (z : Event). happened z.occurrence) same ∙
      happened_is p b.call f.happening in
      λ i. record { thread = thread i; call = call i; happening = happening i }

  same_events : (es fs : List RunEvent) (xs : List Event)
      → map (named p) es ≡ map Some xs
      → map (named p) fs ≡ map Some xs
      → es ≡ fs
  same_events [] [] xs h k = refl
  same_events [] (f ∷ fs) [] h k = absurd (not_empty (sym k))
  same_events [] (f ∷ fs) (x ∷ xs) h k = absurd (not_empty h)
  same_events (e ∷ es) fs [] h k = absurd (not_empty (sym h))
  same_events (e ∷ es) [] (x ∷ xs) h k = absurd (not_empty k)
  same_events (e ∷ es) (f ∷ fs) (x ∷ xs) h k =
      let one : e ≡ f = same_event e f x (first_is h) (first_is k) in
      let rest : es ≡ fs = same_events es fs xs (rest_is h) (rest_is k) in
      λ i. one i ∷ rest i

  -- the text is read as one history, and its events are of one run
  pub told_apart : (g h : List RunEvent)
      → IsReadable p g
      → IsReadable p h
      → length (run_text p g) < 2 ^ 64
      → run_text p g ≡ run_text p h
      → g ≡ h
  told_apart g h a b fits same =
      let one : b.events ≡ a.events =
      one_history (run_text p g) a.events b.events fits a.says.history a.says.lines
      (record { history = b.says.history; lines = same ∙ b.says.lines }) in
      same_events g h a.events a.is_named (b.is_named ∙ ap (map Some) one)
