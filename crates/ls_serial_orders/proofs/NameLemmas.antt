-- Events and the names of their calls.
use Rattle.std.proofs.Common.{◌≡◌, ◌∙◌, ◌+◌, ◌-◌, ◌++◌, ◌<◌, ◌≤◌, ℕ, List, [], ◌∷◌, Option, Some, None, map, length}
use Rattle.std.proofs.Common.{take}
use Rattle.std.proofs.Common.{slice_get, slice_index_or, refl, sym, ap, ap₂, subst, arith, zero, suc, below_more}
use Rattle.std.specs.Prelude.{option_map}
use Rattle.std.specs.Option.{option_map_or}
use Rattle.std.proofs.lemmas.List.{map_push, take_more}
use Rattle.std.proofs.lemmas.Option.{option_and_then_some, slice_get_within}
use Rattle.ls_events.specs.declared.event.Event.{Event as RunEvent}
use Rattle.ls_events.specs.declared.event.Happening.{Happening}
use Rattle.ls_checked.specs.CheckedProgram.{Program, ProgramCall, ThreadProgram}
use Rattle.ls_report.specs.Events.{Event}
use Rattle.ls_report.specs.Lines.{history_text, line}
use Rattle.ls_report.specs.Printing.{event_of, named, run_text}
use Rattle.ls_serial_orders.specs.Named.{AreNamed, HasName, IsForeign, event_in}
use Rattle.ls_serial.proofs.Lists.{get_is, some_is}

module _ (p : Program) where
  -- the text of events is that of their names
  pub same_text : (run : List RunEvent) (events : List Event) →
      AreNamed p run events →
      run_text p run ≡ history_text events
  same_text [] [] h = refl
  same_text [] (e ∷ es) h = absurd (cc)
  same_text (r ∷ rs) [] h = absurd (cc)
  same_text (r ∷ rs) (e ∷ es) h =
      ap₂ (λ a b. a ++ b) (ap (λ o. option_map_or line o []) (first h)) (same_text rs es (later h))
    where
      first : named p r ∷ map (named p) rs ≡ Some e ∷ map Some es → named p r ≡ Some e
      first h = cc

      later : named p r ∷ map (named p) rs ≡ Some e ∷ map Some es → map (named p) rs ≡ map Some es
      later h = cc

  -- one event more
  pub named_more : (run : List RunEvent) (r : RunEvent) (front : List Event) (e : Event) →
      AreNamed p run front →
      named p r ≡ Some e →
      AreNamed p (run ++ r ∷ []) (front ++ e ∷ [])
  named_more run r front e h is =
      map_push (named p) run r ∙ ap₂ (λ xs x. xs ++ x ∷ []) h is ∙ sym (map_push Some front e)

  -- the named event at the place of one of a run
  pub event_there : (run : List RunEvent) (events : List Event) (at : ℕ) (r : RunEvent) →
      AreNamed p run events →
      slice_get run at ≡ Some r →
      (e : Event) × (slice_get events at ≡ Some e) × (named p r ≡ Some e)
  event_there [] events at r h there = absurd (cc)
  event_there (x ∷ rs) [] at r h there = absurd (cc)
  event_there (x ∷ rs) (y ∷ es) zero r h there = (y, refl, first h there)
    where
      first : named p x ∷ map (named p) rs ≡ Some y ∷ map Some es → Some x ≡ Some r → named p r ≡ Some y
      first h there = cc
  event_there (x ∷ rs) (y ∷ es) (suc at) r h there = event_there rs es at r (later h) there
    where
      later : named p x ∷ map (named p) rs ≡ Some y ∷ map Some es → map (named p) rs ≡ map Some es
      later h = cc

  -- ---- events of no thread

  -- the same event, by its call
  name_of : (t : ThreadProgram) (r : RunEvent) (e : Event) (o : Option ProgramCall) →
      option_map (event_of p t r) o ≡ Some e →
      option_map (event_of p t (record { thread = 0; call = r.call; happening = r.happening })) o ≡ Some e
  name_of t r e None h = h
  name_of t r e (Some c) h = h

  call_same : (t : ThreadProgram) (r : RunEvent) (e : Event) (o : Option ProgramCall) →
      option_map (event_of p t r) o ≡ Some e →
      r.call ≡ e.call
  call_same t r e None h = absurd (cc)
  call_same t r e (Some c) h = ap (λ (x : Event). x.call) (some_is h)

  -- one thread more of which it is no event
  pub foreign_more : (n : ℕ) (t : ThreadProgram) (e : Event) →
      slice_get p.threads n ≡ Some t →
      ((h : Happening) → HasName p t h e → ⊥) →
      ((k : ℕ) → k < n → (t : ThreadProgram) (h : Happening) → slice_get p.threads k ≡ Some t → HasName p t h e → ⊥) →
      (k : ℕ) → k < n + 1 → (t : ThreadProgram) (h : Happening) → slice_get p.threads k ≡ Some t → HasName p t h e → ⊥
  foreign_more n t e there none before =
      below_more (λ k. (t : ThreadProgram) (h : Happening) → slice_get p.threads k ≡ Some t → HasName p t h e → ⊥) n
      before (λ u h is name. none h (subst (λ x. HasName p x h e) (some_is (sym is ∙ there)) name))

  -- an event of none of the threads
  pub foreign_all : (n : ℕ) (e : Event) →
      length p.threads ≤ n →
      ((k : ℕ) → k < n → (t : ThreadProgram) (h : Happening) → slice_get p.threads k ≡ Some t → HasName p t h e → ⊥) →
      IsForeign p e
  foreign_all n e le none r is =
      option_and_then_some (λ t. option_map (event_of p t r) (slice_get t.calls (r.call - 1)))
      (slice_get p.threads r.thread) e is (λ t there named.
      let same = call_same t r e (slice_get t.calls (r.call - 1)) named in
      let within = slice_get_within p.threads r.thread t there in
      none r.thread (omega (arith, le, within)) t r.happening there
      (subst (λ (n : ℕ). event_in p t r.happening n ≡ Some e) same
      (name_of t r e (slice_get t.calls (r.call - 1)) named)))

-- an element of a list of images
module _ {A B : Type 0} (f : A → B) where
  pub get_map : (xs : List A) (i : ℕ) (x : A) →
      i < length xs →
      x ≡ slice_index_or xs i x →
      slice_get (map f xs) i ≡ Some (f x)
  get_map [] i x lt is = absurd (omega arith)
  get_map (y ∷ ys) zero x lt is = ap (λ z. Some (f z)) (sym is)
  get_map (y ∷ ys) (suc i) x lt is = get_map ys i x (omega arith) is

-- one element more
pub take_one : (xs : List Event) (i : ℕ) (x : Event) → slice_get xs i ≡ Some x → take (i + 1) xs ≡ take i xs ++ x ∷ []
take_one xs i x h =
    take_more xs i x (slice_get_within xs i x h) ∙ ap (λ y. take i xs ++ y ∷ []) (get_is xs i x x h)
