-- Histories of programs of set calls: each event is one of a call, and all calls are set calls on one object.
use Rattle.std.proofs.lemmas.Option.{none-some}
use Rattle.ls_serial.proofs.Lists.{some_is}
use Rattle.std.proofs.Common.{◌≡◌, ◌⊎◌, inl, inr, ◌∙◌, ◌+◌, ◌-◌, ◌≤◌, ◌||◌, not, ℕ, suc, Bool, true, false, List, []}
use Rattle.std.proofs.Common.{◌∷◌, ◌++◌}
use Rattle.std.proofs.Common.{map, Option, Some, None, Contains, refl, sym, ap, ap₂, subst, arith}
use Rattle.std.specs.Prelude.{is_some, option_map, slice_get, if◌then◌else◌}
use Rattle.std.specs.Option.{option_and_then}
use Rattle.std.specs.Str.{bytes_eq}
use Rattle.std.proofs.lemmas.Slice.Eq.{bytes_eq-Decides}
use Rattle.std.proofs.lemmas.List.Elements.{Contains-append_cases}
use Rattle.ls_events.specs.declared.value.Value.{Value}
use Rattle.ls_events.specs.declared.event.Event.{Event as RunEvent}
use Rattle.ls_events.specs.declared.action.Action.{Action}
use Rattle.ls_events.specs.declared.action.Action.TheVariants as act
use Rattle.ls_checked.specs.CheckedTree.{File}
use Rattle.ls_checked.specs.CheckedProgram.{Program, ProgramCall, ThreadProgram, Making, Calling}
use Rattle.ls_meaning.specs.declared.sort.Sort.{Sort}
use Rattle.ls_meaning.specs.Course.{Answers, Evaluated, Asks, Results, Throws}
use Rattle.ls_meaning.specs.Effect.{Does, Effect, Waits, effect}
use Rattle.ls_meaning.specs.Threads.{Ended, Goes, Next, Trapped, after_call, all_calls, calls_in, next, one_call}
use Rattle.ls_meaning.specs.Runs.{State, answers_of, event_of, has_started, idle, performed, source_history, step}
use Rattle.ls_meaning.specs.Runs.{step_of}
use Rattle.ls_search_laws.specs.Stepping.{events_in, events_of}
use Rattle.ls_search_laws.proofs.Covering.{IsKept, holds_of_all}
use Rattle.ls_serial_search.proofs.Further.{Further, IsLoud, body_of_call}
use Rattle.ls_linearizable.proofs.There.{there_cases, there_first, there_later, there_not}
use Rattle.ls_report.specs.Events.{Event, Made, Called, Returned, Trapped, Occurrence, Text}
use Rattle.ls_report.specs.Printing as printing
use Rattle.ls_report.specs.Printing.{named, object_name, occurrence_of}
use Rattle.ls_orders.specs.SetCalls.{Asked, asked_of, first_after, foreign_from, is_foreign}
use Rattle.ls_legal_laws.specs.Laws.{AreNamed}

goes_not : {a : Action Value} {sort : Sort} → Goes a sort ≡ Ended → ⊥
goes_not e = cc

loud : (t : ℕ) (a : Action Value) (e : RunEvent) → event_of t a ≡ Some e → IsLoud a
loud t (act.Call n) e is = tt
loud t (act.Return n v) e is = tt
loud t (act.Trap n k) e is = tt
loud t _ e is = absurd (none-some _ is)

-- the event is of one of these calls, numbered from n on
record IsOneOf (t n : ℕ) (cs : List ProgramCall) (e : RunEvent) : Type 0 where
  thread : e.thread ≡ t
  i : ℕ
  number : e.call ≡ n + i
  call : ProgramCall
  there : slice_get cs i ≡ Some call

module _ (f : File) (program : Program) where
  abbrev IsDue : ℕ → Next → RunEvent → Type 0
  IsDue t (Goes a s) e = event_of t a ≡ Some e
  IsDue t Ended e = ⊥
  IsDue t Trapped e = ⊥

  module _ (t : ℕ) (e : RunEvent) where
    first_of : (n : ℕ) (c : ProgramCall) (cs : List ProgramCall) (d : RunEvent) → d ≡ e → d.thread ≡ t → d.call ≡ n →
        IsOneOf t n (c ∷ cs) e
    first_of n c cs d same a b = record {
      thread = ap (λ (z : RunEvent). z.thread) (sym same) ∙ a;
      i = 0;
      number = let p : e.call ≡ n = ap (λ (z : RunEvent). z.call) (sym same) ∙ b in omega (arith, p);
      call = c;
      there = refl;
    }

    later_of : (n : ℕ) (c : ProgramCall) (cs : List ProgramCall) → IsOneOf t (n + 1) cs e → IsOneOf t n (c ∷ cs) e
    later_of n c cs x = record {
      thread = x.thread;
      i = suc x.i;
      number = let p = x.number in omega (arith, p);
      call = x.call;
      there = x.there;
    }

    after_due : (n : ℕ) (c : ProgramCall) (cs : List ProgramCall) (x y : Evaluated (Option Value))
        (go : Answers → Next) → Further [] x y →
        ((r : Answers) → IsDue t (go r) e → IsOneOf t (n + 1) cs e) → IsDue t (after_call n x go) e →
        IsOneOf t n (c ∷ cs) e
    after_due n c cs (Asks a s) y go w on due = absurd (w.is (loud t a e due))
    after_due n c cs (Results v []) y go w on due = first_of n c cs _ (some_is due) refl refl
    after_due n c cs (Results v (z ∷ rest)) y go w on due = later_of n c cs (on rest due)
    after_due n c cs (Throws k []) y go w on due = first_of n c cs _ (some_is due) refl refl
    after_due n c cs (Throws k (z ∷ rest)) y go w on due = absurd due

    due_call : (n : ℕ) (cs : List ProgramCall) (q : Answers) → IsDue t (all_calls f program n cs q) e → IsOneOf t n cs e
    due_call n [] q due = absurd due
    due_call n (Making name c text vs ∷ cs) [] due = first_of n _ cs _ (some_is due) refl refl
    due_call n (Calling name m text result vs ∷ cs) [] due = first_of n _ cs _ (some_is due) refl refl
    due_call n (c ∷ cs) (y ∷ q) due =
        after_due n c cs (one_call f program n c (y ∷ q)) (one_call f program n c (y ∷ q ++ []))
        (all_calls f program (n + 1) cs)
        (body_of_call [] f program n c y q) (λ r. due_call (n + 1) cs r) due

  -- ---- each event of a history

  abbrev calls : ℕ → List ProgramCall
  calls t = calls_in (slice_get program.threads t)

  pub record IsOfCall (e : RunEvent) : Type 0 where
    pub positive : 1 ≤ e.call
    pub call : ProgramCall
    pub there : slice_get (calls e.thread) (e.call - 1) ≡ Some call

  of_call : (t : ℕ) (e : RunEvent) → IsOneOf t 1 (calls t) e → IsOfCall e
  of_call t e x = record {
    positive = let p = x.number in omega (arith, p);
    call = x.call;
    there =
        let p = x.number in
        let place : e.call - 1 ≡ x.i = omega (arith, p) in
        ap₂ (λ u k. slice_get (calls u) k) x.thread place ∙ x.there;
  }

  in_events : (t : ℕ) (o : Option RunEvent) (e : RunEvent) → Contains (events_in o) e → o ≡ Some e
  in_events t None e there = absurd (there_not e there)
  in_events t (Some x) e there = by_place (there_cases x e [] there)
    where
      by_place : (x ≡ e) ⊎ Contains [] e → Some x ≡ Some e
      by_place (inl same) = ap Some same
      by_place (inr none) = absurd (there_not e none)

  by_effect : (s : State) (t : ℕ) (a : Action Value) (x : Effect) (e : RunEvent) →
      Contains (events_of t (performed s t a x).did) e →
      event_of t a ≡ Some e
  by_effect s t a Waits e there = absurd (there_not e there)
  by_effect s t a (Does st y) e there = in_events t (event_of t a) e there

  by_next : (s : State) (t : ℕ) (b : Bool) (n : Next) (e : RunEvent) →
      Contains (events_of t (if b then step_of f s t n else idle s).did) e → IsDue t n e
  by_next s t false n e there = absurd (there_not e there)
  by_next s t true (Goes a sort) e there = by_effect s t a (effect f.classes s.store t a) e there
  by_next s t true Ended e there = absurd (there_not e there)
  by_next s t true Trapped e there = absurd (there_not e there)

  step_event : (s : State) (t : ℕ) (e : RunEvent) → Contains (events_of t (step f program s t).did) e → IsOfCall e
  step_event s t e there = of_call t e (due_call t e 1 (calls t) (answers_of s t)
      (by_next s t (has_started f program s t) (next f program t (answers_of s t)) e there))

  abbrev AllOfCalls : State → List RunEvent → Type 0
  AllOfCalls s h = (e : RunEvent) → Contains h e → IsOfCall e

  kept : IsKept f program AllOfCalls
  kept s h t holds acts e there = by_place (Contains-append_cases h (events_of t (step f program s t).did) e there)
    where
      by_place : Contains h e ⊎ Contains (events_of t (step f program s t).did) e → IsOfCall e
      by_place (inl old) = holds e old
      by_place (inr new) = step_event s t e new

  -- each event of a history is of a call of its thread
  pub of_calls : (schedule : List ℕ) (e : RunEvent) → Contains (source_history f program schedule) e → IsOfCall e
  of_calls schedule = holds_of_all f program AllOfCalls kept (λ e there. absurd (there_not e there)) schedule

  -- ---- names

  name_there : (e : RunEvent) → IsOfCall e → (x : Event) × (named program e ≡ Some x)
  name_there e o = by_thread (slice_get program.threads e.thread) refl o.there
    where
      by_thread : (t : Option ThreadProgram) → slice_get program.threads e.thread ≡ t →
          slice_get (calls_in t) (e.call - 1) ≡ Some o.call → (x : Event) × (named program e ≡ Some x)
      by_thread None at there = absurd (none-some _ there)
      by_thread (Some t) at there = (
        printing.event_of program t e o.call,
        ap (option_and_then (λ t. option_map (printing.event_of program t e) (slice_get t.calls (e.call - 1)))) at
            ∙ ap (option_map (printing.event_of program t e)) there,
      )

  names_there : (h : List RunEvent) → ((e : RunEvent) → Contains h e → IsOfCall e) → (H : List Event)
      × AreNamed program h H
  names_there [] all = ([], refl)
  names_there (e ∷ h) all =
      let x = name_there e (all e (there_first e h)) in
      let r = names_there h (λ d there. all d (there_later e d h there)) in
      (x.0 ∷ r.0, ap (λ z. z ∷ map (named program) h) x.1 ∙ ap (λ l. Some x.0 ∷ l) r.1)

  -- all events of a history have names
  pub all_named : (schedule : List ℕ) → (H : List Event) × AreNamed program (source_history f program schedule) H
  all_named schedule = names_there (source_history f program schedule) (of_calls schedule)

-- ---- one set

-- the occurrence is no call of another kind
abbrev pub IsFine : Text → Occurrence → Type 0
IsFine o (Made object class args) = ⊥
IsFine o (Called object method args) = (object ≡ o) × (a : Asked) × (asked_of (Called object method args) ≡ Some a)
IsFine o (Returned v) = Unit {0}
IsFine o (Trapped k) = Unit {0}

-- no event is a call of another kind, or on another object
abbrev pub AllFine : Text → List Event → Type 0
AllFine o [] = Unit {0}
AllFine o (x ∷ xs) = IsFine o x.occurrence × AllFine o xs

abbrev pub IsFirst : Text → Option Text → Type 0
IsFirst o None = Unit {0}
IsFirst o (Some f) = f ≡ o

own_name : (o object : Text) → object ≡ o → not (bytes_eq o object) ≡ false
own_name o object e = ap not ((bytes_eq-Decides o object).1 (sym e))

not_foreign : (o : Text) (first : Option Text) (x : Occurrence) → IsFirst o first → IsFine o x →
    is_foreign first x ≡ false
not_foreign o first (Made object class args) f fine = absurd fine
not_foreign o None (Called object method args) f fine =
    ap (λ a. not (is_some a) || false) fine.2
not_foreign o (Some g) (Called object method args) f fine =
    ap₂ (λ a b. not (is_some a) || b) fine.2 (ap (λ h. not (bytes_eq h object)) f ∙ own_name o object fine.0)
not_foreign o first (Returned v) f fine = refl
not_foreign o first (Trapped k) f fine = refl

first_later : (o : Text) (first : Option Text) (x : Occurrence) → IsFirst o first → IsFine o x →
    IsFirst o (first_after first x)
first_later o (Some g) x f fine = f
first_later o None (Made object class args) f fine = absurd fine
first_later o None (Called object method args) f fine =
    subst (λ a. IsFirst o (option_map (λ (b : Asked). object) a)) (sym fine.2) fine.0
first_later o None (Returned v) f fine = tt
first_later o None (Trapped k) f fine = tt

-- so all calls are set calls on one object
pub none_foreign : (o : Text) (first : Option Text) (xs : List Event) → IsFirst o first → AllFine o xs →
    foreign_from first xs ≡ None
none_foreign o first [] f fine = refl
none_foreign o first (x ∷ xs) f fine =
    ap (λ b. if b then Some x else foreign_from (first_after first x.occurrence) xs)
    (not_foreign o first x.occurrence f fine.0)
    ∙ none_foreign o (first_after first x.occurrence) xs (first_later o first x.occurrence f fine.0) fine.1
