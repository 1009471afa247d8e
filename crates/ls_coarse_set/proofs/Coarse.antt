-- The list with one lock is a set: serial histories are legal, and so is what they explain.
use Rattle.std.proofs.lemmas.Option.{none-some}
use Rattle.ls_serial.proofs.Lists.{some_is}
use Rattle.std.proofs.Common.{◌≡◌, ◌⊎◌, inl, inr, ◌∙◌, ◌+◌, ◌-◌, ◌≤◌, ℕ, zero, suc, List, [], ◌∷◌, ◌++◌}
use Rattle.std.proofs.Common.{map, Option, Some, None, Contains, refl, sym, ap, ap₂, subst, arith}
use Rattle.std.specs.Prelude.{slice_get, slice_index_or}
use Rattle.ls_events.specs.declared.value.Value.{Value}
use Rattle.ls_events.specs.declared.value.Value.TheVariants as values
use Rattle.ls_events.specs.declared.value.ValueType.{ValueType}
use Rattle.ls_events.specs.declared.event.Event.{Event as RunEvent}
use Rattle.ls_events.specs.declared.event.Happening.{Happening}
use Rattle.ls_events.specs.declared.event.Happening.TheVariants as happenings
use Rattle.ls_events.specs.declared.action.Action.{Action}
use Rattle.ls_events.specs.declared.action.Action.TheVariants as act
use Rattle.ls_events.specs.declared.action.Answer.TheVariants.{Done as Did}
use Rattle.ls_checked.specs.CheckedProgram.{Program, ProgramCall, ThreadProgram, Making, Calling, SetupName}
use Rattle.ls_meaning.specs.declared.sort.Sort.{Sort}
use Rattle.ls_meaning.specs.declared.sort.Sort.TheVariants.{NoValue}
use Rattle.ls_meaning.specs.Course.{Answers}
use Rattle.ls_meaning.specs.Store.{Store}
use Rattle.ls_meaning.specs.Threads.{Ended, Goes, calls_in, next}
use Rattle.ls_meaning.specs.Runs.{State, Step, answers_of, source_history, source_run, step}
use Rattle.ls_search_laws.specs.Stepping.{events_of}
use Rattle.ls_search_laws.proofs.Covering.{IsKept, holds_of_all}
use Rattle.ls_serial.specs.Serial.{IsSerial}
use Rattle.ls_serial.proofs.Lists.{contains_get}
use Rattle.ls_linearizable.specs.Once.{AreOnce}
use Rattle.ls_linearizable.proofs.There.{there_first, there_later}
use Rattle.ls_automaton.proofs.Once.{once}
use Rattle.ls_report.specs.Events.{Event, Made, Returned, Text}
use Rattle.ls_report.specs.Printing.{named, occurrence_of}
use Rattle.ls_orders.specs.SetCalls.{first_foreign, set_calls}
use Rattle.ls_orders.specs.Legal.{IsRun, empty}
use Rattle.ls_explore_reports.specs.Verdicts.{HasLegalOrder}
use Rattle.ls_one_at_a_time.specs.CoarseList.{AreAllSetCalls, AreSetCalls, IsItem, file, of_list}
use Rattle.ls_one_at_a_time.proofs.CoarseLists.{coarse_lists}
use Rattle.ls_one_at_a_time.proofs.Standing.{acts_up, steps_so, up_ended}
use Rattle.ls_orders.specs.declared.calls.Operation.TheVariants as operations
use Rattle.ls_legal_laws.specs.Laws.{AreNamed, HasOwnNames}
use Rattle.ls_coarse_set.specs.Laws.{AllSmallSetCalls, AreSmallSetCalls, CheckedListIsASet, IsNameOf, IsSmallItem}
use Rattle.ls_legal_laws.proofs.Naming.{is_name}
use Rattle.ls_coarse_set.proofs.Deeds.{IsDoneBy, called, events_by, returned, told}
use Rattle.ls_coarse_set.proofs.Serial.{serial_is, small_calls}
use Rattle.ls_legal_laws.proofs.Ordered.{ordered}
use Rattle.ls_coarse_set.proofs.RunOfSet.{asked_is, run_of_deeds}
use Rattle.ls_coarse_set.proofs.Histories.{AllFine, IsFine, all_named, none_foreign, of_calls}
use Rattle.ls_legal_laws.proofs.Explained.{linearizable}

goes_not : {a : Action Value} {sort : Sort} → Goes a sort ≡ Ended → ⊥
goes_not e = cc

-- ---- small set calls are set calls

item : (vs : List Value) → IsSmallItem vs → IsItem vs
item [] a = absurd a
item (values.Int z ∷ []) a = tt
item (values.Int z ∷ v ∷ vs) a = absurd a
item (values.Boolean b ∷ vs) a = absurd a
item (values.Reference n ∷ vs) a = absurd a
item (values.Pair n m ∷ vs) a = absurd a

method : (m : ℕ) (text : Text) → IsNameOf m text → (m ≡ 2) ⊎ ((m ≡ 3) ⊎ (m ≡ 4))
method m text (inl e) = inl e.0
method m text (inr (inl e)) = inr (inl e.0)
method m text (inr (inr e)) = inr (inr e.0)

pub are_set_calls : (cs : List ProgramCall) → AreSmallSetCalls cs → AreSetCalls cs
are_set_calls [] a = tt
are_set_calls (Making n c text vs ∷ cs) a = absurd a
are_set_calls (Calling n m text result vs ∷ cs) a = (a.0, method m text a.1, item vs a.2, are_set_calls cs a.3)

pub all_set_calls : (ts : List ThreadProgram) → AllSmallSetCalls ts → AreAllSetCalls ts
all_set_calls [] a = tt
all_set_calls (t ∷ ts) a = (are_set_calls t.calls a.0, all_set_calls ts a.1)

abbrev IsSmallCall : ProgramCall → Type 0
IsSmallCall (Making n c text vs) = ⊥
IsSmallCall (Calling n m text result vs) = (n ≡ 0) × IsNameOf m text × IsSmallItem vs

small_at : (cs : List ProgramCall) → AreSmallSetCalls cs → (k : ℕ) (c : ProgramCall) → slice_get cs k ≡ Some c →
    IsSmallCall c
small_at [] a k c there = absurd (none-some _ there)
small_at (Making n d text vs ∷ cs) a k c there = absurd a
small_at (Calling n m text result vs ∷ cs) a zero c there = subst IsSmallCall (some_is there) (a.0, a.1, a.2)
small_at (Calling n m text result vs ∷ cs) a (suc k) c there = small_at cs a.3 k c there

module _ (name : SetupName) (text setup : List ℕ) (more : List ProgramCall) (threads : List ThreadProgram)
    (small_more : AreSmallSetCalls more) (small_threads : AllSmallSetCalls threads) where
  abbrev program : Program
  program = of_list name text setup more threads

  abbrev calls : ℕ → List ProgramCall
  calls t = calls_in (slice_get program.threads t)

  -- ---- the first event

  abbrev First : State → List RunEvent → Type 0
  First s h = ((h ≡ []) × ((u : ℕ) → answers_of s u ≡ [])) ⊎ ((rest : List RunEvent) × (h ≡ called 0 1 ∷ rest))

  first_kept : IsKept file program First
  first_kept s h t (inr x) acts = inr (
    x.0 ++ events_of t (step file program s t).did,
    ap (λ l. l ++ events_of t (step file program s t).did) x.1,
  )
  first_kept s h zero (inl x) acts =
      inr (
        [],
        ap₂ (λ l (p : Step). l ++ events_of 0 p.did) x.0
            (steps_so file program s 0 (act.Call 1) NoValue s.store Did (acts_up file program s 0 acts)
            (ap (next file program 0) (x.1 0)) refl),
      )
  first_kept s h (suc t) (inl x) acts = absurd (goes_not (sym (ap (next file program 0) (x.1 0))
      ∙ up_ended file program s (suc t) (λ e. absurd (omega (arith, e))) (acts_up file program s (suc t) acts)))

  none_yet : (xs : List ThreadProgram) (k : ℕ) → slice_index_or {A = Answers} (map (λ t. []) xs) k [] ≡ []
  none_yet [] k = refl
  none_yet (x ∷ xs) zero = refl
  none_yet (x ∷ xs) (suc k) = none_yet xs k

  abbrev history : List ℕ → List RunEvent
  history schedule = source_history file program schedule

  begins : (schedule : List ℕ) → (history schedule ≡ [])
      ⊎ ((rest : List RunEvent) × (history schedule ≡ called 0 1 ∷ rest))
  begins schedule = by_first (holds_of_all file program First first_kept
      (inl (refl, none_yet program.threads)) schedule)
    where
      by_first : First (source_run file program schedule) (history schedule) →
          (history schedule ≡ []) ⊎ ((rest : List RunEvent) × (history schedule ≡ called 0 1 ∷ rest))
      by_first (inl x) = inl x.0
      by_first (inr x) = inr x

  -- ---- all calls are set calls on one object

  small_of : (t k : ℕ) (c : ProgramCall) → slice_get (calls t) k ≡ Some c → ((t ≡ 0) × (k ≡ 0)) ⊎ IsSmallCall c
  small_of zero zero c there = inl (refl, refl)
  small_of zero (suc k) c there = inr (small_at more small_more k c there)
  small_of (suc t) k c there = inr (small_at (calls (suc t))
      (small_calls name text setup more threads small_more small_threads (suc t) (λ e. absurd (omega (arith, e)))) k c
      there)

  same_event : (e : RunEvent) → e.thread ≡ 0 → e.call ≡ 1 → e.happening ≡ happenings.Called → e ≡ called 0 1
  same_event e a b c = built e.thread e.call e.happening a b c
    where
      built : (t n : ℕ) (h : Happening) → t ≡ 0 → n ≡ 1 → h ≡ happenings.Called →
          record { thread = t; call = n; happening = h } ≡ called 0 1
      built t n h a b c = cc

  fine_values : (n m : ℕ) (word : Text) (vs : List Value) → n ≡ 0 → IsNameOf m word → IsSmallItem vs →
      (result : Option ValueType) → IsFine name.name
      (occurrence_of program (Calling n m word result vs) happenings.Called)
  fine_values n m word [] zero' is_name small result = absurd small
  fine_values n m word (values.Int z ∷ []) zero' (inl e) small result = (
    ap (λ i. Rattle.ls_report.specs.Printing.object_name program i) zero',
    (operations.Add, z),
    asked_is operations.Add name.name word z e.1,
  )
  fine_values n m word (values.Int z ∷ []) zero' (inr (inl e)) small result = (
    ap (λ i. Rattle.ls_report.specs.Printing.object_name program i) zero',
    (operations.Remove, z),
    asked_is operations.Remove name.name word z e.1,
  )
  fine_values n m word (values.Int z ∷ []) zero' (inr (inr e)) small result = (
    ap (λ i. Rattle.ls_report.specs.Printing.object_name program i) zero',
    (operations.Contains, z),
    asked_is operations.Contains name.name word z e.1,
  )
  fine_values n m word (values.Int z ∷ v ∷ vs) zero' is_name small result = absurd small
  fine_values n m word (values.Boolean b ∷ vs) zero' is_name small result = absurd small
  fine_values n m word (values.Reference r ∷ vs) zero' is_name small result = absurd small
  fine_values n m word (values.Pair r b ∷ vs) zero' is_name small result = absurd small

  fine_call : (c : ProgramCall) (h : Happening) → (h ≡ happenings.Called → IsSmallCall c) →
      IsFine name.name (occurrence_of program c h)
  fine_call c (happenings.Returned v) small = tt
  fine_call c (happenings.Trapped k) small = tt
  fine_call (Making n d word vs) happenings.Called small = absurd (small refl)
  fine_call (Calling n m word result vs) happenings.Called small =
      let a = small refl in fine_values n m word vs a.0 a.1 a.2 result

  fine_event : (e : RunEvent) (x : Event) → named program e ≡ Some x → 1 ≤ e.call → (e ≡ called 0 1 → ⊥) →
      IsFine name.name x.occurrence
  fine_event e x is positive apart =
      let n = is_name program e x is in
      subst (λ (z : Event). IsFine name.name z.occurrence) (sym n.is) (fine_call n.call e.happening
      (λ h. small n.call (small_of e.thread (e.call - 1) n.call
      (ap (λ t. slice_get (calls_in t) (e.call - 1)) n.at ∙ n.there)) h))
    where
      small : (c : ProgramCall) → ((e.thread ≡ 0) × (e.call - 1 ≡ 0)) ⊎ IsSmallCall c →
          e.happening ≡ happenings.Called → IsSmallCall c
      small c (inl z) h = absurd (apart (same_event e z.0 (let p = z.1 in omega (arith, p, positive)) h))
      small c (inr s) h = s

  all_fine : (rest : List RunEvent) (H : List Event) → AreNamed program rest H →
      ((e : RunEvent) → Contains rest e → (1 ≤ e.call) × (e ≡ called 0 1 → ⊥)) → AllFine name.name H
  all_fine [] [] is each = tt
  all_fine [] (x ∷ H) is each = absurd cc
  all_fine (e ∷ rest) [] is each = absurd cc
  all_fine (e ∷ rest) (x ∷ H) is each =
      let first : named program e ≡ Some x = cc in
      let a = each e (there_first e rest) in
      (fine_event e x first a.0 a.1, all_fine rest H (cc) (λ d there. each d (there_later e d rest there)))

  not_again : (rest : List RunEvent) → AreOnce (called 0 1 ∷ rest) → (e : RunEvent) → Contains rest e → e ≡ called 0 1 →
      ⊥
  not_again rest o e there same =
      let at = contains_get rest e there in
      let p = o e 0 (suc at.0) (ap Some (sym same)) at.1 in
      omega (arith, p)

  made_event : Event
  made_event = record { thread = setup; call = 1; occurrence = Made name.name text [] }

  one_set_of : (rest : List RunEvent) (H : List Event) → AreNamed program (called 0 1 ∷ rest) H →
      AreOnce (called 0 1 ∷ rest) →
      ((e : RunEvent) → Contains rest e → 1 ≤ e.call) → first_foreign H ≡ None
  one_set_of rest [] is o each = absurd cc
  one_set_of rest (x ∷ H) is o each =
      let first : named program (called 0 1) ≡ Some x = cc in
      let a : record { thread = setup; call = 1; occurrence = Made name.name text [] } ≡ x = some_is first in
      ap (λ z. first_foreign (z ∷ H)) (sym a)
      ∙ none_foreign name.name None H tt (all_fine rest H (cc) (λ e there. (each e there, not_again rest o e there)))

  none_of : (h : List RunEvent) (H : List Event) → h ≡ [] → AreNamed program h H → H ≡ []
  none_of h [] e is = refl
  none_of h (x ∷ H) e is = absurd
      (let b : map (named program) [] ≡ map Some (x ∷ H) = ap (map (named program)) (sym e) ∙ is in cc)

  one_set : (schedule : List ℕ) (H : List Event) → AreNamed program (history schedule) H → first_foreign H ≡ None
  one_set schedule H is = by_begins (begins schedule)
    where
      by_begins : (history schedule ≡ []) ⊎ ((rest : List RunEvent) × (history schedule ≡ called 0 1 ∷ rest)) →
          first_foreign H ≡ None
      by_begins (inl e) = ap first_foreign (none_of (history schedule) H e is)
      by_begins (inr x) = one_set_of x.0 H (sym (ap (map (named program)) x.1) ∙ is)
          (subst AreOnce x.1 (once file program schedule))
          (λ e there. (of_calls file program schedule e
          (subst (λ l. Contains l e) (sym x.1) (there_later (called 0 1) e x.0 there))).positive)

  -- ---- serial histories are legal

  run_of_told : (h : List RunEvent) (H : List Event) → AreNamed program h H →
      (d : (st : Store) × IsDoneBy program st h) → IsRun empty (set_calls H)
  run_of_told h H is d = by_events H (sym (ap (map (named program)) d.1.is) ∙ is)
    where
      by_events : (H : List Event) → AreNamed program (told d.1.deeds) H → IsRun empty (set_calls H)
      by_events [] is = absurd cc
      by_events (x ∷ []) is = absurd cc
      by_events (x ∷ y ∷ H) is =
          let first : named program (called 0 1) ≡ Some x = cc in
          let second : named program (returned 0 1 None) ≡ Some y = cc in
          let a : record { thread = setup; call = 1; occurrence = Made name.name text [] } ≡ x = some_is first in
          let b : record { thread = setup; call = 1; occurrence = Returned None } ≡ y = some_is second in
          let rest : AreNamed program (events_by d.1.deeds) H = cc in
          subst (IsRun empty) (ap₂ (λ u v. set_calls (u ∷ v ∷ H)) a b)
          (run_of_deeds program d.1.deeds H (0 + 1 + 1) empty [] d.1.items d.1.asked rest (λ i. refl) d.1.runs)

  module _ (own : HasOwnNames program) where
    serial_legal : (schedule : List ℕ) → IsSerial (history schedule) → HasLegalOrder program (history schedule)
    serial_legal schedule serial = (
      H.0,
      H.1,
      ordered program own (history schedule) H.0 H.1 (once file program schedule)
          (one_set schedule H.0 H.1) (by_end
          (serial_is name text setup more threads small_more small_threads schedule serial)),
    )
      where
        H : (H : List Event) × AreNamed program (history schedule) H
        H = all_named file program schedule

        by_end : (history schedule ≡ [])
            ⊎ IsDoneBy program (source_run file program schedule).store (history schedule) →
            IsRun empty (set_calls (all_named file program schedule).0)
        by_end (inl e) = subst (λ l. IsRun empty (set_calls l))
            (sym (none_of (history schedule) (all_named file program schedule).0 e (all_named file program schedule).1))
            tt
        by_end (inr d) = run_of_told (history schedule) (all_named file program schedule).0
            (all_named file program schedule).1
            ((source_run file program schedule).store, d)

    legal : (schedule : List ℕ) → HasLegalOrder program (history schedule)
    legal schedule =
        let H = all_named file program schedule in (
          H.0,
          H.1,
          linearizable file program own serial_legal (history schedule) H.0 H.1 (once file program schedule)
              (coarse_lists name text setup more threads (are_set_calls more small_more)
              (all_set_calls threads small_threads) schedule)
              (one_set schedule H.0 H.1),
        )

-- the law
pub checked_list_is_a_set : CheckedListIsASet
checked_list_is_a_set name text setup more threads small_more small_threads own schedule =
    legal name text setup more threads small_more small_threads own schedule
