-- The course of a call of a synchronized method: its event, the read of the setup name, the entering, the lock, the
-- body, the unlock, and the end.
use Rattle.std.proofs.Common.{◌≡◌, ◌⊎◌, inl, inr, ℕ, ◌<◌, List, [], ◌∷◌, ◌++◌, length, map, drop, Option}
use Rattle.std.proofs.Common.{Some, None, refl, sym, ap, ◌∙◌, subst, arith, length-append, length-drop, slice_set}
use Rattle.std.proofs.Common.{get_or-set_same, append-nil, append_assoc}
use Rattle.std.specs.Prelude.{slice_get, slice_index_or, nat_eq, false}
use Rattle.std.proofs.lemmas.List.{length-map}
use Rattle.ls_events.specs.declared.kind.Kind.{Kind}
use Rattle.ls_events.specs.declared.action.Action.{Action}
use Rattle.ls_events.specs.declared.action.Action.TheVariants as act
use Rattle.ls_events.specs.declared.action.Answer.{Answer}
use Rattle.ls_events.specs.declared.action.Answer.TheVariants.{Done, Gives}
use Rattle.ls_events.specs.declared.value.Value.{Value}
use Rattle.ls_events.specs.declared.value.Value.TheVariants.{Reference}
use Rattle.ls_events.specs.declared.value.ValueType.{ValueType}
use Rattle.ls_checked.specs.declared.tree.Called.TheVariants.{FreeMonitor}
use Rattle.ls_checked.specs.CheckedTree.{File, Slot, Call, End, Evaluate}
use Rattle.ls_checked.specs.CheckedTree as checked
use Rattle.ls_checked.specs.CheckedProgram.{Program, ProgramCall, Calling}
use Rattle.ls_meaning.specs.declared.sort.Sort.{Sort}
use Rattle.ls_meaning.specs.declared.sort.Sort.TheVariants.{NoValue}
use Rattle.ls_meaning.specs.declared.completion.Completion.{Completion}
use Rattle.ls_meaning.specs.declared.completion.Completion.TheVariants.{Normal, Broke, Continued, Returned, Threw}
use Rattle.ls_meaning.specs.Values.{nothing, start_of}
use Rattle.ls_meaning.specs.Course.{Answers, Evaluated, Asks, Results, Throws, tell, with_value}
use Rattle.ls_meaning.specs.Expressions.{Calls}
use Rattle.ls_meaning.specs.Statements.{Executed, AsksFor, Completes, then_do, finally_do, execute, execute_all}
use Rattle.ls_meaning.specs.Methods.{leave, run_body, frame, invoke, depth_limit, enter, answer_without}
use Rattle.ls_meaning.specs.Threads.{one_call, result_of, named}
use Rattle.ls_meaning.proofs.Shorter.{invoke_within}
use Rattle.ls_one_at_a_time.specs.Inner.{AreHelpers, IsSynchronized, synchronized_body}
use Rattle.ls_one_at_a_time.proofs.Onward.{IsCourseBy, GoesOnBy, IsKept, execute_course, invoke_course}

-- the answers up to the lock, and then more
abbrev pub locked : ℕ → Answers → Answers
locked o q = Done ∷ Gives (Reference o) ∷ Done ∷ Done ∷ q

-- a call that has ended leaves the answers that come more
abbrev pub EndsSo : (Answers → Evaluated (Option Value)) → Type 0
EndsSo f = ((v : Option Value) × ((rest : Answers) → f rest ≡ Results v rest))
    ⊎ ((k : Kind) × ((rest : Answers) → f rest ≡ Throws k rest))

-- the course of a call that holds a monitor round its whole body
pub record IsHeldRound (file : File) (program : Program) (o name n : ℕ) (c : ProgramCall) : Type 0 where
  pub method : ℕ
  pub sort : Sort
  pub slot : ℕ
  pub kept : Value
  pub inner : Answers → Executed
  pub course : (y : Answer Value) → IsCourseBy slot kept y inner
  pub call : one_call file program n c [] ≡ Asks (act.Call n) NoValue
  pub read : one_call file program n c (Done ∷ []) ≡ Asks (act.ReadName name) sort
  pub enter : one_call file program n c (Done ∷ Gives (Reference o) ∷ []) ≡ Asks (act.Enter method) NoValue
  pub lock : one_call file program n c (Done ∷ Gives (Reference o) ∷ Done ∷ []) ≡ Asks (act.LockMonitor o) NoValue
  pub inside : (q : Answers) (a : Action Value) (s : Sort) → inner q ≡ AsksFor a s →
      one_call file program n c (locked o q) ≡ Asks a s
  pub unlock : (q : Answers) (d : Completion Value) (ls : List Value) → inner q ≡ Completes d ls [] →
      one_call file program n c (locked o q) ≡ Asks (act.UnlockMonitor o) NoValue
  pub ends : (q : Answers) (d : Completion Value) (ls : List Value) → inner q ≡ Completes d ls [] →
      EndsSo (λ rest. one_call file program n c (locked o (q ++ Done ∷ rest)))

-- a course that has completed completes so with more answers
pub more_by : (slot : ℕ) (w : Value) (f : Answers → Executed) → ((y : Answer Value) → IsCourseBy slot w y f) →
    (more q r : Answers) (d : Completion Value) (ls : List Value) → f q ≡ Completes d ls r →
    f (q ++ more) ≡ Completes d ls (r ++ more)
more_by slot w f course [] q r d ls e = ap f (append-nil q) ∙ e ∙ ap (Completes d ls) (sym (append-nil r))
more_by slot w f course (y ∷ ys) q r d ls e =
    let g = subst (λ z. GoesOnBy slot w y z (f (q ++ y ∷ []))) e ((course y).on q).is in
    ap f (sym (append_assoc q (y ∷ []) ys))
    ∙ more_by slot w f course ys (q ++ y ∷ []) (r ++ y ∷ []) d ls g.0
    ∙ ap (Completes d ls) (append_assoc r (y ∷ []) ys)

-- and keeps its slot
pub kept_by : (slot : ℕ) (w : Value) (f : Answers → Executed) → ((y : Answer Value) → IsCourseBy slot w y f) →
    (q r : Answers) (d : Completion Value) (ls : List Value) → f q ≡ Completes d ls r → IsKept slot w ls
kept_by slot w f course q r d ls e = (subst (λ z. GoesOnBy slot w Done z (f (q ++ Done ∷ []))) e
    ((course Done).on q).is).1

module _ (Helps : ℕ → Type 0) (file : File) (help : AreHelpers Helps file) (program : Program) where
  abbrev inner_calls : Calls
  inner_calls = invoke file 63

  invoke_is : (m : ℕ) (vs : List Value) (q : Answers) →
      invoke file depth_limit m vs q ≡ enter file (invoke file 63) m vs q
  unfolding invoke depth_limit
  invoke_is m vs q = refl

  module _ (o m name n : ℕ) (set : nat_eq o 0 ≡ false) (i : IsSynchronized Helps file m) (values : List Value) where
    abbrev this : Value
    this = Reference o

    abbrev slots : List Value
    slots = frame i.method.slots (this ∷ values)

    abbrev locals : List Value
    locals = slice_set slots i.slot this

    abbrev body : Answers → Executed
    body q = execute file.classes inner_calls i.inner locals q

    long : i.slot < length slots
    long =
        let w = i.within in
        omega (
          arith,
          w,
          length-append (this ∷ values) (map start_of (drop (length (this ∷ values)) i.method.slots)),
          length-map (drop (length (this ∷ values)) i.method.slots) start_of,
          length-drop (length (this ∷ values)) i.method.slots,
        )

    slot_is : slice_index_or locals i.slot nothing ≡ this
    slot_is = get_or-set_same slots i.slot this nothing long

    body_course : (y : Answer Value) → IsCourseBy i.slot this y body
    body_course y = execute_course i.slot this y Helps file.classes inner_calls (invoke_course y Helps file help 63)
        (invoke_within file 63) i.inner i.plain locals slot_is

    abbrev freeing : List Value → Answers → Executed
    freeing = execute file.classes inner_calls (Evaluate (Call (Slot i.slot) (FreeMonitor i.class) End))

    -- what comes after the body
    abbrev closing : Executed → Evaluated Value
    closing x = leave i.method.result
        (then_do (then_do (finally_do x freeing) (execute_all file.classes inner_calls checked.Done))
        (execute_all file.classes inner_calls checked.Done))

    abbrev whole : Answers → Evaluated Value
    whole q = leave i.method.result
        (execute file.classes inner_calls (synchronized_body i.slot i.class i.inner) slots q)

    run_is : (q : Answers) → run_body file inner_calls (slice_get file.methods m) (this ∷ values) q ≡ whole q
    run_is q =
        ap (λ x. run_body file inner_calls x (this ∷ values) q) i.there
        ∙ ap (λ b. leave i.method.result (execute file.classes inner_calls b slots q)) i.is

    locks : whole [] ≡ Asks (act.LockMonitor o) NoValue
    locks = rw (slot_is, set) refl

    runs : (q : Answers) → whole (Done ∷ q) ≡ closing (body q)
    runs q = rw (slot_is, set) refl

    closing_frees : (d : Completion Value) (ls : List Value) → IsKept i.slot this ls →
        closing (Completes d ls []) ≡ Asks (act.UnlockMonitor o) NoValue
    closing_frees d ls k = rw (k, set) refl

    closing_ends : (d : Completion Value) (ls : List Value) (rest : Answers) → IsKept i.slot this ls →
        closing (Completes d ls (Done ∷ rest)) ≡ leave i.method.result (Completes d ls rest)
    closing_ends Normal ls rest k = rw (k, set) refl
    closing_ends (Broke x) ls rest k = rw (k, set) refl
    closing_ends (Continued x) ls rest k = rw (k, set) refl
    closing_ends (Returned x) ls rest k = rw (k, set) refl
    closing_ends (Threw x) ls rest k = rw (k, set) refl

    -- ---- the call in a program

    module _ (text : List ℕ) (result : Option ValueType) where
      abbrev one : Answers → Evaluated (Option Value)
      one q = one_call file program n (Calling name m text result values) q

      abbrev given : Evaluated Value → Evaluated (Option Value)
      given x = with_value x (λ v rest. Results (result_of file m v) rest)

      -- after the read of the setup name
      one_is : (q : Answers) →
          one (Done ∷ Gives this ∷ q) ≡ given (with_value (tell (act.Enter m) q) (λ u rest.
          run_body file inner_calls (slice_get file.methods m) (this ∷ values) rest))
      one_is q = rw set (ap given (invoke_is m (this ∷ values) q))

      entered : (q : Answers) → one (Done ∷ Gives this ∷ Done ∷ q) ≡ given (whole q)
      entered q = one_is (Done ∷ q) ∙ ap given (run_is q)

      closed : (q : Answers) → one (locked o q) ≡ given (closing (body q))
      closed q = entered (Done ∷ q) ∙ ap given (runs q)

      by_end : (q : Answers) (d : Completion Value) (ls : List Value) → IsKept i.slot this ls →
          ((rest : Answers) → body (q ++ Done ∷ rest) ≡ Completes d ls (Done ∷ rest)) →
          (rest : Answers) →
          one (locked o (q ++ Done ∷ rest)) ≡ given (leave i.method.result (Completes d ls rest))
      by_end q d ls k e rest =
          closed (q ++ Done ∷ rest) ∙ ap (λ x. given (closing x)) (e rest) ∙ ap given (closing_ends d ls rest k)

      abbrev EndsBy : Completion Value → List Value → Type 0
      EndsBy d ls = EndsSo (λ rest. given (leave i.method.result (Completes d ls rest)))

      ends_by : (d : Completion Value) (ls : List Value) → EndsBy d ls
      ends_by Normal ls = inl (result_of file m (answer_without i.method.result), λ rest. refl)
      ends_by (Broke x) ls = inl (result_of file m (answer_without i.method.result), λ rest. refl)
      ends_by (Continued x) ls = inl (result_of file m (answer_without i.method.result), λ rest. refl)
      ends_by (Returned None) ls = inl (result_of file m (answer_without i.method.result), λ rest. refl)
      ends_by (Returned (Some v)) ls = inl (result_of file m v, λ rest. refl)
      ends_by (Threw x) ls = inr (x, λ rest. refl)

      ends_so : (f g : Answers → Evaluated (Option Value)) → ((rest : Answers) → f rest ≡ g rest) → EndsSo g → EndsSo f
      ends_so f g e (inl (v, h)) = inl (v, λ rest. e rest ∙ h rest)
      ends_so f g e (inr (k, h)) = inr (k, λ rest. e rest ∙ h rest)

      -- a call of a synchronized method has this course
      pub guarded : IsHeldRound file program o name n (Calling name m text result values)
      guarded = record {
        method = m;
        sort = named program name;
        slot = i.slot;
        kept = this;
        inner = body;
        course = body_course;
        call = refl;
        read = refl;
        enter = one_is [];
        lock = entered [] ∙ ap given locks;
        inside = λ q a s e. closed q ∙ ap (λ x. given (closing x)) e;
        unlock = λ q d ls e. closed q ∙ ap (λ x. given (closing x)) e
            ∙ ap given (closing_frees d ls (kept_by i.slot this body body_course q [] d ls e));
        ends = λ q d ls e. ends_so _ _
            (by_end q d ls (kept_by i.slot this body body_course q [] d ls e)
            (λ rest. more_by i.slot this body body_course (Done ∷ rest) q [] d ls e))
            (ends_by d ls);
      }
