-- The course of a call that locks a field round its whole body: its event, the read of the setup name, the entering,
-- the read of the field, the lock, the body, the read of the field, the unlock, and the end.
use Rattle.std.proofs.Common.{◌≡◌, inl, inr, ℕ, zero, suc, false, List, [], ◌∷◌, ◌++◌, Option}
use Rattle.std.proofs.Common.{Some, None, refl, ap, ◌∙◌, slice_set, get_or-set_other}
use Rattle.std.specs.Prelude.{slice_get, slice_index_or, nat_eq}
use Rattle.ls_events.specs.declared.action.Action.{Action}
use Rattle.ls_events.specs.declared.action.Action.TheVariants as act
use Rattle.ls_events.specs.declared.action.Answer.{Answer}
use Rattle.ls_events.specs.declared.action.Answer.TheVariants.{Done, Gives}
use Rattle.ls_events.specs.declared.value.Value.{Value}
use Rattle.ls_events.specs.declared.value.Value.TheVariants.{Reference}
use Rattle.ls_events.specs.declared.value.ValueType.{ValueType}
use Rattle.ls_checked.specs.declared.tree.Called.TheVariants.{UnlockIt}
use Rattle.ls_checked.specs.CheckedTree.{Class, File, Expression, Literal, Slot, Field, Item, Negate, Not}
use Rattle.ls_checked.specs.CheckedTree.{Binary, And, Or, Call}
use Rattle.ls_checked.specs.CheckedTree.{MakeObject, MakeLock, MakeMarkable, MakeArray, End, Statement, Statements}
use Rattle.ls_checked.specs.CheckedTree.{Evaluate, SetSlot, SetField, AddField, SetItem, If, While, Break, Continue}
use Rattle.ls_checked.specs.CheckedTree.{ReturnNothing, ReturnValue, Try, Block, Then}
use Rattle.ls_checked.specs.CheckedTree as checked
use Rattle.ls_checked.specs.CheckedProgram.{Program, Calling}
use Rattle.ls_meaning.specs.declared.sort.Sort.{Sort}
use Rattle.ls_meaning.specs.declared.sort.Sort.TheVariants.{NoValue}
use Rattle.ls_meaning.specs.declared.completion.Completion.{Completion}
use Rattle.ls_meaning.specs.declared.completion.Completion.TheVariants.{Normal, Broke, Continued, Returned, Threw}
use Rattle.ls_meaning.specs.Values.{nothing}
use Rattle.ls_meaning.specs.Course.{Answers, Evaluated, Asks, Results, tell, with_value}
use Rattle.ls_meaning.specs.Expressions.{Calls, field_of}
use Rattle.ls_meaning.specs.Statements.{Executed, AsksFor, Completes, then_do, finally_do, execute, execute_all}
use Rattle.ls_meaning.specs.Methods.{leave, run_body, frame, invoke, depth_limit, enter, answer_without}
use Rattle.ls_meaning.specs.Threads.{one_call, result_of}
use Rattle.ls_meaning.proofs.Shorter.{invoke_within}
use Rattle.ls_one_at_a_time.specs.Inner.{AreHelpers}
use Rattle.ls_one_at_a_time.specs.Locked.{AreSilent, IsAfter, IsCallee, IsReturn, IsLocked, IsSilent, Setting}
use Rattle.ls_one_at_a_time.specs.Locked.{locked_body, settings}
use Rattle.ls_one_at_a_time.proofs.Guarded.{EndsSo, kept_by, more_by}
use Rattle.ls_one_at_a_time.proofs.Onward.{IsCourseBy, IsKept, execute_course, invoke_course}

-- ---- locals that are set before the lock

-- the value of a constant or a local
abbrev pub value_of : Expression → List Value → Value
value_of (Literal v) ls = v
value_of (Slot n) ls = slice_index_or ls n nothing
value_of _ ls = nothing

-- the locals after settings
abbrev pub set_all : List Setting → List Value → List Value
set_all [] ls = ls
set_all (a ∷ bs) ls = set_all bs (slice_set ls a.slot (value_of a.value ls))

module _ (classes : List Class) (calls : Calls) where
  set_one : (n : ℕ) (e : Expression) → IsSilent e → (ss : Statements) (ls : List Value) (q : Answers) →
      execute_all classes calls (Then (SetSlot n e) ss) ls q ≡ execute_all classes calls ss
      (slice_set ls n (value_of e ls)) q
  set_one n (Literal v) h ss ls q = refl
  set_one n (Slot zero) h ss ls q = absurd h
  set_one n (Slot (suc m)) h ss ls q = refl
  set_one n (Field e c i) h ss ls q = absurd h
  set_one n (Item a i) h ss ls q = absurd h
  set_one n (Negate e) h ss ls q = absurd h
  set_one n (Not e) h ss ls q = absurd h
  set_one n (Binary op a b) h ss ls q = absurd h
  set_one n (And a b) h ss ls q = absurd h
  set_one n (Or a b) h ss ls q = absurd h
  set_one n (Call e c es) h ss ls q = absurd h
  set_one n (MakeObject c es) h ss ls q = absurd h
  set_one n MakeLock h ss ls q = absurd h
  set_one n (MakeMarkable c es) h ss ls q = absurd h
  set_one n (MakeArray e) h ss ls q = absurd h

  pub settings_are : (bs : List Setting) → AreSilent bs → (ss : Statements) (ls : List Value) (q : Answers) →
      execute_all classes calls (settings bs ss) ls q ≡ execute_all classes calls ss (set_all bs ls) q
  settings_are [] h ss ls q = refl
  settings_are (a ∷ bs) h ss ls q = set_one a.slot a.value h.1 (settings bs ss) ls q
      ∙ settings_are bs h.2 ss (slice_set ls a.slot (value_of a.value ls)) q

-- they leave `this`
pub keep_this : (bs : List Setting) → AreSilent bs → (ls : List Value) (w : Value) → slice_index_or ls 0 nothing ≡ w →
    slice_index_or (set_all bs ls) 0 nothing ≡ w
keep_this [] h ls w e = e
keep_this (a ∷ bs) h ls w e = keep_this bs h.2 (slice_set ls a.slot (value_of a.value ls)) w
    (get_or-set_other ls a.slot 0 (value_of a.value ls) nothing h.0 ∙ e)

-- ---- what comes after the lock

module _ (classes : List Class) (calls : Calls) where
  -- the statements ask for nothing, and complete so
  pub record IsMute (ss : Statements) (ls : List Value) : Type 0 where
    pub d : Completion Value
    pub is : (q : Answers) → execute_all classes calls ss ls q ≡ Completes d ls q

  return_mute : (e : Expression) → IsSilent e → (ls : List Value) → IsMute (Then (ReturnValue e) checked.Done) ls
  return_mute (Literal v) h ls = record { d = Returned (Some v); is = λ q. refl }
  return_mute (Slot zero) h ls = absurd h
  return_mute (Slot (suc n)) h ls = record { d = Returned (Some (slice_index_or ls (suc n) nothing)); is = λ q. refl }
  return_mute (Field e c i) h ls = absurd h
  return_mute (Item a i) h ls = absurd h
  return_mute (Negate e) h ls = absurd h
  return_mute (Not e) h ls = absurd h
  return_mute (Binary op a b) h ls = absurd h
  return_mute (And a b) h ls = absurd h
  return_mute (Or a b) h ls = absurd h
  return_mute (Call e c es) h ls = absurd h
  return_mute (MakeObject c es) h ls = absurd h
  return_mute MakeLock h ls = absurd h
  return_mute (MakeMarkable c es) h ls = absurd h
  return_mute (MakeArray e) h ls = absurd h

  one_mute : (s : Statement) → IsReturn s → (ls : List Value) → IsMute (Then s checked.Done) ls
  one_mute ReturnNothing h ls = record { d = Returned None; is = λ q. refl }
  one_mute (ReturnValue e) h ls = return_mute e h ls
  one_mute (Block ss) h ls = absurd h
  one_mute (SetSlot n e) h ls = absurd h
  one_mute (SetField e i v) h ls = absurd h
  one_mute (AddField e i v) h ls = absurd h
  one_mute (SetItem a i v) h ls = absurd h
  one_mute (Evaluate e) h ls = absurd h
  one_mute (If e a b) h ls = absurd h
  one_mute (While e s) h ls = absurd h
  one_mute (Break n) h ls = absurd h
  one_mute (Continue n) h ls = absurd h
  one_mute (Try b c) h ls = absurd h

  pub after_mute : (ss : Statements) → IsAfter ss → (ls : List Value) → IsMute ss ls
  after_mute checked.Done h ls = record { d = Normal; is = λ q. refl }
  after_mute (Then s checked.Done) h ls = one_mute s h ls
  after_mute (Then s (Then t ss)) h ls = absurd h

-- how the whole completes: as its body, or as what comes after it
abbrev pub last_of : Completion Value → Completion Value → Completion Value
last_of Normal d = d
last_of (Broke n) d = Broke n
last_of (Continued n) d = Continued n
last_of (Returned v) d = Returned v
last_of (Threw kind) d = Threw kind

module _ (OnThis Helps Makes : _) (file : File) (help : AreHelpers (IsCallee OnThis Helps Makes) file)
    (program : Program) where
  -- the calls that a body makes
  abbrev pub inner_calls : Calls
  inner_calls = invoke file 63

  -- a call runs its body one call deep
  pub invoke_is : (m : ℕ) (vs : List Value) (q : Answers) →
      invoke file depth_limit m vs q ≡ enter file (invoke file 63) m vs q
  unfolding invoke depth_limit
  invoke_is m vs q = refl

  module _ (o l c f m name n : ℕ) (set : nat_eq o 0 ≡ false) (lock_set : nat_eq l 0 ≡ false)
      (i : IsLocked OnThis Helps Makes file c f m) (values : List Value) where
    -- the object
    abbrev pub this : Value
    this = Reference o

    -- the locals at the lock
    abbrev pub slots : List Value
    slots = set_all i.before (frame i.method.slots (this ∷ values))

    this_kept : slice_index_or slots 0 nothing ≡ this
    this_kept = keep_this i.before i.silent (frame i.method.slots (this ∷ values)) this refl

    -- the body between lock and unlock
    abbrev pub body : Answers → Executed
    body q = execute file.classes inner_calls i.inner slots q

    -- the body goes on by one answer as a plain course does
    pub body_course : (y : Answer Value) → IsCourseBy 0 this y body
    body_course y = execute_course 0 this y (IsCallee OnThis Helps Makes) file.classes inner_calls
        (invoke_course y (IsCallee OnThis Helps Makes) file help 63)
        (invoke_within file 63) i.inner i.plain slots this_kept

    abbrev freeing : List Value → Answers → Executed
    freeing = execute file.classes inner_calls
        (Block (Then (Evaluate (Call (Field (Slot 0) c f) UnlockIt End)) checked.Done))

    abbrev closing : Executed → Evaluated Value
    closing x = leave i.method.result
        (then_do (finally_do x freeing) (execute_all file.classes inner_calls i.last))

    abbrev whole : Answers → Evaluated Value
    whole q = leave i.method.result (execute file.classes inner_calls (locked_body c f [] i.inner i.last) slots q)

    run_is : (q : Answers) → run_body file inner_calls (slice_get file.methods m) (this ∷ values) q ≡ whole q
    run_is q =
        ap (λ x. run_body file inner_calls x (this ∷ values) q) i.there
        ∙ ap (λ b. leave i.method.result (execute file.classes inner_calls b
        (frame i.method.slots (this ∷ values)) q)) i.is
        ∙ ap (leave i.method.result) (settings_are file.classes inner_calls i.before i.silent _
        (frame i.method.slots (this ∷ values)) q)

    -- the sort of what the field gives
    abbrev pub sort : Sort
    sort = field_of file.classes c f

    reads : whole [] ≡ Asks (act.ReadField o f) sort
    reads = rw (this_kept, set) refl

    locks : whole (Gives (Reference l) ∷ []) ≡ Asks (act.Lock l) NoValue
    locks = rw (this_kept, set, lock_set) refl

    runs : (q : Answers) → whole (Gives (Reference l) ∷ Done ∷ q) ≡ closing (body q)
    runs q = rw (this_kept, set, lock_set) refl

    closing_reads : (d : Completion Value) (ls : List Value) → IsKept 0 this ls →
        closing (Completes d ls []) ≡ Asks (act.ReadField o f) sort
    closing_reads d ls k = rw (k, set) refl

    closing_frees : (d : Completion Value) (ls : List Value) → IsKept 0 this ls →
        closing (Completes d ls (Gives (Reference l) ∷ [])) ≡ Asks (act.Unlock l) NoValue
    closing_frees d ls k = rw (k, set, lock_set) refl

    mute : (ls : List Value) → IsMute file.classes inner_calls i.last ls
    mute = after_mute file.classes inner_calls i.last i.after

    closing_ends : (d : Completion Value) (ls : List Value) (rest : Answers) → IsKept 0 this ls →
        closing (Completes d ls (Gives (Reference l) ∷ Done ∷ rest)) ≡
        leave i.method.result (Completes (last_of d (mute ls).d) ls rest)
    closing_ends Normal ls rest k = rw (k, set, lock_set) (ap (leave i.method.result) ((mute ls).is rest))
    closing_ends (Broke x) ls rest k = rw (k, set, lock_set) refl
    closing_ends (Continued x) ls rest k = rw (k, set, lock_set) refl
    closing_ends (Returned x) ls rest k = rw (k, set, lock_set) refl
    closing_ends (Threw x) ls rest k = rw (k, set, lock_set) refl

    -- ---- the call in a program

    module _ (text : List ℕ) (result : Option ValueType) where
      -- the whole call
      abbrev pub one : Answers → Evaluated (Option Value)
      one q = one_call file program n (Calling name m text result values) q

      abbrev given : Evaluated Value → Evaluated (Option Value)
      given x = with_value x (λ v rest. Results (result_of file m v) rest)

      one_is : (q : Answers) →
          one (Done ∷ Gives this ∷ q) ≡ given (with_value (tell (act.Enter m) q) (λ u rest.
          run_body file inner_calls (slice_get file.methods m) (this ∷ values) rest))
      one_is q = rw set (ap given (invoke_is m (this ∷ values) q))

      entered : (q : Answers) → one (Done ∷ Gives this ∷ Done ∷ q) ≡ given (whole q)
      entered q = one_is (Done ∷ q) ∙ ap given (run_is q)

      -- the answers up to the lock, and then more
      abbrev pub held : Answers → Answers
      held q = Done ∷ Gives this ∷ Done ∷ Gives (Reference l) ∷ Done ∷ q

      closed : (q : Answers) → one (held q) ≡ given (closing (body q))
      closed q = entered (Gives (Reference l) ∷ Done ∷ q) ∙ ap given (runs q)

      -- the call enters its method
      pub asks_enter : one (Done ∷ Gives this ∷ []) ≡ Asks (act.Enter m) NoValue
      asks_enter = one_is []

      -- the call reads the field of the lock
      pub asks_field : one (Done ∷ Gives this ∷ Done ∷ []) ≡ Asks (act.ReadField o f) sort
      asks_field = entered [] ∙ ap given reads

      -- the call locks
      pub asks_lock : one (Done ∷ Gives this ∷ Done ∷ Gives (Reference l) ∷ []) ≡ Asks (act.Lock l) NoValue
      asks_lock = entered (Gives (Reference l) ∷ []) ∙ ap given locks

      -- under the lock the call asks what the body asks
      pub asks_inside : (q : Answers) (a : Action Value) (s : Sort) → body q ≡ AsksFor a s → one (held q) ≡ Asks a s
      asks_inside q a s e = closed q ∙ ap (λ x. given (closing x)) e

      module _ (q : Answers) (d : Completion Value) (ls : List Value) (e : body q ≡ Completes d ls []) where
        kept : IsKept 0 this ls
        kept = kept_by 0 this body body_course q [] d ls e

        -- where the body has completed the call reads the field again
        pub asks_again : one (held q) ≡ Asks (act.ReadField o f) sort
        asks_again = closed q ∙ ap (λ x. given (closing x)) e ∙ ap given (closing_reads d ls kept)

        -- then the call unlocks
        pub asks_unlock : one (held (q ++ Gives (Reference l) ∷ [])) ≡ Asks (act.Unlock l) NoValue
        asks_unlock =
            closed (q ++ Gives (Reference l) ∷ [])
            ∙ ap (λ x. given (closing x)) (more_by 0 this body body_course (Gives (Reference l) ∷ []) q [] d ls e)
            ∙ ap given (closing_frees d ls kept)

        ends_by : (d : Completion Value) → EndsSo (λ rest. given (leave i.method.result (Completes d ls rest)))
        ends_by Normal = inl (result_of file m (answer_without i.method.result), λ rest. refl)
        ends_by (Broke x) = inl (result_of file m (answer_without i.method.result), λ rest. refl)
        ends_by (Continued x) = inl (result_of file m (answer_without i.method.result), λ rest. refl)
        ends_by (Returned None) = inl (result_of file m (answer_without i.method.result), λ rest. refl)
        ends_by (Returned (Some v)) = inl (result_of file m v, λ rest. refl)
        ends_by (Threw x) = inr (x, λ rest. refl)

        ends_so : (g h : Answers → Evaluated (Option Value)) → ((rest : Answers) → g rest ≡ h rest) → EndsSo h →
            EndsSo g
        ends_so g h e (inl (v, p)) = inl (v, λ rest. e rest ∙ p rest)
        ends_so g h e (inr (k, p)) = inr (k, λ rest. e rest ∙ p rest)

        -- then the call ends, as the body completed
        pub ends : EndsSo (λ rest. one (held (q ++ Gives (Reference l) ∷ Done ∷ rest)))
        ends = ends_so _ _
            (λ rest. closed (q ++ Gives (Reference l) ∷ Done ∷ rest)
            ∙ ap (λ x. given (closing x)) (more_by 0 this body body_course
            (Gives (Reference l) ∷ Done ∷ rest) q [] d ls e)
            ∙ ap given (closing_ends d ls rest kept)) (ends_by (last_of d (mute ls).d))
