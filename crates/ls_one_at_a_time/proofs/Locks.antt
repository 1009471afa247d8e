-- Programs whose calls lock the same field round their whole bodies: the making of the object and its lock.
use Rattle.std.proofs.Common.{◌≡◌, ◌≢◌, ◌⊎◌, inl, inr, ℕ, zero, suc, ◌+◌, ◌<◌, true, List, [], ◌∷◌, ◌++◌}
use Rattle.std.proofs.Common.{Some, None, length, refl, sym, ap, ◌∙◌, subst, arith, get_or-set_same, append_assoc}
use Rattle.std.proofs.Common.{slice_set}
use Rattle.std.specs.Prelude.{slice_get, slice_index_or}
use Rattle.std.proofs.lemmas.List.{length-map}
use Rattle.std.proofs.Common.{append-nil, length-set}
use Rattle.ls_events.specs.declared.value.Value.{Value}
use Rattle.ls_events.specs.declared.value.Value.TheVariants.{Reference}
use Rattle.ls_events.specs.declared.value.ValueType.TheVariants as types
use Rattle.ls_events.specs.declared.action.Action.{Action}
use Rattle.ls_events.specs.declared.action.Action.TheVariants as act
use Rattle.ls_events.specs.declared.action.Answer.{Answer}
use Rattle.ls_events.specs.declared.action.Answer.TheVariants.{Done, Gives}
use Rattle.ls_checked.specs.CheckedTree.{File, Expression, Literal, Slot, Field, Item, Negate, Not, Binary, And, Or}
use Rattle.ls_checked.specs.CheckedTree.{Call, MakeObject, MakeLock, MakeMarkable, MakeArray, Then, SetField}
use Rattle.ls_checked.specs.CheckedProgram.{Program, ProgramCall, Making, Calling}
use Rattle.ls_meaning.specs.declared.sort.Sort.{Sort}
use Rattle.ls_meaning.specs.declared.sort.Sort.TheVariants.{NoValue, NewOf}
use Rattle.ls_meaning.specs.Values.{nothing, start_of}
use Rattle.ls_meaning.specs.Course.{Answers, Evaluated, Asks, Results}
use Rattle.ls_meaning.specs.Statements.{Executed, execute, execute_all}
use Rattle.ls_meaning.specs.Expressions.{constructor_of}
use Rattle.ls_meaning.specs.Methods.{depth_limit, frame, invoke, leave, run_body}
use Rattle.ls_meaning.specs.Store.{Hold, Free, Object, LockOf, Store, Thing, thing_at, with_new, with_thing}
use Rattle.ls_meaning.specs.Effect.{Does, effect, fields_in}
use Rattle.ls_meaning.specs.Threads.{calls_in}
use Rattle.ls_meaning.specs.Runs.{source_history, start}
use Rattle.ls_search_laws.proofs.Renaming.{at_suc}
use Rattle.ls_linearizable.specs.Linearizable.{IsLinearizable}
use Rattle.ls_one_at_a_time.specs.Waiting.{NoThreadWaits}
use Rattle.ls_one_at_a_time.specs.Clean.{AllOther, IsOther}
use Rattle.ls_one_at_a_time.specs.Locked.{AllLocked, IsSilent, NoneWaitLocked, Setting, AreLocked}
use Rattle.ls_one_at_a_time.specs.Locked.{IsCallee, IsLocking, NameNone, AllSilent, RunsLocked, field_settings}
use Rattle.ls_one_at_a_time.proofs.Onward.{IsCourse, invoke_course}
use Rattle.ls_one_at_a_time.proofs.Clean.{AreOther, IsTold, execute_all_safe, invoke_safe, leave_told}
use Rattle.ls_one_at_a_time.proofs.Clean.{null_other, own_frame}
use Rattle.ls_one_at_a_time.proofs.Ours.{IsCleanThing, assigned, fields_clean, safe_left}
use Rattle.ls_one_at_a_time.proofs.Kit.{IsGuarded, Kit}
use Rattle.ls_one_at_a_time.proofs.LockRound.{invoke_is, value_of}
use Rattle.ls_one_at_a_time.proofs.Standing.{AllGuarded}
use Rattle.ls_one_at_a_time.proofs.Alone.{all_linearizable, none_waits}
use Rattle.ls_one_at_a_time.proofs.Making.{IsMaking, Maker, making_of}
use Rattle.ls_one_at_a_time.proofs.LockCalls as calls
use Rattle.ls_one_at_a_time.proofs.LockCalls.{does_answer, does_store, all_more, value_other, in_kit}

module _ (file : File) (program : Program) (x : RunsLocked file program) where
  abbrev own' : ℕ → Type 0
  own' = calls.own' file program x

  abbrev help' : ℕ → Type 0
  help' = calls.help' file program x

  abbrev o : ℕ
  o = calls.o file program x

  abbrev l : ℕ
  l = calls.l file program x

  abbrev f : ℕ
  f = calls.f file program x

  abbrev far : 0 ≢ o
  far = calls.far file program x

  abbrev Ours : Store → ℕ → Hold → Type 0
  Ours = calls.Ours file program x

  abbrev locks : Kit file program
  locks = calls.locks file program x

  -- ---- the making

  abbrev m : IsMaking file program
  m = record {
    name = x.name;
    class = x.class;
    text = x.text;
    values = x.values;
    others = x.more;
    setup = x.setup;
    known = x.known;
  }

  null_values : (vs : List Value) → NameNone x.own x.others x.makes vs → AreOther o f far vs
  null_values [] h n = null_other o f far nothing refl
  null_values (v ∷ vs) h zero = null_other o f far v h.0
  null_values (v ∷ vs) h (suc n) = null_values vs h.1 n

  all_guarded : (cs : List ProgramCall) (n : ℕ) → AreLocked x.own x.others x.makes file x.class f x.name cs →
      AllGuarded file program locks n cs
  all_guarded [] n c = tt
  all_guarded (Making name class text values ∷ cs) n c = absurd c
  all_guarded (Calling name method text result values ∷ cs) n c = (
    subst (λ z. IsGuarded file program locks n (Calling z method text result values)) (sym c.0)
        (in_kit file program x (record {
          n = n;
          m = method;
          locked = c.1;
          values = values;
          other = null_values values c.2;
          text = text;
          result = result;
        })),
    all_guarded cs (n + 1) c.3,
  )

  abbrev k : IsLocking x.own x.others x.makes file x.class f
  k = x.constructor

  abbrev number : ℕ
  number = constructor_of file.classes x.class

  abbrev making : Answers → Evaluated Value
  making = making_of file program m o

  abbrev locals : List Value
  locals = frame k.method.slots (Reference o ∷ x.values)

  abbrev rest_of : Answers → Executed
  rest_of q = execute_all file.classes (invoke file 63) k.rest locals q

  -- the constructor from here on
  abbrev from_here : List Setting → Answers → Evaluated Value
  from_here bs q = leave k.method.result (execute_all file.classes (invoke file 63)
      (field_settings bs (Then (SetField (Slot 0) f MakeLock) k.rest)) locals q)

  making_enter : making [] ≡ Asks (act.Enter number) NoValue
  making_enter = invoke_is x.own x.others x.makes file x.plain program number (Reference o ∷ x.values) []

  making_is : (q : Answers) → making (Done ∷ q) ≡ from_here k.before q
  making_is q =
      invoke_is x.own x.others x.makes file x.plain program number (Reference o ∷ x.values) (Done ∷ q)
      ∙ ap (λ z. run_body file (invoke file 63) z (Reference o ∷ x.values) q) k.there
      ∙ ap (λ z. leave k.method.result (execute file.classes (invoke file 63) z locals q)) k.is

  -- ---- a field that is set

  abbrev SetsField : ℕ → Expression → List Setting → Type 0
  SetsField i e bs =
      (leave k.method.result (execute_all file.classes (invoke file 63) (Then (SetField (Slot 0) i e)
      (field_settings bs (Then (SetField (Slot 0) f MakeLock) k.rest))) locals []) ≡
      Asks (act.WriteField o i (value_of e locals)) NoValue)
      × ((q : Answers) → leave k.method.result (execute_all file.classes (invoke file 63) (Then (SetField (Slot 0) i e)
      (field_settings bs (Then (SetField (Slot 0) f MakeLock) k.rest))) locals (Done ∷ q)) ≡ from_here bs q)

  sets_field : (i : ℕ) (e : Expression) → IsSilent e → (bs : List Setting) → SetsField i e bs
  sets_field i (Literal v) h bs = (refl, λ q. refl)
  sets_field i (Slot zero) h bs = absurd h
  sets_field i (Slot (suc n)) h bs = (refl, λ q. refl)
  sets_field i (Field e c j) h bs = absurd h
  sets_field i (Item a j) h bs = absurd h
  sets_field i (Negate e) h bs = absurd h
  sets_field i (Not e) h bs = absurd h
  sets_field i (Binary op a b) h bs = absurd h
  sets_field i (And a b) h bs = absurd h
  sets_field i (Or a b) h bs = absurd h
  sets_field i (Call e c es) h bs = absurd h
  sets_field i (MakeObject c es) h bs = absurd h
  sets_field i MakeLock h bs = absurd h
  sets_field i (MakeMarkable c es) h bs = absurd h
  sets_field i (MakeArray e) h bs = absurd h

  -- ---- the stores of the making

  abbrev fields : List Value
  fields = fields_in (slice_get file.classes x.class)

  abbrev s0 : List Value → Store
  s0 fs = with_new (start program).store (Object Free fs)

  abbrev s1 : List Value → Store
  s1 fs = with_new (s0 fs) (LockOf Free)

  abbrev s2 : List Value → Store
  s2 fs = with_thing (s1 fs) o (Object Free (slice_set fs f (Reference l)))

  long : f < length fields
  long =
      let lt = k.field in
      let c = length-map k.class.fields start_of in
      subst (λ z. f < length (fields_in z)) (sym k.class_there) (subst (λ i. f < i) (sym c) lt)

  lock_other : IsOther o (Reference l)
  lock_other = record { is = λ p. two_not 2 1 refl refl p }
    where
      two_not : (a b : ℕ) → a ≡ 2 → b ≡ 1 → a ≡ b → ⊥
      two_not a b p q r = absurd (omega arith)

  some_is : {y z : Thing} → Some y ≡ Some z → y ≡ z
  some_is p = cc

  none_not : {z : Thing} → None ≡ Some z → ⊥
  none_not p = cc

  abbrev AreFields : List Value → Type 0
  AreFields fs = (i : ℕ) → IsOther o (slice_index_or fs i nothing)

  first_clean : (fs : List Value) → AreFields fs → (n : ℕ) (t : Thing) → thing_at (s2 fs) n ≡ Some t →
      IsCleanThing o f far t
  first_clean fs c zero t at = absurd (none_not at)
  first_clean fs c (suc zero) t at = subst (IsCleanThing o f far) (some_is at)
      (assigned o f far fs f (Reference l) lock_other c)
  first_clean fs c (suc (suc zero)) t at = subst (IsCleanThing o f far) (some_is at) tt
  first_clean fs c (suc (suc (suc n))) t at = absurd (none_not (sym (at_suc (s2 fs) (suc (suc n))) ∙ at))

  first_ours : (fs : List Value) → AreFields fs → f < length fs → Ours (s2 fs) l Free
  first_ours fs c lt = record {
    monitor = Free;
    fields = slice_set fs f (Reference l);
    object = refl;
    field = get_or-set_same fs f (Reference l) nothing lt;
    lock = refl;
    clean = first_clean fs c;
  }

  -- ---- stages of the making

  -- the object is there, and its fields are being set
  record IsSetting (q : Answers) (s : Store) : Type 0 where
    fs : List Value
    others : AreFields fs
    lt : f < length fs
    left : List Setting
    silent : AllSilent left
    here : (more : Answers) → making (q ++ more) ≡ from_here left more
    store : s ≡ s0 fs

  record IsEntering (q : Answers) (s : Store) : Type 0 where
    answers : q ≡ []
    store : s ≡ s0 fields

  -- the lock is there
  record IsStoring (q : Answers) (s : Store) : Type 0 where
    fs : List Value
    others : AreFields fs
    lt : f < length fs
    here : (more : Answers) → making (q ++ more) ≡ from_here [] (Gives (Reference l) ∷ more)
    store : s ≡ s1 fs

  record IsLater (q : Answers) (s : Store) : Type 0 where
    r : Answers
    here : (more : Answers) → making (q ++ more) ≡ leave k.method.result (rest_of (r ++ more))
    ours : Ours s l Free
    others : AllOther o r

  abbrev IsStage : Answers → Store → Type 0
  IsStage q s = IsEntering q s ⊎ (IsSetting q s ⊎ (IsStoring q s ⊎ IsLater q s))

  record IsBuilt (n : ℕ) (s : Store) (q : Answers) : Type 0 where
    is : n ≡ o
    stage : IsStage q s

  making_course : (n : ℕ) (y : Answer Value) → IsCourse y (making_of file program m n)
  making_course n y = invoke_course y (IsCallee x.own x.others x.makes) file x.plain depth_limit number x.callee
      (Reference n ∷ x.values)

  abbrev asks_value : Action Value → Sort → Evaluated Value
  asks_value a c = Asks a c

  asks_is : {a b : Action Value} {c d : Sort} → asks_value a c ≡ asks_value b d → b ≡ a
  asks_is p = cc

  call_not : {a : Action Value} {c : Sort} {v : Value} {q : Answers} → asks_value a c ≡ Results v q → ⊥
  call_not p = cc

  -- an action that is known does what is known
  record IsKnown (s : Store) (a : Action Value) (store : Store) (y : Answer Value) : Type 0 where
    action : Action Value
    after : Store
    answer : Answer Value
    same : a ≡ action
    does : effect file.classes s 0 action ≡ Does after answer

  known_so : (s : Store) (q : Answers) (a a' : Action Value) (sort sort' : Sort) (store after : Store)
      (y answer : Answer Value) → making q ≡ Asks a' sort' → effect file.classes s 0 a' ≡ Does after answer →
      making q ≡ Asks a sort → effect file.classes s 0 a ≡ Does store y → (store ≡ after) × (y ≡ answer)
  known_so s q a a' sort sort' store after y answer asks eff is does =
      let e : a ≡ a' = asks_is (sym asks ∙ is) in
      let d = sym eff ∙ ap (effect file.classes s 0) (sym e) ∙ does in
      (does_store d, does_answer d)

  -- the rest of the constructor asks for what is safe
  rest_told : (q : Answers) → AllOther o q → IsTold o f far (IsOther o) (leave k.method.result (rest_of q))
  rest_told q h = leave_told o f far own' help' file.classes (invoke file 63)
      (invoke_safe o f far own' help' file x.clean 63) true k.method.result (rest_of q)
      ((execute_all_safe o f far own' help' file.classes (invoke file 63)
      (invoke_safe o f far own' help' file x.clean 63) true k.rest k.clean locals
      (own_frame o f far k.method.slots (Reference o) x.values (null_values x.values x.null))).on q h)

  module _ (s store : Store) (q : Answers) (a : Action Value) (sort : Sort) (y : Answer Value)
      (is : making q ≡ Asks a sort) (does : effect file.classes s 0 a ≡ Does store y) where
    abbrev Next : Type 0
    Next = IsStage (q ++ y ∷ []) store × (store.names ≡ s.names)

    -- the answers so far, and none more
    now_is : (f : Evaluated Value) → making (q ++ []) ≡ f → making q ≡ f
    now_is f e = ap making (sym (append-nil q)) ∙ e

    regroup : (more : Answers) → making ((q ++ y ∷ []) ++ more) ≡ making (q ++ y ∷ more)
    regroup more = ap making (append_assoc q (y ∷ []) more)

    at_enter : IsEntering q s → Next
    at_enter h =
        let e = known_so s q a (act.Enter number) sort NoValue store s y Done
        (ap making h.answers ∙ making_enter) refl is does in (
          inr (inl (record {
            fs = fields;
            others = fields_clean o f far file.classes l Free (slice_get file.classes x.class);
            lt = long;
            left = k.before;
            silent = k.silent;
            here = λ more. regroup more ∙ ap (λ z. making (q ++ z ∷ more)) e.1
                ∙ ap (λ z. making (z ++ Done ∷ more)) h.answers ∙ making_is more;
            store = e.0 ∙ h.store;
          })),
          ap (λ (z : Store). z.names) e.0,
        )

    at_setting : (h : IsSetting q s) (left : List Setting) → h.left ≡ left → AllSilent left → Next
    at_setting h [] e silent =
        let here = λ (more : Answers). h.here more ∙ ap (λ z. from_here z more) e in
        let g = known_so s q a act.NewLock sort (NewOf types.Lock) store (s1 h.fs) y (Gives (Reference l))
        (now_is (Asks act.NewLock (NewOf types.Lock)) (here []))
        (ap (λ z. effect file.classes z 0 act.NewLock) h.store) is does in (
          inr (inr (inl (record {
            fs = h.fs;
            others = h.others;
            lt = h.lt;
            here = λ more. regroup more ∙ ap (λ z. making (q ++ z ∷ more)) g.1 ∙ here (Gives (Reference l) ∷ more);
            store = g.0;
          }))),
          ap (λ (z : Store). z.names) g.0 ∙ ap (λ (z : Store). z.names) (sym h.store),
        )
    at_setting h (b ∷ bs) e silent =
        let here = λ (more : Answers). h.here more ∙ ap (λ z. from_here z more) e in
        let v = value_of b.value locals in
        let t = sets_field b.slot b.value silent.0 bs in
        let g = known_so s q a (act.WriteField o b.slot v) sort NoValue store (s0 (slice_set h.fs b.slot v)) y Done
        (now_is (Asks (act.WriteField o b.slot v) NoValue) (here [] ∙ t.0))
        (ap (λ z. effect file.classes z 0 (act.WriteField o b.slot v)) h.store) is does in (
          inr (inl (record {
            fs = slice_set h.fs b.slot v;
            others = assigned o f far h.fs b.slot v
                (value_other file program x b.value silent.0 locals
                (own_frame o f far k.method.slots (Reference o) x.values (null_values x.values x.null))) h.others;
            lt = subst (λ i. f < i) (sym (length-set h.fs b.slot v)) h.lt;
            left = bs;
            silent = silent.1;
            here = λ more. regroup more ∙ ap (λ z. making (q ++ z ∷ more)) g.1 ∙ here (Done ∷ more) ∙ t.1 more;
            store = g.0;
          })),
          ap (λ (z : Store). z.names) g.0 ∙ ap (λ (z : Store). z.names) (sym h.store),
        )

    at_write : IsStoring q s → Next
    at_write h =
        let g = known_so s q a (act.WriteField o f (Reference l)) sort NoValue store (s2 h.fs) y Done
        (now_is (Asks (act.WriteField o f (Reference l)) NoValue) (h.here []))
        (ap (λ z. effect file.classes z 0 (act.WriteField o f (Reference l))) h.store) is does in (
          inr (inr (inr (record {
            r = [];
            here = λ more. regroup more ∙ ap (λ z. making (q ++ z ∷ more)) g.1 ∙ h.here (Done ∷ more);
            ours = subst (λ z. Ours z l Free) (sym g.0) (first_ours h.fs h.others h.lt);
            others = tt;
          }))),
          ap (λ (z : Store). z.names) g.0 ∙ ap (λ (z : Store). z.names) (sym h.store),
        )

    at_rest : IsLater q s → Next
    at_rest h =
        let asks = sym (now_is (leave k.method.result (rest_of (h.r ++ []))) (h.here []))
        ∙ is in
        let told : IsTold o f far (IsOther o) (asks_value a sort) =
        subst (IsTold o f far (IsOther o)) asks (rest_told (h.r ++ [])
        (subst (AllOther o) (sym (append-nil h.r)) h.others)) in
        let left = safe_left o f far file.classes l Free s store 0 a y h.ours told.is does in (
          inr (inr (inr (record {
            r = h.r ++ y ∷ [];
            here = λ more. regroup more ∙ h.here (y ∷ more)
                ∙ ap (λ z. leave k.method.result (rest_of z)) (sym (append_assoc h.r (y ∷ []) more));
            ours = left.ours;
            others = all_more file program x h.r y h.others left.answer;
          }))),
          left.names,
        )

    at_stage : IsStage q s → Next
    at_stage (inl h) = at_enter h
    at_stage (inr (inl h)) = at_setting h h.left refl h.silent
    at_stage (inr (inr (inl h))) = at_write h
    at_stage (inr (inr (inr h))) = at_rest h

  -- a constructor that has ended is past its lock
  setting_not : (q : Answers) (s : Store) (v : Value) → making q ≡ Results v [] →
      (h : IsSetting q s) (left : List Setting) →
      h.left ≡ left → AllSilent left → ⊥
  setting_not q s v is h [] e silent = call_not
      (sym (ap making (sym (append-nil q)) ∙ h.here [] ∙ ap (λ z. from_here z []) e) ∙ is)
  setting_not q s v is h (b ∷ bs) e silent = call_not
      (sym (ap making (sym (append-nil q)) ∙ h.here [] ∙ ap (λ z. from_here z []) e
      ∙ (sets_field b.slot b.value silent.0 bs).0) ∙ is)

  past_lock : (q : Answers) (s : Store) (v : Value) → making q ≡ Results v [] → IsStage q s → Ours s l Free
  past_lock q s v is (inl h) = absurd (call_not (sym making_enter ∙ ap making (sym h.answers) ∙ is))
  past_lock q s v is (inr (inl h)) = absurd (setting_not q s v is h h.left refl h.silent)
  past_lock q s v is (inr (inr (inl h))) = absurd (call_not (sym (ap making (sym (append-nil q)) ∙ h.here []) ∙ is))
  past_lock q s v is (inr (inr (inr h))) = h.ours

  maker : Maker file program m
  maker = record {
    Made = Unit {0};
    kit = λ d. locks;
    Builds = IsBuilt;
    course = making_course;
    new = record { is = refl; stage = inl (record { answers = refl; store = refl }) };
    goes = λ n s store q a sort y h is does.
        let next = at_stage s store q a sort y (ap (λ z. making_of file program m z q) (sym h.is) ∙ is) does h.stage in
        (record { is = h.is; stage = next.0 }, next.1);
    ends = λ n s q v h is known.
        let u = past_lock q s v (ap (λ z. making_of file program m z q) (sym h.is) ∙ is) h.stage in (
          tt,
          record {
            ours = record {
              monitor = u.monitor;
              fields = u.fields;
              object = u.object;
              field = u.field;
              lock = u.lock;
              clean = u.clean;
            };
            named = get_or-set_same s.names x.name (Reference n) (Reference 0) known ∙ ap (λ z. Reference z) h.is;
          },
        );
    others = λ d. all_guarded x.more 2 x.locked;
    calls = λ d t ne. all_guarded (calls_in (slice_get program.threads t)) 1 (x.calls t ne);
  }

  pub locks_linearizable : (schedule : List ℕ) → IsLinearizable file program (source_history file program schedule)
  locks_linearizable = all_linearizable file program m maker

  pub locks_wait : NoThreadWaits file program
  locks_wait = none_waits file program m maker

-- the history of each schedule is linearizable
pub all_locked : AllLocked
all_locked file program x schedule = locks_linearizable file program x schedule

-- where no thread acts, none waits
pub none_wait_locked : NoneWaitLocked
none_wait_locked file program x = locks_wait file program x
