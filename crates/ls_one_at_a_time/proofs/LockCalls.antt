-- The course of each call that locks a field round its whole body, as runs see it.
use Rattle.std.proofs.Common.{◌≡◌, ◌≢◌, ◌⊎◌, inl, inr, ℕ, zero, suc, ◌<◌, true, List, [], ◌∷◌, ◌++◌}
use Rattle.std.proofs.Common.{Option, refl, sym, ap, ◌∙◌, subst, arith, append_assoc, slice_set}
use Rattle.std.specs.Prelude.{slice_index_or}
use Rattle.std.proofs.lemmas.Bool.{cases_eq}
use Rattle.std.proofs.Common.{get_or-set_other}
use Rattle.ls_events.specs.declared.value.Value.{Value}
use Rattle.ls_events.specs.declared.value.Value.TheVariants.{Reference}
use Rattle.ls_events.specs.declared.value.ValueType.{ValueType}
use Rattle.ls_events.specs.declared.action.Action.{Action}
use Rattle.ls_events.specs.declared.action.Action.TheVariants as act
use Rattle.ls_events.specs.declared.action.Answer.{Answer}
use Rattle.ls_events.specs.declared.action.Answer.TheVariants.{Done, Gives}
use Rattle.ls_checked.specs.CheckedTree.{File, Expression, Literal, Slot, Field, Item, Negate, Not, Binary, And, Or}
use Rattle.ls_checked.specs.CheckedTree.{Call, MakeObject, MakeLock, MakeMarkable, MakeArray}
use Rattle.ls_checked.specs.CheckedProgram.{Program, ProgramCall, Calling}
use Rattle.ls_meaning.specs.declared.completion.Completion.{Completion}
use Rattle.ls_meaning.specs.declared.sort.Sort.{Sort}
use Rattle.ls_meaning.specs.declared.sort.Sort.TheVariants.{NoValue}
use Rattle.ls_meaning.specs.Values.{nothing}
use Rattle.ls_meaning.specs.Course.{Answers}
use Rattle.ls_meaning.specs.Statements.{Executed, AsksFor, Completes}
use Rattle.ls_meaning.specs.Methods.{frame, invoke}
use Rattle.ls_meaning.specs.Store.{Hold, Free, HeldBy, Store, name_at}
use Rattle.ls_meaning.specs.Effect.{Does, effect}
use Rattle.ls_meaning.specs.Threads.{named, one_call}
use Rattle.ls_one_at_a_time.specs.Clean.{AllOther, AnswersOther, IsOther, IsSafe}
use Rattle.ls_one_at_a_time.specs.Locked.{AreSilent, IsSilent, Setting, IsHelp, IsLocked, IsOnThis, RunsLocked}
use Rattle.ls_one_at_a_time.proofs.Onward.{GoesOnBy, IsCourseBy, LeavesNoneBy, SpentBy}
use Rattle.ls_one_at_a_time.proofs.Clean.{AreLocals, AreOther, IsToldBy, execute_safe, invoke_safe}
use Rattle.ls_one_at_a_time.proofs.Clean.{null_other, own_frame}
use Rattle.ls_one_at_a_time.proofs.Ours.{IsOurs, frees, gives_lock, safe_left, takes, waits}
use Rattle.ls_one_at_a_time.proofs.Keeps.{inner_acts, inner_silent}
use Rattle.ls_one_at_a_time.proofs.Kit.{IsAsking, IsClosing, IsEntry, IsGood, IsGuarded, Kit}
use Rattle.ls_one_at_a_time.proofs.LockRound.{asks_again, asks_enter, asks_field, asks_inside, asks_lock, asks_unlock}
use Rattle.ls_one_at_a_time.proofs.LockRound.{body, body_course, ends, set_all, value_of}
use Rattle.ls_one_at_a_time.proofs.Guarded.{EndsSo}

-- an effect has one store
pub does_store : {s s' : Store} {x y : Answer Value} → Does s x ≡ Does s' y → s' ≡ s
does_store p = cc

-- an effect has one answer
pub does_answer : {s s' : Store} {x y : Answer Value} → Does s x ≡ Does s' y → y ≡ x
does_answer p = cc

module _ (file : File) (program : Program) (x : RunsLocked file program) where
  -- the methods that bodies call on `this`
  abbrev pub own' : ℕ → Type 0
  own' = IsOnThis x.own x.others x.makes

  -- the methods that bodies call on other objects
  abbrev pub help' : ℕ → Type 0
  help' = IsHelp x.own x.others x.makes

  -- the object and its lock are the first things that are made
  abbrev pub o : ℕ
  o = 1

  abbrev pub l : ℕ
  l = 2

  -- the field of the lock
  abbrev pub f : ℕ
  f = x.field

  pub zero_not : (n : ℕ) → n ≡ 1 → 0 ≢ n
  zero_not n e p = absurd (omega arith)

  -- the object isn't null
  abbrev pub far : 0 ≢ o
  far = zero_not 1 refl

  -- the object has its lock in its field, held so, and no other thing names the object
  abbrev pub Ours : Store → ℕ → Hold → Type 0
  Ours = IsOurs o f far

  pub record IsLockSo (hold : Hold) (s : Store) : Type 0 where
    pub ours : Ours s l hold
    pub named : name_at s x.name ≡ Reference o

  -- a call with the lock round its whole body
  pub record Round : Type 0 where
    pub n : ℕ
    pub m : ℕ
    pub locked : IsLocked x.own x.others x.makes file x.class f m
    pub values : List Value
    pub other : AreOther o f far values
    pub text : List ℕ
    pub result : Option ValueType

  abbrev pub body_of : Round → Answers → Executed
  body_of b = body x.own x.others x.makes file x.plain program o l x.class f b.m x.name b.n refl refl b.locked b.values

  -- the body has completed, and the field was read again
  pub record IsRead (b : Round) (q : Answers) : Type 0 where
    pub old : Answers
    pub d : Completion Value
    pub ls : List Value
    pub is : body_of b old ≡ Completes d ls []
    pub more : q ≡ old ++ Gives (Reference l) ∷ []

  pub record IsWithin (b : Round) (q : Answers) : Type 0 where
    pub spent : SpentBy 0 (Reference o) (body_of b q)
    pub others : AllOther o q

  -- where a body stands by its answers
  abbrev pub StandsSo : Round → Answers → Type 0
  StandsSo b q = IsWithin b q ⊎ IsRead b q

  -- the lock as runs see it
  abbrev pub locks : Kit file program
  locks = record {
    Idle = IsLockSo Free;
    Has = λ u. IsLockSo (HeldBy u 1);
    lock = act.Lock l;
    unlock = act.Unlock l;
    lock_silent = λ t. refl;
    unlock_silent = λ t. refl;
    takes = λ s t h.
        let k = takes o f far file.classes s l t h.ours in record {
          store = k.store;
          does = k.does;
          after = record { ours = k.ours; named = ap (λ ns. slice_index_or ns x.name (Reference 0)) k.names ∙ h.named };
        };
    frees = λ s t h.
        let k = frees o f far file.classes s l t h.ours in record {
          store = k.store;
          does = k.does;
          after = record { ours = k.ours; named = ap (λ ns. slice_index_or ns x.name (Reference 0)) k.names ∙ h.named };
        };
    waits = λ s u t ne h. waits o f far file.classes s l t u 1 ne h.ours;
    Body = Round;
    Stands = StandsSo;
  }

  -- the setup name names the object
  pub named_of : (s : Store) → IsGood file program locks s → name_at s x.name ≡ Reference o
  named_of s (inl h) = h.named
  named_of s (inr (u, h)) = h.named

  pub gives_of : (s : Store) (t : ℕ) → IsGood file program locks s →
      effect file.classes s t (act.ReadField o f) ≡ Does s (Gives (Reference l))
  gives_of s t (inl h) = gives_lock o f far file.classes s l t Free h.ours
  gives_of s t (inr (u, h)) = gives_lock o f far file.classes s l t (HeldBy u 1) h.ours

  -- the answers of a call up to its lock
  abbrev pub before : ℕ → Answers
  before zero = Done ∷ []
  before (suc zero) = Done ∷ Gives (Reference o) ∷ []
  before (suc (suc zero)) = Done ∷ Gives (Reference o) ∷ Done ∷ []
  before (suc (suc (suc n))) = Done ∷ Gives (Reference o) ∷ Done ∷ Gives (Reference l) ∷ []

  -- answers without the object stay so with one more that is no reference to the object
  pub all_more : (q : Answers) (y : Answer Value) → AllOther o q → AnswersOther o y → AllOther o (q ++ y ∷ [])
  all_more [] y h k = (k, tt)
  all_more (z ∷ q) y h k = (h.0, all_more q y h.1 k)

  -- locals that are set before the lock are other values
  abbrev pub AreOthers : List Value → Type 0
  AreOthers ls = AreLocals o f far true ls

  -- a silent value isn't the object, where the locals aren't
  pub value_other : (e : Expression) → IsSilent e → (ls : List Value) → AreOthers ls → IsOther o (value_of e ls)
  value_other (Literal v) h ls k = null_other o f far v h
  value_other (Slot zero) h ls k = absurd h
  value_other (Slot (suc n)) h ls k = k (suc n) tt
  value_other (Field e c i) h ls k = absurd h
  value_other (Item a i) h ls k = absurd h
  value_other (Negate e) h ls k = absurd h
  value_other (Not e) h ls k = absurd h
  value_other (Binary op a b) h ls k = absurd h
  value_other (And a b) h ls k = absurd h
  value_other (Or a b) h ls k = absurd h
  value_other (Call e c es) h ls k = absurd h
  value_other (MakeObject c es) h ls k = absurd h
  value_other MakeLock h ls k = absurd h
  value_other (MakeMarkable c es) h ls k = absurd h
  value_other (MakeArray e) h ls k = absurd h

  -- locals without the object stay so where another value is set
  pub set_other : (ls : List Value) (n : ℕ) (v : Value) → IsOther o v → AreOthers ls → AreOthers (slice_set ls n v)
  set_other ls n v h k m slot = by_number (cases_eq m n)
    where
      own_slot : (xs : List Value) (i : ℕ) → IsOther o (slice_index_or xs i nothing) →
          IsOther o (slice_index_or (slice_set xs i v) i nothing)
      own_slot [] i j = j
      own_slot (y ∷ xs) zero j = h
      own_slot (y ∷ xs) (suc i) j = own_slot xs i j

      by_number : (m ≡ n) ⊎ (m ≢ n) → IsOther o (slice_index_or (slice_set ls n v) m nothing)
      by_number (inl e) = subst (λ i. IsOther o (slice_index_or (slice_set ls i v) m nothing)) e
          (own_slot ls m (k m slot))
      by_number (inr ne) = subst (IsOther o) (sym (get_or-set_other ls n m v nothing ne)) (k m slot)

  pub settings_other : (bs : List Setting) → AreSilent bs → (ls : List Value) → AreOthers ls → AreOthers (set_all bs ls)
  settings_other [] h ls k = k
  settings_other (a ∷ bs) h ls k = settings_other bs h.2 (slice_set ls a.slot (value_of a.value ls))
      (set_other ls a.slot (value_of a.value ls) (value_other a.value h.1 ls k) k)

  module _ (b : Round) where
    abbrev call : ProgramCall
    call = Calling x.name b.m b.text b.result b.values

    abbrev held : Answers → Answers
    held q = before 3 ++ Done ∷ q

    course : (y : Answer Value) → IsCourseBy 0 (Reference o) y (body_of b)
    course = body_course x.own x.others x.makes file x.plain program o l x.class f b.m x.name b.n refl refl b.locked
        b.values

    entries : (i : ℕ) → i < 3 → IsEntry file program locks b.n call before i
    entries zero lt = record {
      action = act.ReadName x.name;
      sort = named program x.name;
      answer = Gives (Reference o);
      asks = refl;
      does = λ s t good. ap (λ v. Does s (Gives v)) (named_of s good);
      silent = λ t. refl;
      more = refl;
    }
    entries (suc zero) lt = record {
      action = act.Enter b.m;
      sort = NoValue;
      answer = Done;
      asks = asks_enter x.own x.others x.makes file x.plain program o l x.class f b.m x.name b.n refl refl b.locked
          b.values b.text
          b.result;
      does = λ s t good. refl;
      silent = λ t. refl;
      more = refl;
    }
    entries (suc (suc zero)) lt = record {
      action = act.ReadField o f;
      sort = _;
      answer = Gives (Reference l);
      asks = asks_field x.own x.others x.makes file x.plain program o l x.class f b.m x.name b.n refl refl b.locked
          b.values b.text
          b.result;
      does = gives_of;
      silent = λ t. refl;
      more = refl;
    }
    entries (suc (suc (suc i))) lt = absurd (omega arith)

    abbrev Outcome : Answers → Type 0
    Outcome q = IsAsking file program locks b.n call b held q ⊎ IsClosing file program locks b.n call b held q

    -- what the body asks for is safe
    told : (q : Answers) → AllOther o q → IsToldBy o f far own' help' file.classes (invoke file 63)
        (invoke_safe o f far own' help' file x.clean 63) true (body_of b q)
    told q others = (execute_safe o f far own' help' file.classes (invoke file 63)
        (invoke_safe o f far own' help' file x.clean 63) true b.locked.inner b.locked.clean
        (set_all b.locked.before (frame b.locked.method.slots (Reference o ∷ b.values)))
        (settings_other b.locked.before b.locked.silent (frame b.locked.method.slots (Reference o ∷ b.values))
        (own_frame o f far b.locked.method.slots (Reference o) b.values b.other))).on q others

    by_asks : (q : Answers) → AllOther o q → (a : Action Value) (sort : Sort) → body_of b q ≡ AsksFor a sort → Outcome q
    by_asks q others a sort is = inl (record {
      action = a;
      sort = sort;
      asks = asks_inside x.own x.others x.makes file x.plain program o l x.class f b.m x.name b.n refl refl b.locked
          b.values b.text
          b.result q a sort is;
      silent = λ t. inner_silent t a (onward Done).0;
      acts = λ s t. inner_acts file.classes s t a (onward Done).0;
      goes = λ s store t y h does.
          let left = safe_left o f far file.classes l (HeldBy t 1) s store t a y h.ours safe does in (
            record { ours = left.ours; named = ap (λ ns. slice_index_or ns x.name (Reference 0)) left.names ∙ h.named },
            inl (record { spent = (onward y).1; others = all_more q y others left.answer }),
          );
    })
      where
        onward : (y : Answer Value) → GoesOnBy 0 (Reference o) y (AsksFor a sort) (body_of b (q ++ y ∷ []))
        onward y = subst (λ e. GoesOnBy 0 (Reference o) y e (body_of b (q ++ y ∷ []))) is ((course y).on q).is

        safe_told : IsToldBy o f far own' help' file.classes (invoke file 63)
            (invoke_safe o f far own' help' file x.clean 63) true (AsksFor a sort)
        safe_told = subst (IsToldBy o f far own' help' file.classes (invoke file 63)
            (invoke_safe o f far own' help' file x.clean 63) true) is (told q others)

        safe : IsSafe o f a
        safe = safe_told.is

    by_end : (q : Answers) (d : Completion Value) (ls : List Value) → body_of b q ≡ Completes d ls [] → Outcome q
    by_end q d ls is = inl (record {
      action = act.ReadField o f;
      sort = _;
      asks = asks_again x.own x.others x.makes file x.plain program o l x.class f b.m x.name b.n refl refl b.locked
          b.values b.text
          b.result q d ls is;
      silent = λ t. refl;
      acts = λ s t. inner_acts file.classes s t (act.ReadField o f) tt;
      goes = λ s store t y h does.
          let same = sym (gives_of s t (inr (t, h))) ∙ does in (
            subst (IsLockSo (HeldBy t 1)) (sym (does_store same)) h,
            inr (record { old = q; d = d; ls = ls; is = is; more = ap (λ z. q ++ z ∷ []) (does_answer same) }),
          );
    })

    by_read : (q : Answers) → IsRead b q → Outcome q
    by_read q r = inr (record {
      asks = ap (λ z. one_call file program b.n call (held z)) r.more
          ∙ asks_unlock x.own x.others x.makes file x.plain program o l x.class f b.m x.name b.n refl refl b.locked
          b.values b.text
          b.result r.old r.d r.ls r.is;
      ends = subst (λ z. EndsSo (λ rest. one_call file program b.n call (held (z ++ Done ∷ rest)))) (sym r.more)
          (ends_as r.old (ends x.own x.others x.makes file x.plain program o l x.class f b.m x.name b.n refl refl
          b.locked b.values
          b.text b.result r.old r.d r.ls r.is));
    })
      where
        regroup : (old rest : Answers) → (old ++ Gives (Reference l) ∷ []) ++ Done ∷ rest ≡
            old ++ Gives (Reference l) ∷ Done ∷ rest
        regroup old rest = append_assoc old (Gives (Reference l) ∷ []) (Done ∷ rest)

        ends_as : (old : Answers) →
            EndsSo (λ rest. one_call file program b.n call (held (old ++ Gives (Reference l) ∷ Done ∷ rest))) →
            EndsSo (λ rest. one_call file program b.n call (held ((old ++ Gives (Reference l) ∷ []) ++ Done ∷ rest)))
        ends_as old (inl (v, h)) = inl (
          v,
          λ rest. ap (λ z. one_call file program b.n call (held z))
              (regroup old rest) ∙ h rest,
        )
        ends_as old (inr (k, h)) = inr (
          k,
          λ rest. ap (λ z. one_call file program b.n call (held z))
              (regroup old rest) ∙ h rest,
        )

    stands_so : (q : Answers) → StandsSo b q → Outcome q
    stands_so q (inr r) = by_read q r
    stands_so q (inl w) = by_body (body_of b q) refl w.spent
      where
        by_body : (e : Executed) → body_of b q ≡ e → SpentBy 0 (Reference o) (body_of b q) → Outcome q
        by_body (AsksFor a sort) is spent = by_asks q w.others a sort is
        by_body (Completes d ls rest) is spent =
            let none : LeavesNoneBy 0 (Reference o) (Completes d ls rest) =
            subst (LeavesNoneBy 0 (Reference o)) is spent.is in
            by_end q d ls (is ∙ ap (Completes d ls) none.0)

    -- a call of a method with the lock round its body has the course of a guarded call
    pub in_kit : IsGuarded file program locks b.n call
    in_kit = record {
      body = b;
      last = 3;
      before = before;
      begins = refl;
      call = refl;
      entry = entries;
      locks = asks_lock x.own x.others x.makes file x.plain program o l x.class f b.m x.name b.n refl refl b.locked
          b.values b.text
          b.result;
      first = inl (record { spent = (course Done).spent; others = tt });
      stands = stands_so;
    }
