-- What guards the methods of a class, and its programs.
use Rattle.std.proofs.Common.{arith, ◌≡◌, inl, inr, ◌<◌, ◌+◌, ℕ, zero, suc, Bool, true, List, [], ◌∷◌, Some}
use Rattle.std.proofs.Common.{refl, Contains, length, slice_get, ◌∙◌, ap, subst}
use Rattle.ls_events.specs.declared.value.Value.{Value}
use Rattle.ls_checked.specs.CheckedTree.{Class, File, Method, Statement, Statements, Then, Done, Block, SetSlot}
use Rattle.ls_checked.specs.CheckedTree.{SetField, Slot, Try, MakeLock}
use Rattle.ls_checked.specs.CheckedTree.{AddField, SetItem, Evaluate, If, While, Break, Continue, ReturnNothing}
use Rattle.ls_checked.specs.CheckedTree.{ReturnValue}
use Rattle.ls_checked.specs.CheckedProgram.{Program, ProgramCall, Making, Calling}
use Rattle.ls_meaning.specs.Threads.{calls_in}
use Rattle.ls_one_at_a_time.specs.Inner.{AreHelpers, IsSynchronized, RunsPlain, RunPlain}
use Rattle.ls_one_at_a_time.specs.Clean.{AreCleanMethods, RunsClean, RunClean}
use Rattle.ls_one_at_a_time.specs.Laws.{AreSynchronized}
use Rattle.ls_one_at_a_time.specs.Locked.{IsLocked, IsLocking, AreLocked, NameNone, IsCallee, Setting}
use Rattle.ls_one_at_a_time.specs.Locked.{settings, field_settings, AreSilent, AllSilent, IsAfter}
use Rattle.ls_guarded.specs.Marks.{marked, IsMarked, EachOf}
use Rattle.ls_guarded.specs.Methods.{KeepsMonitor, KeepsLock, AreKeptFrom, IsKept, IsGuarded, IsMade, HasField}
use Rattle.ls_guarded.specs.Rounds.{IsGuardedRun, IsMakingRun, IsRound, IsSetting, lock_field, unlock_field}
use Rattle.ls_guarded.specs.Guards.{NameNoObject, AreCallsOf, IsMonitorOf, IsLockOf, IsLockedBy, IsOnOne}
use Rattle.ls_guarded.proofs.Found.{helpers}
use Rattle.ls_guarded.proofs.Grows.{runs_plain, run_plain}

one_of : (P : ℕ → Type 0) (ms : List ℕ) → EachOf P ms → (m : ℕ) → Contains ms m → P m
one_of P [] all m (k, less, is) = absurd (omega arith)
one_of P (x ∷ xs) all m (zero, less, is) = subst P is all.0
one_of P (x ∷ xs) all m (suc k, less, is) =
    let below : k < length xs = omega arith in
    one_of P xs all.1 m (k, below, is)

-- ---- monitors

synchronized_calls : (Helps : ℕ → Type 0) (file : File) (ms : List ℕ) → EachOf (λ m. IsSynchronized Helps file m) ms →
    (name : ℕ) (cs : List ProgramCall) → AreCallsOf ms name cs → AreSynchronized Helps file name cs
synchronized_calls Helps file ms all name [] x = tt
synchronized_calls Helps file ms all name (Making n c text values ∷ cs) x = absurd x.0
synchronized_calls Helps file ms all name (Calling n m text result values ∷ cs) x =
    (x.0.0, one_of (λ m. IsSynchronized Helps file m) ms all m x.0.1, synchronized_calls Helps file ms all name cs x.1)

-- what keeps the form of monitors is guarded by the monitor
pub monitor : (marks : List Bool) (file : File) (class : ℕ) (methods : List ℕ) → KeepsMonitor marks file class methods →
    IsMonitorOf file class methods
monitor marks file class methods x program p = record {
  helps = marked marks;
  helpers = helpers marks file x.kept;
  name = p.name;
  class = class;
  text = p.text;
  values = p.values;
  others = p.others;
  setup = p.setup;
  known = p.known;
  constructor = x.constructor;
  more = synchronized_calls (IsMarked marks) file methods x.all p.name p.others p.more;
  calls = λ t ne. synchronized_calls (IsMarked marks) file methods x.all p.name
      (calls_in (slice_get program.threads t)) (p.calls t ne);
}

-- ---- a lock in a field

kept_one : (calls own others : List Bool) (classes : List Class) (f k : ℕ) (xs : List Method) →
    AreKeptFrom calls own others classes f k xs → (m : ℕ) (method : Method) → slice_get xs m ≡ Some method →
    IsKept calls own others classes f (k + m) method
kept_one calls own others classes f k [] all m method there = cc
kept_one calls own others classes f k (x ∷ xs) all zero method there =
    let at : k ≡ k + 0 = omega arith in
    let same : x ≡ method = cc in
    subst (λ n. IsKept calls own others classes f n method) at
    (subst (λ y. IsKept calls own others classes f k y) same all.0)
kept_one calls own others classes f k (x ∷ xs) all (suc m) method there =
    let at : suc k + m ≡ k + suc m = omega arith in
    subst (λ n. IsKept calls own others classes f n method) at
    (kept_one calls own others classes f (suc k) xs all.1 m method there)

module _ (calls own others : List Bool) where
  abbrev Callee : ℕ → Type 0
  Callee = IsCallee (marked own) (marked others) (marked calls)

  callee : (m : ℕ) → IsMarked calls m → Callee m
  callee m x = inr (inr x)

  plain_callee : (classes : List Class) (s : Statement) → RunsPlain (IsMarked calls) classes 0 s →
      RunsPlain Callee classes 0 s
  plain_callee classes s x = runs_plain (IsMarked calls) Callee classes callee 0 s x

  module _ (file : File) (c f : ℕ) (kept : AreKeptFrom calls own others file.classes f 0 file.methods) where
    kept_at : (m : ℕ) (method : Method) → slice_get file.methods m ≡ Some method →
        IsKept calls own others file.classes f m method
    kept_at m method there =
        let at : 0 + m ≡ m = omega arith in
        subst (λ n. IsKept calls own others file.classes f n method) at
        (kept_one calls own others file.classes f 0 file.methods kept m method there)

    plain_of : (m : ℕ) (method : Method) → IsKept calls own others file.classes f m method → Callee m →
        RunsPlain (IsMarked calls) file.classes 0 method.body
    plain_of m method k (inl x) = k.on_this x
    plain_of m method k (inr (inl x)) = k.on_others x
    plain_of m method k (inr (inr x)) = k.called x

    all_plain : AreHelpers Callee file
    all_plain m method is there =
        (0, plain_callee file.classes method.body (plain_of m method (kept_at m method there) is))

    all_clean : AreCleanMethods (IsMarked own) (IsMarked others) f file
    all_clean = record {
      own = λ m method is there. (kept_at m method there).clean is;
      others = λ m method is there. (kept_at m method there).clean_others is;
    }

  -- ---- the parts of a guarded body
  module _ (classes : List Class) (c f : ℕ) where
    record Parts (ss : Statements) : Type 0 where
      before : List Setting
      inner : Statement
      last : Statements
      is : ss ≡ settings before (Then (lock_field c f) (Then (Try inner (Block (Then (unlock_field c f) Done))) last))
      after : IsAfter last
      silent : AreSilent before
      plain : RunsPlain Callee classes 0 inner
      clean : RunsClean (IsMarked own) (IsMarked others) classes f true inner

    abbrev Run : Statements → Type 0
    Run = IsGuardedRun (IsMarked calls) (IsMarked own) (IsMarked others) classes c f

    abbrev Round : Statements → Type 0
    Round = IsRound (IsMarked calls) (IsMarked own) (IsMarked others) classes c f

    from_lock : (s : Statement) (ss : Statements) → s ≡ lock_field c f → Round ss → Parts (Then s ss)
    from_lock s Done e x = absurd x
    from_lock s (Then u ss) e x = record {
      before = [];
      inner = x.0.inner;
      last = ss;
      is = ap (λ a. Then a (Then u ss)) e ∙ ap (λ a. Then (lock_field c f) (Then a ss)) x.0.is;
      after = x.1;
      silent = tt;
      plain = plain_callee classes x.0.inner x.0.plain;
      clean = x.0.clean;
    }

    set_first : (s : Statement) (ss : Statements) → IsSetting s → Parts ss → Parts (Then s ss)
    set_first (SetSlot n e) ss x p = record {
      before = record { slot = n; value = e } ∷ p.before;
      inner = p.inner;
      last = p.last;
      is = ap (λ a. Then (SetSlot n e) a) p.is;
      after = p.after;
      silent = (x.0, x.1, p.silent);
      plain = p.plain;
      clean = p.clean;
    }
    set_first (Block _) ss x p = absurd x
    set_first (SetField _ _ _) ss x p = absurd x
    set_first (AddField _ _ _) ss x p = absurd x
    set_first (SetItem _ _ _) ss x p = absurd x
    set_first (Evaluate _) ss x p = absurd x
    set_first (If _ _ _) ss x p = absurd x
    set_first (While _ _) ss x p = absurd x
    set_first (Break _) ss x p = absurd x
    set_first (Continue _) ss x p = absurd x
    set_first ReturnNothing ss x p = absurd x
    set_first (ReturnValue _) ss x p = absurd x
    set_first (Try _ _) ss x p = absurd x

    parts : (ss : Statements) → Run ss → Parts ss
    parts Done x = absurd x
    parts (Then s ss) (inl x) = from_lock s ss x.0 x.1
    parts (Then s ss) (inr x) = set_first s ss x.0 (parts ss x.1)

    -- ---- those of the constructor
    record MakingParts (ss : Statements) : Type 0 where
      before : List Setting
      rest : Statements
      is : ss ≡ field_settings before (Then (SetField (Slot 0) f MakeLock) rest)
      silent : AllSilent before
      plain : RunPlain Callee classes 0 rest
      clean : RunClean (IsMarked own) (IsMarked others) classes f true rest

    making_parts : (ss : Statements) → IsMakingRun (IsMarked calls) (IsMarked own) (IsMarked others) classes c f ss →
        MakingParts ss
    making_parts Done x = absurd x
    making_parts (Then s ss) (inl x) = record {
      before = [];
      rest = ss;
      is = ap (λ a. Then a ss) x.0;
      silent = tt;
      plain = run_plain (IsMarked calls) Callee classes callee 0 ss x.1;
      clean = x.2;
    }
    making_parts (Then s ss) (inr x) =
        let p = making_parts ss x.1 in
        record {
          before = record { slot = x.0.field; value = x.0.value } ∷ p.before;
          rest = p.rest;
          is = ap (λ a. Then a ss) x.0.is ∙ ap (λ a. Then (SetField (Slot 0) x.0.field x.0.value) a) p.is;
          silent = (x.0.silent, p.silent);
          plain = p.plain;
          clean = p.clean;
        }

  module _ (file : File) (c f : ℕ) where
    abbrev Guarded : ℕ → Type 0
    Guarded m = IsGuarded calls own others file c f m

    abbrev Locked : ℕ → Type 0
    Locked m = IsLocked (marked own) (marked others) (marked calls) file c f m

    locked : (m : ℕ) → Guarded m → Locked m
    locked m x =
        let p = parts file.classes c f x.body.run x.body.guarded in
        record {
          method = x.method;
          before = p.before;
          inner = p.inner;
          last = p.last;
          there = x.there;
          is = x.body.is ∙ ap Block p.is;
          after = p.after;
          silent = p.silent;
          plain = p.plain;
          clean = p.clean;
        }

    locking : HasField file c f → IsMade calls own others file c f →
        IsLocking (marked own) (marked others) (marked calls) file c f
    locking h x =
        let p = making_parts file.classes c f x.body.run x.body.making in
        record {
          class = h.class;
          class_there = h.there;
          field = h.field;
          method = x.method;
          before = p.before;
          silent = p.silent;
          rest = p.rest;
          there = x.there;
          is = x.body.is ∙ ap Block p.is;
          plain = p.plain;
          clean = p.clean;
        }

    none : (vs : List Value) → NameNoObject vs → NameNone (marked own) (marked others) (marked calls) vs
    none [] x = tt
    none (v ∷ vs) x = (x.0, none vs x.1)

    locked_calls : (ms : List ℕ) → EachOf Guarded ms → (name : ℕ) (cs : List ProgramCall) → AreCallsOf ms name cs →
        AreLocked (marked own) (marked others) (marked calls) file c f name cs
    locked_calls ms all name [] x = tt
    locked_calls ms all name (Making n k text values ∷ cs) x = absurd x.0
    locked_calls ms all name (Calling n m text result values ∷ cs) x =
        (x.0.0, locked m (one_of Guarded ms all m x.0.1), none values x.0.2, locked_calls ms all name cs x.1)

runs_locked : (calls own others : List Bool) (file : File) (class f : ℕ) (methods : List ℕ) →
    KeepsLock calls own others file class f methods → (program : Program) → IsOnOne class methods program →
    IsLockedBy f file program
runs_locked calls own others file class f methods x program p = record {
  runs = record {
    own = marked own;
    others = marked others;
    makes = marked calls;
    plain = all_plain calls own others file class f x.kept;
    name = p.name;
    class = class;
    field = f;
    clean = all_clean calls own others file class f x.kept;
    text = p.text;
    values = p.values;
    null = none calls own others file class f p.values p.null;
    more = p.others;
    setup = p.setup;
    known = p.known;
    constructor = locking calls own others file class f x.has x.made;
    callee = callee calls own others _ x.constructor;
    locked = locked_calls calls own others file class f methods x.all p.name p.others p.more;
    calls = λ t ne. locked_calls calls own others file class f methods x.all p.name
        (calls_in (slice_get program.threads t)) (p.calls t ne);
  };
  by = refl;
}

-- what keeps the form of a field's lock is guarded by that lock
pub lock : (calls own others : List Bool) (file : File) (class f : ℕ) (methods : List ℕ) →
    KeepsLock calls own others file class f methods → IsLockOf file class f methods
lock calls own others file class f methods x program p = runs_locked calls own others file class f methods x program p
