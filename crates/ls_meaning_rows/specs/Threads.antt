-- Threads of a program, exceptions and locks (java.util.concurrent.locks.ReentrantLock). Each text is above its
-- checked file. Then come its thread program, schedule and trace.
use Rattle.std.specs.Prelude.{◌≡◌, [], ◌∷◌, ◌++◌, replicate, None, Some}
use Rattle.ls_events.specs.declared.value.ValueType.TheVariants as types
use Rattle.ls_events.specs.declared.kind.Kind.TheVariants as kinds
use Rattle.ls_events.specs.declared.action.Action.TheVariants.{ReadField, WriteField, ReadItem, WriteItem, ReadName}
use Rattle.ls_events.specs.declared.action.Action.TheVariants.{WriteName, New, NewLock, NewMarkable, NewArray, Lock}
use Rattle.ls_events.specs.declared.action.Action.TheVariants.{Unlock, TryLock, IsHeld, ReadPair, SetPair, SwapPair}
use Rattle.ls_events.specs.declared.action.Action.TheVariants.{AttemptMark, Turn, Enter, Return, Trap}
use Rattle.ls_events.specs.declared.action.Action.TheVariants as actions
use Rattle.ls_checked.specs.declared.tree.Operator.TheVariants as operators
use Rattle.ls_checked.specs.declared.tree.Called.TheVariants as called
use Rattle.ls_checked.specs.CheckedTree.{Literal, Slot, Field, Binary, Call, MakeObject, MakeLock, End, SetSlot}
use Rattle.ls_checked.specs.CheckedTree.{SetField, Evaluate, ReturnValue, Try}
use Rattle.ls_meaning.specs.Runs.{source_trace}
use Rattle.ls_meaning_rows.specs.Made.{int, yes, no, at, block, one_class, method, making, calling, program, line, done}
use Rattle.ls_meaning_rows.specs.Made.{gives, fails}

-- class C { int v; int f() { return v; } C() { v = 1; } }
abbrev pub NoStartBeforeTheSetupHasEnded : Type 0
NoStartBeforeTheSetupHasEnded =
    source_trace
    (record {
      classes = (one_class (types.Int ∷ []) 1 ∷ []);
      methods =
          (method 0 0 ((types.Class 0) ∷ []) (Some types.Int) (block ((ReturnValue (Field (Slot 0) 0 0)) ∷ []))
          ∷ method 0 0 ((types.Class 0) ∷ []) None (block ((SetField (Slot 0) 0 (Literal (int 1))) ∷ []))
          ∷ []);
    })
    (program (0 ∷ []) ((making 0 0 [] ∷ []) ∷ (calling 0 0 [] ∷ []) ∷ []))
    (replicate 5 1 ++ replicate 5 0 ++ replicate 5 1 ++ replicate 1 0 ++ replicate 9 1 ++ replicate 9 2)
    ≡
    (line 0 (actions.Call 1) done
    ∷ line 0 (New 0) (gives (at 1))
    ∷ line 0 (Enter 1) done
    ∷ line 0 (WriteField 1 0 (int 1)) done
    ∷ line 0 (WriteName 0 (at 1)) done
    ∷ line 0 (Return 1 None) done
    ∷ line 1 (actions.Call 1) done
    ∷ line 1 (ReadName 0) (gives (at 1))
    ∷ line 1 (Enter 0) done
    ∷ line 1 (ReadField 1 0) (gives (int 1))
    ∷ line 1 (Return 1 (Some (int 1))) done
    ∷ [])

-- C() { v = 1 / 0; }
abbrev pub NoStartAfterATrapOfTheSetup : Type 0
NoStartAfterATrapOfTheSetup =
    source_trace
    (record {
      classes = (one_class (types.Int ∷ []) 1 ∷ []);
      methods =
          (method 0 0 ((types.Class 0) ∷ []) (Some types.Int) (block ((ReturnValue (Field (Slot 0) 0 0)) ∷ []))
          ∷ method 0 0 ((types.Class 0) ∷ []) None
          (block ((SetField (Slot 0) 0 (Binary operators.Divide (Literal (int 1)) (Literal (int 0)))) ∷ []))
          ∷ []);
    })
    (program (0 ∷ []) ((making 0 0 [] ∷ []) ∷ (calling 0 0 [] ∷ []) ∷ []))
    (replicate 5 1 ++ replicate 9 0 ++ replicate 9 1 ++ replicate 3 0)
    ≡
    (line 0 (actions.Call 1) done
    ∷ line 0 (New 0) (gives (at 1))
    ∷ line 0 (Enter 1) done
    ∷ line 0 (Trap 1 kinds.Arithmetic) done
    ∷ [])

-- void f() { v = 1 / v; }, called twice
abbrev pub NoStepAfterATrap : Type 0
NoStepAfterATrap =
    source_trace
    (record {
      classes = (one_class (types.Int ∷ []) 1 ∷ []);
      methods =
          (method 0 0 ((types.Class 0) ∷ []) None
          (block ((SetField (Slot 0) 0 (Binary operators.Divide (Literal (int 1)) (Field (Slot 0) 0 0))) ∷ []))
          ∷ method 0 0 ((types.Class 0) ∷ []) None (block [])
          ∷ []);
    })
    (program (0 ∷ []) ((making 0 0 [] ∷ []) ∷ (calling 0 0 [] ∷ calling 0 0 [] ∷ []) ∷ []))
    (replicate 9 0 ++ replicate 99 1)
    ≡
    (line 0 (actions.Call 1) done
    ∷ line 0 (New 0) (gives (at 1))
    ∷ line 0 (Enter 1) done
    ∷ line 0 (WriteName 0 (at 1)) done
    ∷ line 0 (Return 1 None) done
    ∷ line 1 (actions.Call 1) done
    ∷ line 1 (ReadName 0) (gives (at 1))
    ∷ line 1 (Enter 0) done
    ∷ line 1 (ReadField 1 0) (gives (int 0))
    ∷ line 1 (Trap 1 kinds.Arithmetic) done
    ∷ [])

-- class C { int v = 1 / 0; C() { v = 2; } }
abbrev pub ExceptionOfAnInitialiser : Type 0
ExceptionOfAnInitialiser =
    source_trace
    (record {
      classes = (one_class (types.Int ∷ []) 1 ∷ []);
      methods =
          (method 0 0 ((types.Class 0) ∷ []) (Some types.Int) (block ((ReturnValue (Field (Slot 0) 0 0)) ∷ []))
          ∷ method 0 0 ((types.Class 0) ∷ []) None
          (block ((SetField (Slot 0) 0 (Binary operators.Divide (Literal (int 1)) (Literal (int 0)))) ∷
          (SetField (Slot 0) 0 (Literal (int 2))) ∷ []))
          ∷ []);
    })
    (program (0 ∷ []) ((making 0 0 [] ∷ []) ∷ (calling 0 0 [] ∷ []) ∷ []))
    (replicate 9 0 ++ replicate 99 1)
    ≡
    (line 0 (actions.Call 1) done
    ∷ line 0 (New 0) (gives (at 1))
    ∷ line 0 (Enter 1) done
    ∷ line 0 (Trap 1 kinds.Arithmetic) done
    ∷ [])

-- int f() { try { new D(); } finally { v = 1; } return 1; } class D { D() { int x = 1 / 0; } }
abbrev pub ExceptionOfAConstructor : Type 0
ExceptionOfAConstructor =
    source_trace
    (record {
      classes = (one_class (types.Int ∷ []) 1 ∷ one_class [] 2 ∷ []);
      methods =
          (method 0 0 ((types.Class 0) ∷ []) (Some types.Int)
          (block ((Try (block ((Evaluate (MakeObject 1 End)) ∷ []))
          (block ((SetField (Slot 0) 0 (Literal (int 1))) ∷ []))) ∷ (ReturnValue (Literal (int 1))) ∷ []))
          ∷ method 0 0 ((types.Class 0) ∷ []) None (block [])
          ∷ method 1 0 ((types.Class 1) ∷ types.Int ∷ []) None
          (block ((block ((SetSlot 1 (Literal (int 0))) ∷
          (SetSlot 1 (Binary operators.Divide (Literal (int 1)) (Literal (int 0)))) ∷ [])) ∷ []))
          ∷ []);
    })
    (program (0 ∷ []) ((making 0 0 [] ∷ []) ∷ (calling 0 0 [] ∷ []) ∷ []))
    (replicate 9 0 ++ replicate 99 1)
    ≡
    (line 0 (actions.Call 1) done
    ∷ line 0 (New 0) (gives (at 1))
    ∷ line 0 (Enter 1) done
    ∷ line 0 (WriteName 0 (at 1)) done
    ∷ line 0 (Return 1 None) done
    ∷ line 1 (actions.Call 1) done
    ∷ line 1 (ReadName 0) (gives (at 1))
    ∷ line 1 (Enter 0) done
    ∷ line 1 (New 1) (gives (at 2))
    ∷ line 1 (Enter 2) done
    ∷ line 1 (WriteField 1 0 (int 1)) done
    ∷ line 1 (Trap 1 kinds.Arithmetic) done
    ∷ [])

-- class C { Lock l = new ReentrantLock(); void in() { l.lock(); } void out() { l.unlock(); }
--   boolean t() { return l.tryLock(); } boolean h() { return l.isHeldByCurrentThread(); } }, A in out, B in
abbrev pub AHeldLockIsWaitedFor : Type 0
AHeldLockIsWaitedFor =
    source_trace
    (record {
      classes = (one_class (types.Lock ∷ []) 4 ∷ []);
      methods =
          (method 0 0 ((types.Class 0) ∷ []) None (block ((Evaluate (Call (Field (Slot 0) 0 0) called.LockIt End)) ∷
          []))
          ∷ method 0 0 ((types.Class 0) ∷ []) None (block ((Evaluate (Call (Field (Slot 0) 0 0) called.UnlockIt End)) ∷
          []))
          ∷ method 0 0 ((types.Class 0) ∷ []) (Some types.Boolean)
          (block ((ReturnValue (Call (Field (Slot 0) 0 0) called.TryIt End)) ∷ []))
          ∷ method 0 0 ((types.Class 0) ∷ []) (Some types.Boolean)
          (block ((ReturnValue (Call (Field (Slot 0) 0 0) called.AskIt End)) ∷ []))
          ∷ method 0 0 ((types.Class 0) ∷ []) None (block ((SetField (Slot 0) 0 MakeLock) ∷ []))
          ∷ []);
    })
    (program (0 ∷ []) ((making 0 0 [] ∷ []) ∷ (calling 0 0 [] ∷ calling 0 1 [] ∷ []) ∷ (calling 0 0 [] ∷ []) ∷ []))
    (replicate 9 0 ++ replicate 6 1 ++ replicate 9 2 ++ replicate 9 1 ++ replicate 9 2)
    ≡
    (line 0 (actions.Call 1) done
    ∷ line 0 (New 0) (gives (at 1))
    ∷ line 0 (Enter 4) done
    ∷ line 0 NewLock (gives (at 2))
    ∷ line 0 (WriteField 1 0 (at 2)) done
    ∷ line 0 (WriteName 0 (at 1)) done
    ∷ line 0 (Return 1 None) done
    ∷ line 1 (actions.Call 1) done
    ∷ line 1 (ReadName 0) (gives (at 1))
    ∷ line 1 (Enter 0) done
    ∷ line 1 (ReadField 1 0) (gives (at 2))
    ∷ line 1 (Lock 2) done
    ∷ line 1 (Return 1 None) done
    ∷ line 2 (actions.Call 1) done
    ∷ line 2 (ReadName 0) (gives (at 1))
    ∷ line 2 (Enter 0) done
    ∷ line 2 (ReadField 1 0) (gives (at 2))
    ∷ line 1 (actions.Call 2) done
    ∷ line 1 (ReadName 0) (gives (at 1))
    ∷ line 1 (Enter 1) done
    ∷ line 1 (ReadField 1 0) (gives (at 2))
    ∷ line 1 (Unlock 2) done
    ∷ line 1 (Return 2 None) done
    ∷ line 2 (Lock 2) done
    ∷ line 2 (Return 1 None) done
    ∷ [])

-- A in, B out, A h
abbrev pub UnlockOfALockThatAnotherHolds : Type 0
UnlockOfALockThatAnotherHolds =
    source_trace
    (record {
      classes = (one_class (types.Lock ∷ []) 4 ∷ []);
      methods =
          (method 0 0 ((types.Class 0) ∷ []) None (block ((Evaluate (Call (Field (Slot 0) 0 0) called.LockIt End)) ∷
          []))
          ∷ method 0 0 ((types.Class 0) ∷ []) None (block ((Evaluate (Call (Field (Slot 0) 0 0) called.UnlockIt End)) ∷
          []))
          ∷ method 0 0 ((types.Class 0) ∷ []) (Some types.Boolean)
          (block ((ReturnValue (Call (Field (Slot 0) 0 0) called.TryIt End)) ∷ []))
          ∷ method 0 0 ((types.Class 0) ∷ []) (Some types.Boolean)
          (block ((ReturnValue (Call (Field (Slot 0) 0 0) called.AskIt End)) ∷ []))
          ∷ method 0 0 ((types.Class 0) ∷ []) None (block ((SetField (Slot 0) 0 MakeLock) ∷ []))
          ∷ []);
    })
    (program (0 ∷ []) ((making 0 0 [] ∷ []) ∷ (calling 0 0 [] ∷ calling 0 3 [] ∷ []) ∷ (calling 0 1 [] ∷ []) ∷ []))
    (replicate 9 0 ++ replicate 6 1 ++ replicate 9 2 ++ replicate 9 1)
    ≡
    (line 0 (actions.Call 1) done
    ∷ line 0 (New 0) (gives (at 1))
    ∷ line 0 (Enter 4) done
    ∷ line 0 NewLock (gives (at 2))
    ∷ line 0 (WriteField 1 0 (at 2)) done
    ∷ line 0 (WriteName 0 (at 1)) done
    ∷ line 0 (Return 1 None) done
    ∷ line 1 (actions.Call 1) done
    ∷ line 1 (ReadName 0) (gives (at 1))
    ∷ line 1 (Enter 0) done
    ∷ line 1 (ReadField 1 0) (gives (at 2))
    ∷ line 1 (Lock 2) done
    ∷ line 1 (Return 1 None) done
    ∷ line 2 (actions.Call 1) done
    ∷ line 2 (ReadName 0) (gives (at 1))
    ∷ line 2 (Enter 1) done
    ∷ line 2 (ReadField 1 0) (gives (at 2))
    ∷ line 2 (Unlock 2) (fails kinds.IllegalMonitorState)
    ∷ line 2 (Trap 1 kinds.IllegalMonitorState) done
    ∷ line 1 (actions.Call 2) done
    ∷ line 1 (ReadName 0) (gives (at 1))
    ∷ line 1 (Enter 3) done
    ∷ line 1 (ReadField 1 0) (gives (at 2))
    ∷ line 1 (IsHeld 2) (gives yes)
    ∷ line 1 (Return 2 (Some yes)) done
    ∷ [])

-- A out
abbrev pub UnlockOfAFreeLock : Type 0
UnlockOfAFreeLock =
    source_trace
    (record {
      classes = (one_class (types.Lock ∷ []) 4 ∷ []);
      methods =
          (method 0 0 ((types.Class 0) ∷ []) None (block ((Evaluate (Call (Field (Slot 0) 0 0) called.LockIt End)) ∷
          []))
          ∷ method 0 0 ((types.Class 0) ∷ []) None (block ((Evaluate (Call (Field (Slot 0) 0 0) called.UnlockIt End)) ∷
          []))
          ∷ method 0 0 ((types.Class 0) ∷ []) (Some types.Boolean)
          (block ((ReturnValue (Call (Field (Slot 0) 0 0) called.TryIt End)) ∷ []))
          ∷ method 0 0 ((types.Class 0) ∷ []) (Some types.Boolean)
          (block ((ReturnValue (Call (Field (Slot 0) 0 0) called.AskIt End)) ∷ []))
          ∷ method 0 0 ((types.Class 0) ∷ []) None (block ((SetField (Slot 0) 0 MakeLock) ∷ []))
          ∷ []);
    })
    (program (0 ∷ []) ((making 0 0 [] ∷ []) ∷ (calling 0 1 [] ∷ []) ∷ []))
    (replicate 9 0 ++ replicate 99 1)
    ≡
    (line 0 (actions.Call 1) done
    ∷ line 0 (New 0) (gives (at 1))
    ∷ line 0 (Enter 4) done
    ∷ line 0 NewLock (gives (at 2))
    ∷ line 0 (WriteField 1 0 (at 2)) done
    ∷ line 0 (WriteName 0 (at 1)) done
    ∷ line 0 (Return 1 None) done
    ∷ line 1 (actions.Call 1) done
    ∷ line 1 (ReadName 0) (gives (at 1))
    ∷ line 1 (Enter 1) done
    ∷ line 1 (ReadField 1 0) (gives (at 2))
    ∷ line 1 (Unlock 2) (fails kinds.IllegalMonitorState)
    ∷ line 1 (Trap 1 kinds.IllegalMonitorState) done
    ∷ [])

-- A h in h, B h t
abbrev pub HeldByAnother : Type 0
HeldByAnother =
    source_trace
    (record {
      classes = (one_class (types.Lock ∷ []) 4 ∷ []);
      methods =
          (method 0 0 ((types.Class 0) ∷ []) None (block ((Evaluate (Call (Field (Slot 0) 0 0) called.LockIt End)) ∷
          []))
          ∷ method 0 0 ((types.Class 0) ∷ []) None (block ((Evaluate (Call (Field (Slot 0) 0 0) called.UnlockIt End)) ∷
          []))
          ∷ method 0 0 ((types.Class 0) ∷ []) (Some types.Boolean)
          (block ((ReturnValue (Call (Field (Slot 0) 0 0) called.TryIt End)) ∷ []))
          ∷ method 0 0 ((types.Class 0) ∷ []) (Some types.Boolean)
          (block ((ReturnValue (Call (Field (Slot 0) 0 0) called.AskIt End)) ∷ []))
          ∷ method 0 0 ((types.Class 0) ∷ []) None (block ((SetField (Slot 0) 0 MakeLock) ∷ []))
          ∷ []);
    })
    (program (0 ∷ []) ((making 0 0 [] ∷ []) ∷ (calling 0 3 [] ∷ calling 0 0 [] ∷ calling 0 3 [] ∷ []) ∷
    (calling 0 3 [] ∷ calling 0 2 [] ∷ []) ∷ []))
    (replicate 9 0 ++ replicate 99 1 ++ replicate 99 2)
    ≡
    (line 0 (actions.Call 1) done
    ∷ line 0 (New 0) (gives (at 1))
    ∷ line 0 (Enter 4) done
    ∷ line 0 NewLock (gives (at 2))
    ∷ line 0 (WriteField 1 0 (at 2)) done
    ∷ line 0 (WriteName 0 (at 1)) done
    ∷ line 0 (Return 1 None) done
    ∷ line 1 (actions.Call 1) done
    ∷ line 1 (ReadName 0) (gives (at 1))
    ∷ line 1 (Enter 3) done
    ∷ line 1 (ReadField 1 0) (gives (at 2))
    ∷ line 1 (IsHeld 2) (gives no)
    ∷ line 1 (Return 1 (Some no)) done
    ∷ line 1 (actions.Call 2) done
    ∷ line 1 (ReadName 0) (gives (at 1))
    ∷ line 1 (Enter 0) done
    ∷ line 1 (ReadField 1 0) (gives (at 2))
    ∷ line 1 (Lock 2) done
    ∷ line 1 (Return 2 None) done
    ∷ line 1 (actions.Call 3) done
    ∷ line 1 (ReadName 0) (gives (at 1))
    ∷ line 1 (Enter 3) done
    ∷ line 1 (ReadField 1 0) (gives (at 2))
    ∷ line 1 (IsHeld 2) (gives yes)
    ∷ line 1 (Return 3 (Some yes)) done
    ∷ line 2 (actions.Call 1) done
    ∷ line 2 (ReadName 0) (gives (at 1))
    ∷ line 2 (Enter 3) done
    ∷ line 2 (ReadField 1 0) (gives (at 2))
    ∷ line 2 (IsHeld 2) (gives no)
    ∷ line 2 (Return 1 (Some no)) done
    ∷ line 2 (actions.Call 2) done
    ∷ line 2 (ReadName 0) (gives (at 1))
    ∷ line 2 (Enter 2) done
    ∷ line 2 (ReadField 1 0) (gives (at 2))
    ∷ line 2 (TryLock 2) (gives no)
    ∷ line 2 (Return 2 (Some no)) done
    ∷ [])

-- A t t out, B t, A out, B t
abbrev pub TwoHoldsByTry : Type 0
TwoHoldsByTry =
    source_trace
    (record {
      classes = (one_class (types.Lock ∷ []) 4 ∷ []);
      methods =
          (method 0 0 ((types.Class 0) ∷ []) None (block ((Evaluate (Call (Field (Slot 0) 0 0) called.LockIt End)) ∷
          []))
          ∷ method 0 0 ((types.Class 0) ∷ []) None (block ((Evaluate (Call (Field (Slot 0) 0 0) called.UnlockIt End)) ∷
          []))
          ∷ method 0 0 ((types.Class 0) ∷ []) (Some types.Boolean)
          (block ((ReturnValue (Call (Field (Slot 0) 0 0) called.TryIt End)) ∷ []))
          ∷ method 0 0 ((types.Class 0) ∷ []) (Some types.Boolean)
          (block ((ReturnValue (Call (Field (Slot 0) 0 0) called.AskIt End)) ∷ []))
          ∷ method 0 0 ((types.Class 0) ∷ []) None (block ((SetField (Slot 0) 0 MakeLock) ∷ []))
          ∷ []);
    })
    (program (0 ∷ []) ((making 0 0 [] ∷ []) ∷ (calling 0 2 [] ∷ calling 0 2 [] ∷ calling 0 1 [] ∷ calling 0 1 [] ∷ []) ∷
    (calling 0 2 [] ∷ calling 0 2 [] ∷ []) ∷ []))
    (replicate 9 0 ++ replicate 18 1 ++ replicate 6 2 ++ replicate 6 1 ++ replicate 6 2)
    ≡
    (line 0 (actions.Call 1) done
    ∷ line 0 (New 0) (gives (at 1))
    ∷ line 0 (Enter 4) done
    ∷ line 0 NewLock (gives (at 2))
    ∷ line 0 (WriteField 1 0 (at 2)) done
    ∷ line 0 (WriteName 0 (at 1)) done
    ∷ line 0 (Return 1 None) done
    ∷ line 1 (actions.Call 1) done
    ∷ line 1 (ReadName 0) (gives (at 1))
    ∷ line 1 (Enter 2) done
    ∷ line 1 (ReadField 1 0) (gives (at 2))
    ∷ line 1 (TryLock 2) (gives yes)
    ∷ line 1 (Return 1 (Some yes)) done
    ∷ line 1 (actions.Call 2) done
    ∷ line 1 (ReadName 0) (gives (at 1))
    ∷ line 1 (Enter 2) done
    ∷ line 1 (ReadField 1 0) (gives (at 2))
    ∷ line 1 (TryLock 2) (gives yes)
    ∷ line 1 (Return 2 (Some yes)) done
    ∷ line 1 (actions.Call 3) done
    ∷ line 1 (ReadName 0) (gives (at 1))
    ∷ line 1 (Enter 1) done
    ∷ line 1 (ReadField 1 0) (gives (at 2))
    ∷ line 1 (Unlock 2) done
    ∷ line 1 (Return 3 None) done
    ∷ line 2 (actions.Call 1) done
    ∷ line 2 (ReadName 0) (gives (at 1))
    ∷ line 2 (Enter 2) done
    ∷ line 2 (ReadField 1 0) (gives (at 2))
    ∷ line 2 (TryLock 2) (gives no)
    ∷ line 2 (Return 1 (Some no)) done
    ∷ line 1 (actions.Call 4) done
    ∷ line 1 (ReadName 0) (gives (at 1))
    ∷ line 1 (Enter 1) done
    ∷ line 1 (ReadField 1 0) (gives (at 2))
    ∷ line 1 (Unlock 2) done
    ∷ line 1 (Return 4 None) done
    ∷ line 2 (actions.Call 2) done
    ∷ line 2 (ReadName 0) (gives (at 1))
    ∷ line 2 (Enter 2) done
    ∷ line 2 (ReadField 1 0) (gives (at 2))
    ∷ line 2 (TryLock 2) (gives yes)
    ∷ line 2 (Return 2 (Some yes)) done
    ∷ [])
