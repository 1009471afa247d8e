-- Whole runs. Each text is above its checked file. Then come its thread program, schedule and trace.
use Rattle.std.specs.Prelude.{◌≡◌, pos, true, [], ◌∷◌, ◌++◌, replicate, None, Some}
use Rattle.ls_events.specs.declared.value.Value.TheVariants as values
use Rattle.ls_events.specs.declared.value.ValueType.TheVariants as types
use Rattle.ls_events.specs.declared.kind.Kind.TheVariants as kinds
use Rattle.ls_events.specs.declared.action.Action.TheVariants.{ReadField, WriteField, WriteItem, ReadName}
use Rattle.ls_events.specs.declared.action.Action.TheVariants.{WriteName, New, NewLock, NewMarkable, NewArray, Lock}
use Rattle.ls_events.specs.declared.action.Action.TheVariants.{Unlock, TryLock, ReadPair}
use Rattle.ls_events.specs.declared.action.Action.TheVariants.{Turn, Enter, Return, Trap}
use Rattle.ls_events.specs.declared.action.Action.TheVariants as actions
use Rattle.ls_checked.specs.declared.tree.Operator.TheVariants as operators
use Rattle.ls_checked.specs.declared.tree.Called.TheVariants as called
use Rattle.ls_checked.specs.CheckedTree.{Literal, Slot, Field, Binary, Call, MakeLock, MakeMarkable, MakeArray, End}
use Rattle.ls_checked.specs.CheckedTree.{More, SetSlot, SetField, Evaluate, While, ReturnValue, Try}
use Rattle.ls_meaning.specs.Runs.{source_trace}
use Rattle.ls_meaning_rows.specs.Made.{int, yes, no, null, at, block, one_class, method, making, calling, program, line}
use Rattle.ls_meaning_rows.specs.Made.{done, gives, fails}

-- class Counter { int v; void inc() { int t = v; int i = 0; while (i < 1) { i = i + 1; } v = t + 1; }
-- int get() { return v; } }
abbrev pub UpdateLost : Type 0
UpdateLost =
    source_trace
    (record {
      classes = (one_class (types.Int ∷ []) 2 ∷ []);
      methods =
          (method 0 0 ((types.Class 0) ∷ types.Int ∷ types.Int ∷ []) None
          (block ((block ((SetSlot 1 (Literal (int 0))) ∷ (SetSlot 1 (Field (Slot 0) 0 0)) ∷ [])) ∷
          (block ((SetSlot 2 (Literal (int 0))) ∷ (SetSlot 2 (Literal (int 0))) ∷ [])) ∷
          (While (Binary operators.Less (Slot 2) (Literal (int 1)))
          (block ((SetSlot 2 (Binary operators.Add (Slot 2) (Literal (int 1)))) ∷ []))) ∷
          (SetField (Slot 0) 0 (Binary operators.Add (Slot 1) (Literal (int 1)))) ∷ []))
          ∷ method 0 0 ((types.Class 0) ∷ []) (Some types.Int) (block ((ReturnValue (Field (Slot 0) 0 0)) ∷ []))
          ∷ method 0 0 ((types.Class 0) ∷ []) None (block [])
          ∷ []);
    })
    (program (0 ∷ []) ((making 0 0 [] ∷ []) ∷ (calling 0 0 [] ∷ []) ∷ (calling 0 0 [] ∷ calling 0 1 [] ∷ []) ∷ []))
    (replicate 5 0 ++ replicate 4 1 ++ replicate 7 2 ++ replicate 3 1 ++ replicate 5 2)
    ≡
    (line 0 (actions.Call 1) done
    ∷ line 0 (New 0) (gives (at 1))
    ∷ line 0 (Enter 2) done
    ∷ line 0 (WriteName 0 (at 1)) done
    ∷ line 0 (Return 1 None) done
    ∷ line 1 (actions.Call 1) done
    ∷ line 1 (ReadName 0) (gives (at 1))
    ∷ line 1 (Enter 0) done
    ∷ line 1 (ReadField 1 0) (gives (int 0))
    ∷ line 2 (actions.Call 1) done
    ∷ line 2 (ReadName 0) (gives (at 1))
    ∷ line 2 (Enter 0) done
    ∷ line 2 (ReadField 1 0) (gives (int 0))
    ∷ line 2 Turn done
    ∷ line 2 (WriteField 1 0 (int 1)) done
    ∷ line 2 (Return 1 None) done
    ∷ line 1 Turn done
    ∷ line 1 (WriteField 1 0 (int 1)) done
    ∷ line 1 (Return 1 None) done
    ∷ line 2 (actions.Call 2) done
    ∷ line 2 (ReadName 0) (gives (at 1))
    ∷ line 2 (Enter 1) done
    ∷ line 2 (ReadField 1 0) (gives (int 1))
    ∷ line 2 (Return 2 (Some (int 1))) done
    ∷ [])

-- class E { int f() { int x = 1; try { return x; } finally { x = 5; } } }
abbrev pub ValueBeforeFinally : Type 0
ValueBeforeFinally =
    source_trace
    (record {
      classes = (one_class [] 1 ∷ []);
      methods =
          (method 0 0 ((types.Class 0) ∷ types.Int ∷ []) (Some types.Int)
          (block ((block ((SetSlot 1 (Literal (int 0))) ∷ (SetSlot 1 (Literal (int 1))) ∷ [])) ∷
          (Try (block ((ReturnValue (Slot 1)) ∷ [])) (block ((SetSlot 1 (Literal (int 5))) ∷ []))) ∷ []))
          ∷ method 0 0 ((types.Class 0) ∷ []) None (block [])
          ∷ []);
    })
    (program (0 ∷ []) ((making 0 0 [] ∷ []) ∷ (calling 0 0 [] ∷ []) ∷ []))
    (replicate 99 0 ++ replicate 99 1)
    ≡
    (line 0 (actions.Call 1) done
    ∷ line 0 (New 0) (gives (at 1))
    ∷ line 0 (Enter 1) done
    ∷ line 0 (WriteName 0 (at 1)) done
    ∷ line 0 (Return 1 None) done
    ∷ line 1 (actions.Call 1) done
    ∷ line 1 (ReadName 0) (gives (at 1))
    ∷ line 1 (Enter 0) done
    ∷ line 1 (Return 1 (Some (int 1))) done
    ∷ [])

-- class N { int key; } class F { int f() { N n = null; try { n.key = 1; } finally { return 7; } } }
abbrev pub ReturnOverThrow : Type 0
ReturnOverThrow =
    source_trace
    (record {
      classes = (one_class (types.Int ∷ []) 0 ∷ one_class [] 2 ∷ []);
      methods =
          (method 0 0 ((types.Class 0) ∷ []) None (block [])
          ∷ method 1 0 ((types.Class 1) ∷ (types.Class 0) ∷ []) (Some types.Int)
          (block ((block ((SetSlot 1 (Literal null)) ∷ (SetSlot 1 (Literal null)) ∷ [])) ∷
          (Try (block ((SetField (Slot 1) 0 (Literal (int 1))) ∷ []))
          (block ((ReturnValue (Literal (int 7))) ∷ []))) ∷ []))
          ∷ method 1 0 ((types.Class 1) ∷ []) None (block [])
          ∷ []);
    })
    (program (1 ∷ []) ((making 0 1 [] ∷ []) ∷ (calling 0 1 [] ∷ []) ∷ []))
    (replicate 99 0 ++ replicate 99 1)
    ≡
    (line 0 (actions.Call 1) done
    ∷ line 0 (New 1) (gives (at 1))
    ∷ line 0 (Enter 2) done
    ∷ line 0 (WriteName 0 (at 1)) done
    ∷ line 0 (Return 1 None) done
    ∷ line 1 (actions.Call 1) done
    ∷ line 1 (ReadName 0) (gives (at 1))
    ∷ line 1 (Enter 1) done
    ∷ line 1 (Return 1 (Some (int 7))) done
    ∷ [])

-- class G { int v; Lock l = new ReentrantLock(); void f() { try { l.unlock(); } finally { v = 1; } }
-- int get() { return v; } }
abbrev pub FinallyBeforeTrap : Type 0
FinallyBeforeTrap =
    source_trace
    (record {
      classes = (one_class (types.Int ∷ types.Lock ∷ []) 2 ∷ []);
      methods =
          (method 0 0 ((types.Class 0) ∷ []) None
          (block ((Try (block ((Evaluate (Call (Field (Slot 0) 0 1) called.UnlockIt End)) ∷ []))
          (block ((SetField (Slot 0) 0 (Literal (int 1))) ∷ []))) ∷ []))
          ∷ method 0 0 ((types.Class 0) ∷ []) (Some types.Int) (block ((ReturnValue (Field (Slot 0) 0 0)) ∷ []))
          ∷ method 0 0 ((types.Class 0) ∷ []) None (block ((SetField (Slot 0) 1 MakeLock) ∷ []))
          ∷ []);
    })
    (program (0 ∷ []) ((making 0 0 [] ∷ []) ∷ (calling 0 0 [] ∷ []) ∷ (calling 0 1 [] ∷ []) ∷ []))
    (replicate 99 0 ++ replicate 99 1 ++ replicate 99 2)
    ≡
    (line 0 (actions.Call 1) done
    ∷ line 0 (New 0) (gives (at 1))
    ∷ line 0 (Enter 2) done
    ∷ line 0 NewLock (gives (at 2))
    ∷ line 0 (WriteField 1 1 (at 2)) done
    ∷ line 0 (WriteName 0 (at 1)) done
    ∷ line 0 (Return 1 None) done
    ∷ line 1 (actions.Call 1) done
    ∷ line 1 (ReadName 0) (gives (at 1))
    ∷ line 1 (Enter 0) done
    ∷ line 1 (ReadField 1 1) (gives (at 2))
    ∷ line 1 (Unlock 2) (fails kinds.IllegalMonitorState)
    ∷ line 1 (WriteField 1 0 (int 1)) done
    ∷ line 1 (Trap 1 kinds.IllegalMonitorState) done
    ∷ line 2 (actions.Call 1) done
    ∷ line 2 (ReadName 0) (gives (at 1))
    ∷ line 2 (Enter 1) done
    ∷ line 2 (ReadField 1 0) (gives (int 1))
    ∷ line 2 (Return 1 (Some (int 1))) done
    ∷ [])

-- class H { AtomicMarkableReference<H> r = new AtomicMarkableReference<H>(null, true);
-- void f() { r.get(new boolean[0]); } }
abbrev pub GetWithAnEmptyArray : Type 0
GetWithAnEmptyArray =
    source_trace
    (record {
      classes = (one_class ((types.Markable 0) ∷ []) 1 ∷ []);
      methods =
          (method 0 0 ((types.Class 0) ∷ []) None
          (block ((Evaluate (Call (Field (Slot 0) 0 0) (called.GetBoth 0) (More (MakeArray (Literal (int 0))) End)))
          ∷ []))
          ∷ method 0 0 ((types.Class 0) ∷ []) None
          (block ((SetField (Slot 0) 0 (MakeMarkable 0 (More (Literal null) (More (Literal yes) End)))) ∷ []))
          ∷ []);
    })
    (program (0 ∷ []) ((making 0 0 [] ∷ []) ∷ (calling 0 0 [] ∷ []) ∷ []))
    (replicate 99 0 ++ replicate 8 1)
    ≡
    (line 0 (actions.Call 1) done
    ∷ line 0 (New 0) (gives (at 1))
    ∷ line 0 (Enter 1) done
    ∷ line 0 (NewMarkable (values.Pair 0 true)) (gives (at 2))
    ∷ line 0 (WriteField 1 0 (at 2)) done
    ∷ line 0 (WriteName 0 (at 1)) done
    ∷ line 0 (Return 1 None) done
    ∷ line 1 (actions.Call 1) done
    ∷ line 1 (ReadName 0) (gives (at 1))
    ∷ line 1 (Enter 0) done
    ∷ line 1 (ReadField 1 0) (gives (at 2))
    ∷ line 1 (NewArray (pos 0)) (gives (at 3))
    ∷ line 1 (ReadPair 2) (gives (values.Pair 0 true))
    ∷ line 1 (WriteItem 3 (pos 0) yes) (fails kinds.ArrayIndexOutOfBounds)
    ∷ line 1 (Trap 1 kinds.ArrayIndexOutOfBounds) done
    ∷ [])

-- the same with one step less
abbrev pub GetBeforeItsTrap : Type 0
GetBeforeItsTrap =
    source_trace
    (record {
      classes = (one_class ((types.Markable 0) ∷ []) 1 ∷ []);
      methods =
          (method 0 0 ((types.Class 0) ∷ []) None
          (block ((Evaluate (Call (Field (Slot 0) 0 0) (called.GetBoth 0) (More (MakeArray (Literal (int 0))) End)))
          ∷ []))
          ∷ method 0 0 ((types.Class 0) ∷ []) None
          (block ((SetField (Slot 0) 0 (MakeMarkable 0 (More (Literal null) (More (Literal yes) End)))) ∷ []))
          ∷ []);
    })
    (program (0 ∷ []) ((making 0 0 [] ∷ []) ∷ (calling 0 0 [] ∷ []) ∷ []))
    (replicate 99 0 ++ replicate 7 1)
    ≡
    (line 0 (actions.Call 1) done
    ∷ line 0 (New 0) (gives (at 1))
    ∷ line 0 (Enter 1) done
    ∷ line 0 (NewMarkable (values.Pair 0 true)) (gives (at 2))
    ∷ line 0 (WriteField 1 0 (at 2)) done
    ∷ line 0 (WriteName 0 (at 1)) done
    ∷ line 0 (Return 1 None) done
    ∷ line 1 (actions.Call 1) done
    ∷ line 1 (ReadName 0) (gives (at 1))
    ∷ line 1 (Enter 0) done
    ∷ line 1 (ReadField 1 0) (gives (at 2))
    ∷ line 1 (NewArray (pos 0)) (gives (at 3))
    ∷ line 1 (ReadPair 2) (gives (values.Pair 0 true))
    ∷ line 1 (WriteItem 3 (pos 0) yes) (fails kinds.ArrayIndexOutOfBounds)
    ∷ [])

-- class K { Lock l = new ReentrantLock(); void in2() { l.lock(); l.lock(); } void out() { l.unlock(); }
-- boolean t() { return l.tryLock(); } }
abbrev pub HeldTwice : Type 0
HeldTwice =
    source_trace
    (record {
      classes = (one_class (types.Lock ∷ []) 3 ∷ []);
      methods =
          (method 0 0 ((types.Class 0) ∷ []) None (block ((Evaluate (Call (Field (Slot 0) 0 0) called.LockIt End)) ∷
          (Evaluate (Call (Field (Slot 0) 0 0) called.LockIt End)) ∷ []))
          ∷ method 0 0 ((types.Class 0) ∷ []) None (block ((Evaluate (Call (Field (Slot 0) 0 0) called.UnlockIt End)) ∷
          []))
          ∷ method 0 0 ((types.Class 0) ∷ []) (Some types.Boolean)
          (block ((ReturnValue (Call (Field (Slot 0) 0 0) called.TryIt End)) ∷ []))
          ∷ method 0 0 ((types.Class 0) ∷ []) None (block ((SetField (Slot 0) 0 MakeLock) ∷ []))
          ∷ []);
    })
    (program (0 ∷ []) ((making 0 0 [] ∷ []) ∷ (calling 0 0 [] ∷ calling 0 1 [] ∷ calling 0 1 [] ∷ []) ∷
    (calling 0 2 [] ∷ calling 0 2 [] ∷ []) ∷ []))
    (replicate 99 0 ++ replicate 14 1 ++ replicate 6 2 ++ replicate 6 1 ++ replicate 6 2)
    ≡
    (line 0 (actions.Call 1) done
    ∷ line 0 (New 0) (gives (at 1))
    ∷ line 0 (Enter 3) done
    ∷ line 0 NewLock (gives (at 2))
    ∷ line 0 (WriteField 1 0 (at 2)) done
    ∷ line 0 (WriteName 0 (at 1)) done
    ∷ line 0 (Return 1 None) done
    ∷ line 1 (actions.Call 1) done
    ∷ line 1 (ReadName 0) (gives (at 1))
    ∷ line 1 (Enter 0) done
    ∷ line 1 (ReadField 1 0) (gives (at 2))
    ∷ line 1 (Lock 2) done
    ∷ line 1 (ReadField 1 0) (gives (at 2))
    ∷ line 1 (Lock 2) done
    ∷ line 1 (Return 1 None) done
    ∷ line 1 (actions.Call 2) done
    ∷ line 1 (ReadName 0) (gives (at 1))
    ∷ line 1 (Enter 1) done
    ∷ line 1 (ReadField 1 0) (gives (at 2))
    ∷ line 1 (Unlock 2) done
    ∷ line 1 (Return 2 None) done
    ∷ line 2 (actions.Call 1) done
    ∷ line 2 (ReadName 0) (gives (at 1))
    ∷ line 2 (Enter 2) done
    ∷ line 2 (ReadField 1 0) (gives (at 2))
    ∷ line 2 (TryLock 2) (gives no)
    ∷ line 2 (Return 1 (Some no)) done
    ∷ line 1 (actions.Call 3) done
    ∷ line 1 (ReadName 0) (gives (at 1))
    ∷ line 1 (Enter 1) done
    ∷ line 1 (ReadField 1 0) (gives (at 2))
    ∷ line 1 (Unlock 2) done
    ∷ line 1 (Return 3 None) done
    ∷ line 2 (actions.Call 2) done
    ∷ line 2 (ReadName 0) (gives (at 1))
    ∷ line 2 (Enter 2) done
    ∷ line 2 (ReadField 1 0) (gives (at 2))
    ∷ line 2 (TryLock 2) (gives yes)
    ∷ line 2 (Return 2 (Some yes)) done
    ∷ [])
