-- Operations of markable references (java.util.concurrent.atomic.AtomicMarkableReference). Each text is above its
-- checked file. Then come its thread program, schedule and trace.
use Rattle.std.specs.Prelude.{◌≡◌, pos, true, false, [], ◌∷◌, ◌++◌, replicate, None, Some}
use Rattle.ls_events.specs.declared.value.Value.TheVariants as values
use Rattle.ls_events.specs.declared.value.ValueType.TheVariants as types
use Rattle.ls_events.specs.declared.kind.Kind.TheVariants as kinds
use Rattle.ls_events.specs.declared.action.Action.TheVariants.{ReadField, WriteField, ReadName}
use Rattle.ls_events.specs.declared.action.Action.TheVariants.{WriteName, New, NewMarkable, NewArray}
use Rattle.ls_events.specs.declared.action.Action.TheVariants.{ReadPair, SetPair, SwapPair}
use Rattle.ls_events.specs.declared.action.Action.TheVariants.{AttemptMark, Enter, Return, Trap}
use Rattle.ls_events.specs.declared.action.Action.TheVariants as actions
use Rattle.ls_checked.specs.declared.tree.Operator.TheVariants as operators
use Rattle.ls_checked.specs.declared.tree.Called.TheVariants as called
use Rattle.ls_checked.specs.CheckedTree.{Literal, Slot, Field, Binary, Call, MakeMarkable}
use Rattle.ls_checked.specs.CheckedTree.{MakeArray, End, More, SetField, Evaluate, ReturnValue}
use Rattle.ls_meaning.specs.Runs.{source_trace}
use Rattle.ls_meaning_rows.specs.Made.{int, yes, no, null, at, block, one_class, method, making, calling, program, line}
use Rattle.ls_meaning_rows.specs.Made.{done, gives}

-- class C { int v; AtomicMarkableReference<C> r; ..
--   C s() { v = v + 1; return this; } boolean b() { v = v + 1; return true; } },
-- void f() { r = new AtomicMarkableReference<C>(s(), b()); }
abbrev pub ArgumentsOfTheMaking : Type 0
ArgumentsOfTheMaking =
    source_trace
    (record {
      classes = (one_class (types.Int ∷ (types.Markable 0) ∷ []) 3 ∷ []);
      methods =
          (method 0 0 ((types.Class 0) ∷ []) None
          (block ((SetField (Slot 0) 1
          (MakeMarkable 0 (More (Call (Slot 0) (called.Method 1) End)
          (More (Call (Slot 0) (called.Method 2) End) End)))) ∷ []))
          ∷ method 0 0 ((types.Class 0) ∷ []) (Some (types.Class 0))
          (block ((SetField (Slot 0) 0 (Binary operators.Add (Field (Slot 0) 0 0) (Literal (int 1)))) ∷
          (ReturnValue (Slot 0)) ∷ []))
          ∷ method 0 0 ((types.Class 0) ∷ []) (Some types.Boolean)
          (block ((SetField (Slot 0) 0 (Binary operators.Add (Field (Slot 0) 0 0) (Literal (int 1)))) ∷
          (ReturnValue (Literal yes)) ∷ []))
          ∷ method 0 0 ((types.Class 0) ∷ []) None (block [])
          ∷ []);
    })
    (program (0 ∷ []) ((making 0 0 [] ∷ []) ∷ (calling 0 0 [] ∷ []) ∷ []))
    (replicate 9 0 ++ replicate 99 1)
    ≡
    (line 0 (actions.Call 1) done
    ∷ line 0 (New 0) (gives (at 1))
    ∷ line 0 (Enter 3) done
    ∷ line 0 (WriteName 0 (at 1)) done
    ∷ line 0 (Return 1 None) done
    ∷ line 1 (actions.Call 1) done
    ∷ line 1 (ReadName 0) (gives (at 1))
    ∷ line 1 (Enter 0) done
    ∷ line 1 (Enter 1) done
    ∷ line 1 (ReadField 1 0) (gives (int 0))
    ∷ line 1 (WriteField 1 0 (int 1)) done
    ∷ line 1 (Enter 2) done
    ∷ line 1 (ReadField 1 0) (gives (int 1))
    ∷ line 1 (WriteField 1 0 (int 2)) done
    ∷ line 1 (NewMarkable (values.Pair 1 true)) (gives (at 2))
    ∷ line 1 (WriteField 1 1 (at 2)) done
    ∷ line 1 (Return 1 None) done
    ∷ [])

-- void f() { r = new AtomicMarkableReference<C>(null, false); r.set(s(), b()); }
abbrev pub ArgumentsOfSet : Type 0
ArgumentsOfSet =
    source_trace
    (record {
      classes = (one_class (types.Int ∷ (types.Markable 0) ∷ []) 3 ∷ []);
      methods =
          (method 0 0 ((types.Class 0) ∷ []) None
          (block ((SetField (Slot 0) 1 (MakeMarkable 0 (More (Literal null) (More (Literal no) End)))) ∷
          (Evaluate (Call (Field (Slot 0) 0 1) called.SetBoth
          (More (Call (Slot 0) (called.Method 1) End) (More (Call (Slot 0) (called.Method 2) End) End)))) ∷ []))
          ∷ method 0 0 ((types.Class 0) ∷ []) (Some (types.Class 0))
          (block ((SetField (Slot 0) 0 (Binary operators.Add (Field (Slot 0) 0 0) (Literal (int 1)))) ∷
          (ReturnValue (Slot 0)) ∷ []))
          ∷ method 0 0 ((types.Class 0) ∷ []) (Some types.Boolean)
          (block ((SetField (Slot 0) 0 (Binary operators.Add (Field (Slot 0) 0 0) (Literal (int 1)))) ∷
          (ReturnValue (Literal yes)) ∷ []))
          ∷ method 0 0 ((types.Class 0) ∷ []) None (block [])
          ∷ []);
    })
    (program (0 ∷ []) ((making 0 0 [] ∷ []) ∷ (calling 0 0 [] ∷ []) ∷ []))
    (replicate 9 0 ++ replicate 99 1)
    ≡
    (line 0 (actions.Call 1) done
    ∷ line 0 (New 0) (gives (at 1))
    ∷ line 0 (Enter 3) done
    ∷ line 0 (WriteName 0 (at 1)) done
    ∷ line 0 (Return 1 None) done
    ∷ line 1 (actions.Call 1) done
    ∷ line 1 (ReadName 0) (gives (at 1))
    ∷ line 1 (Enter 0) done
    ∷ line 1 (NewMarkable (values.Pair 0 false)) (gives (at 2))
    ∷ line 1 (WriteField 1 1 (at 2)) done
    ∷ line 1 (ReadField 1 1) (gives (at 2))
    ∷ line 1 (Enter 1) done
    ∷ line 1 (ReadField 1 0) (gives (int 0))
    ∷ line 1 (WriteField 1 0 (int 1)) done
    ∷ line 1 (Enter 2) done
    ∷ line 1 (ReadField 1 0) (gives (int 1))
    ∷ line 1 (WriteField 1 0 (int 2)) done
    ∷ line 1 (SetPair 2 (values.Pair 1 true)) done
    ∷ line 1 (Return 1 None) done
    ∷ [])

-- .. boolean f() { .. return r.attemptMark(s(), b()); }
abbrev pub ArgumentsOfAttemptMark : Type 0
ArgumentsOfAttemptMark =
    source_trace
    (record {
      classes = (one_class (types.Int ∷ (types.Markable 0) ∷ []) 3 ∷ []);
      methods =
          (method 0 0 ((types.Class 0) ∷ []) (Some types.Boolean)
          (block ((SetField (Slot 0) 1 (MakeMarkable 0 (More (Slot 0) (More (Literal no) End)))) ∷
          (ReturnValue (Call (Field (Slot 0) 0 1) called.Attempt
          (More (Call (Slot 0) (called.Method 1) End) (More (Call (Slot 0) (called.Method 2) End) End)))) ∷ []))
          ∷ method 0 0 ((types.Class 0) ∷ []) (Some (types.Class 0))
          (block ((SetField (Slot 0) 0 (Binary operators.Add (Field (Slot 0) 0 0) (Literal (int 1)))) ∷
          (ReturnValue (Slot 0)) ∷ []))
          ∷ method 0 0 ((types.Class 0) ∷ []) (Some types.Boolean)
          (block ((SetField (Slot 0) 0 (Binary operators.Add (Field (Slot 0) 0 0) (Literal (int 1)))) ∷
          (ReturnValue (Literal yes)) ∷ []))
          ∷ method 0 0 ((types.Class 0) ∷ []) None (block [])
          ∷ []);
    })
    (program (0 ∷ []) ((making 0 0 [] ∷ []) ∷ (calling 0 0 [] ∷ []) ∷ []))
    (replicate 9 0 ++ replicate 99 1)
    ≡
    (line 0 (actions.Call 1) done
    ∷ line 0 (New 0) (gives (at 1))
    ∷ line 0 (Enter 3) done
    ∷ line 0 (WriteName 0 (at 1)) done
    ∷ line 0 (Return 1 None) done
    ∷ line 1 (actions.Call 1) done
    ∷ line 1 (ReadName 0) (gives (at 1))
    ∷ line 1 (Enter 0) done
    ∷ line 1 (NewMarkable (values.Pair 1 false)) (gives (at 2))
    ∷ line 1 (WriteField 1 1 (at 2)) done
    ∷ line 1 (ReadField 1 1) (gives (at 2))
    ∷ line 1 (Enter 1) done
    ∷ line 1 (ReadField 1 0) (gives (int 0))
    ∷ line 1 (WriteField 1 0 (int 1)) done
    ∷ line 1 (Enter 2) done
    ∷ line 1 (ReadField 1 0) (gives (int 1))
    ∷ line 1 (WriteField 1 0 (int 2)) done
    ∷ line 1 (AttemptMark 2 1 true) (gives yes)
    ∷ line 1 (Return 1 (Some yes)) done
    ∷ [])

-- .. return r.compareAndSet(s(), s(), b(), b());
abbrev pub ArgumentsOfCompareAndSet : Type 0
ArgumentsOfCompareAndSet =
    source_trace
    (record {
      classes = (one_class (types.Int ∷ (types.Markable 0) ∷ []) 3 ∷ []);
      methods =
          (method 0 0 ((types.Class 0) ∷ []) (Some types.Boolean)
          (block ((SetField (Slot 0) 1 (MakeMarkable 0 (More (Slot 0) (More (Literal yes) End)))) ∷
          (ReturnValue (Call (Field (Slot 0) 0 1) called.CompareAndSet
          (More (Call (Slot 0) (called.Method 1) End) (More (Call (Slot 0) (called.Method 1) End)
          (More (Call (Slot 0) (called.Method 2) End) (More (Call (Slot 0) (called.Method 2) End) End)))))) ∷ []))
          ∷ method 0 0 ((types.Class 0) ∷ []) (Some (types.Class 0))
          (block ((SetField (Slot 0) 0 (Binary operators.Add (Field (Slot 0) 0 0) (Literal (int 1)))) ∷
          (ReturnValue (Slot 0)) ∷ []))
          ∷ method 0 0 ((types.Class 0) ∷ []) (Some types.Boolean)
          (block ((SetField (Slot 0) 0 (Binary operators.Add (Field (Slot 0) 0 0) (Literal (int 1)))) ∷
          (ReturnValue (Literal yes)) ∷ []))
          ∷ method 0 0 ((types.Class 0) ∷ []) None (block [])
          ∷ []);
    })
    (program (0 ∷ []) ((making 0 0 [] ∷ []) ∷ (calling 0 0 [] ∷ []) ∷ []))
    (replicate 9 0 ++ replicate 99 1)
    ≡
    (line 0 (actions.Call 1) done
    ∷ line 0 (New 0) (gives (at 1))
    ∷ line 0 (Enter 3) done
    ∷ line 0 (WriteName 0 (at 1)) done
    ∷ line 0 (Return 1 None) done
    ∷ line 1 (actions.Call 1) done
    ∷ line 1 (ReadName 0) (gives (at 1))
    ∷ line 1 (Enter 0) done
    ∷ line 1 (NewMarkable (values.Pair 1 true)) (gives (at 2))
    ∷ line 1 (WriteField 1 1 (at 2)) done
    ∷ line 1 (ReadField 1 1) (gives (at 2))
    ∷ line 1 (Enter 1) done
    ∷ line 1 (ReadField 1 0) (gives (int 0))
    ∷ line 1 (WriteField 1 0 (int 1)) done
    ∷ line 1 (Enter 1) done
    ∷ line 1 (ReadField 1 0) (gives (int 1))
    ∷ line 1 (WriteField 1 0 (int 2)) done
    ∷ line 1 (Enter 2) done
    ∷ line 1 (ReadField 1 0) (gives (int 2))
    ∷ line 1 (WriteField 1 0 (int 3)) done
    ∷ line 1 (Enter 2) done
    ∷ line 1 (ReadField 1 0) (gives (int 3))
    ∷ line 1 (WriteField 1 0 (int 4)) done
    ∷ line 1 (SwapPair 2 (values.Pair 1 true) (values.Pair 1 true)) (gives yes)
    ∷ line 1 (Return 1 (Some yes)) done
    ∷ [])

-- r is null: return r.compareAndSet(s(), s(), b(), b());
abbrev pub NullTargetAfterArguments : Type 0
NullTargetAfterArguments =
    source_trace
    (record {
      classes = (one_class (types.Int ∷ (types.Markable 0) ∷ []) 3 ∷ []);
      methods =
          (method 0 0 ((types.Class 0) ∷ []) (Some types.Boolean)
          (block ((ReturnValue (Call (Field (Slot 0) 0 1) called.CompareAndSet
          (More (Call (Slot 0) (called.Method 1) End) (More (Call (Slot 0) (called.Method 1) End)
          (More (Call (Slot 0) (called.Method 2) End) (More (Call (Slot 0) (called.Method 2) End) End)))))) ∷ []))
          ∷ method 0 0 ((types.Class 0) ∷ []) (Some (types.Class 0))
          (block ((SetField (Slot 0) 0 (Binary operators.Add (Field (Slot 0) 0 0) (Literal (int 1)))) ∷
          (ReturnValue (Slot 0)) ∷ []))
          ∷ method 0 0 ((types.Class 0) ∷ []) (Some types.Boolean)
          (block ((SetField (Slot 0) 0 (Binary operators.Add (Field (Slot 0) 0 0) (Literal (int 1)))) ∷
          (ReturnValue (Literal yes)) ∷ []))
          ∷ method 0 0 ((types.Class 0) ∷ []) None (block [])
          ∷ []);
    })
    (program (0 ∷ []) ((making 0 0 [] ∷ []) ∷ (calling 0 0 [] ∷ []) ∷ []))
    (replicate 9 0 ++ replicate 99 1)
    ≡
    (line 0 (actions.Call 1) done
    ∷ line 0 (New 0) (gives (at 1))
    ∷ line 0 (Enter 3) done
    ∷ line 0 (WriteName 0 (at 1)) done
    ∷ line 0 (Return 1 None) done
    ∷ line 1 (actions.Call 1) done
    ∷ line 1 (ReadName 0) (gives (at 1))
    ∷ line 1 (Enter 0) done
    ∷ line 1 (ReadField 1 1) (gives null)
    ∷ line 1 (Enter 1) done
    ∷ line 1 (ReadField 1 0) (gives (int 0))
    ∷ line 1 (WriteField 1 0 (int 1)) done
    ∷ line 1 (Enter 1) done
    ∷ line 1 (ReadField 1 0) (gives (int 1))
    ∷ line 1 (WriteField 1 0 (int 2)) done
    ∷ line 1 (Enter 2) done
    ∷ line 1 (ReadField 1 0) (gives (int 2))
    ∷ line 1 (WriteField 1 0 (int 3)) done
    ∷ line 1 (Enter 2) done
    ∷ line 1 (ReadField 1 0) (gives (int 3))
    ∷ line 1 (WriteField 1 0 (int 4)) done
    ∷ line 1 (Trap 1 kinds.NullPointer) done
    ∷ [])

-- r is null: r.get(new boolean[1]);
abbrev pub NullTargetOfGetAfterItsArray : Type 0
NullTargetOfGetAfterItsArray =
    source_trace
    (record {
      classes = (one_class (types.Int ∷ (types.Markable 0) ∷ []) 3 ∷ []);
      methods =
          (method 0 0 ((types.Class 0) ∷ []) None
          (block ((Evaluate (Call (Field (Slot 0) 0 1) (called.GetBoth 0) (More (MakeArray (Literal (int 1))) End)))
          ∷ []))
          ∷ method 0 0 ((types.Class 0) ∷ []) (Some (types.Class 0))
          (block ((SetField (Slot 0) 0 (Binary operators.Add (Field (Slot 0) 0 0) (Literal (int 1)))) ∷
          (ReturnValue (Slot 0)) ∷ []))
          ∷ method 0 0 ((types.Class 0) ∷ []) (Some types.Boolean)
          (block ((SetField (Slot 0) 0 (Binary operators.Add (Field (Slot 0) 0 0) (Literal (int 1)))) ∷
          (ReturnValue (Literal yes)) ∷ []))
          ∷ method 0 0 ((types.Class 0) ∷ []) None (block [])
          ∷ []);
    })
    (program (0 ∷ []) ((making 0 0 [] ∷ []) ∷ (calling 0 0 [] ∷ []) ∷ []))
    (replicate 9 0 ++ replicate 99 1)
    ≡
    (line 0 (actions.Call 1) done
    ∷ line 0 (New 0) (gives (at 1))
    ∷ line 0 (Enter 3) done
    ∷ line 0 (WriteName 0 (at 1)) done
    ∷ line 0 (Return 1 None) done
    ∷ line 1 (actions.Call 1) done
    ∷ line 1 (ReadName 0) (gives (at 1))
    ∷ line 1 (Enter 0) done
    ∷ line 1 (ReadField 1 1) (gives null)
    ∷ line 1 (NewArray (pos 1)) (gives (at 2))
    ∷ line 1 (Trap 1 kinds.NullPointer) done
    ∷ [])

-- r.get(null);
abbrev pub NullArrayOfGetAfterTheRead : Type 0
NullArrayOfGetAfterTheRead =
    source_trace
    (record {
      classes = (one_class (types.Int ∷ (types.Markable 0) ∷ []) 3 ∷ []);
      methods =
          (method 0 0 ((types.Class 0) ∷ []) None
          (block ((SetField (Slot 0) 1 (MakeMarkable 0 (More (Slot 0) (More (Literal yes) End)))) ∷
          (Evaluate (Call (Field (Slot 0) 0 1) (called.GetBoth 0) (More (Literal null) End))) ∷ []))
          ∷ method 0 0 ((types.Class 0) ∷ []) (Some (types.Class 0))
          (block ((SetField (Slot 0) 0 (Binary operators.Add (Field (Slot 0) 0 0) (Literal (int 1)))) ∷
          (ReturnValue (Slot 0)) ∷ []))
          ∷ method 0 0 ((types.Class 0) ∷ []) (Some types.Boolean)
          (block ((SetField (Slot 0) 0 (Binary operators.Add (Field (Slot 0) 0 0) (Literal (int 1)))) ∷
          (ReturnValue (Literal yes)) ∷ []))
          ∷ method 0 0 ((types.Class 0) ∷ []) None (block [])
          ∷ []);
    })
    (program (0 ∷ []) ((making 0 0 [] ∷ []) ∷ (calling 0 0 [] ∷ []) ∷ []))
    (replicate 9 0 ++ replicate 99 1)
    ≡
    (line 0 (actions.Call 1) done
    ∷ line 0 (New 0) (gives (at 1))
    ∷ line 0 (Enter 3) done
    ∷ line 0 (WriteName 0 (at 1)) done
    ∷ line 0 (Return 1 None) done
    ∷ line 1 (actions.Call 1) done
    ∷ line 1 (ReadName 0) (gives (at 1))
    ∷ line 1 (Enter 0) done
    ∷ line 1 (NewMarkable (values.Pair 1 true)) (gives (at 2))
    ∷ line 1 (WriteField 1 1 (at 2)) done
    ∷ line 1 (ReadField 1 1) (gives (at 2))
    ∷ line 1 (ReadPair 2) (gives (values.Pair 1 true))
    ∷ line 1 (Trap 1 kinds.NullPointer) done
    ∷ [])
