-- What operations of markable references answer and set (java.util.concurrent.atomic.AtomicMarkableReference). Each
-- text is above its checked file. Then come its thread program, schedule and trace.
use Rattle.std.specs.Prelude.{◌≡◌, pos, true, false, [], ◌∷◌, ◌++◌, replicate, None, Some}
use Rattle.ls_events.specs.declared.value.Value.TheVariants as values
use Rattle.ls_events.specs.declared.value.ValueType.TheVariants as types
use Rattle.ls_events.specs.declared.action.Action.TheVariants.{ReadField, WriteField, ReadItem, WriteItem, ReadName}
use Rattle.ls_events.specs.declared.action.Action.TheVariants.{WriteName, New, NewMarkable, NewArray}
use Rattle.ls_events.specs.declared.action.Action.TheVariants.{ReadPair, SwapPair}
use Rattle.ls_events.specs.declared.action.Action.TheVariants.{AttemptMark, Enter, Return}
use Rattle.ls_events.specs.declared.action.Action.TheVariants as actions
use Rattle.ls_checked.specs.declared.tree.Operator.TheVariants as operators
use Rattle.ls_checked.specs.declared.tree.Called.TheVariants as called
use Rattle.ls_checked.specs.CheckedTree.{Literal, Slot, Field, Item, Not, Binary, And, Or, Call, MakeMarkable}
use Rattle.ls_checked.specs.CheckedTree.{MakeArray, End, More, SetSlot, SetField, Evaluate, ReturnValue}
use Rattle.ls_meaning.specs.Runs.{source_trace}
use Rattle.ls_meaning_rows.specs.Made.{int, yes, no, null, at, block, one_class, method, making, calling, program, line}
use Rattle.ls_meaning_rows.specs.Made.{done, gives}

-- C f() { .. boolean[] a = new boolean[2]; C c = r.get(a); return a[0] && !a[1] && c == this }
abbrev pub GetWithTwoElements : Type 0
GetWithTwoElements =
    source_trace
    (record {
      classes = (one_class (types.Int ∷ (types.Markable 0) ∷ []) 3 ∷ []);
      methods =
          (method 0 0 ((types.Class 0) ∷ types.BooleanArray ∷ (types.Class 0) ∷ []) (Some types.Boolean)
          (block ((SetField (Slot 0) 1 (MakeMarkable 0 (More (Slot 0) (More (Literal yes) End)))) ∷
          (block ((SetSlot 1 (Literal null)) ∷ (SetSlot 1 (MakeArray (Literal (int 2)))) ∷ [])) ∷
          (block ((SetSlot 2 (Literal null)) ∷ (SetSlot 2
          (Call (Field (Slot 0) 0 1) (called.GetBoth 0) (More (Slot 1) End))) ∷ [])) ∷
          (ReturnValue (And (And (Item (Slot 1) (Literal (int 0))) (Not (Item (Slot 1) (Literal (int 1)))))
          (Binary operators.Equal (Slot 2) (Slot 0)))) ∷ []))
          ∷ method 0 0 ((types.Class 0) ∷ []) (Some (types.Class 0))
          (block ((SetField (Slot 0) 0 (Binary operators.Add (Field (Slot 0) 0 0) (Literal (int 1)))) ∷
          (ReturnValue (Slot 0)) ∷ []))
          ∷ method 0 0 ((types.Class 0) ∷ []) (Some types.Boolean)
          (block ((SetField (Slot 0) 0 (Binary operators.Add (Field (Slot 0) 0 0) (Literal (int 1)))) ∷
          (ReturnValue (Literal yes)) ∷ []))
          ∷ method 0 0 ((types.Class 0) ∷ []) None (block [])
          ∷ []);
    })
    (program (0 ∷ []) ((making 0 0 [] ∷ []) ∷ (calling 0 0 [] ∷ []) ∷ []))
    (replicate 9 0 ++ replicate 99 1)
    ≡
    (line 0 (actions.Call 1) done
    ∷ line 0 (New 0) (gives (at 1))
    ∷ line 0 (Enter 3) done
    ∷ line 0 (WriteName 0 (at 1)) done
    ∷ line 0 (Return 1 None) done
    ∷ line 1 (actions.Call 1) done
    ∷ line 1 (ReadName 0) (gives (at 1))
    ∷ line 1 (Enter 0) done
    ∷ line 1 (NewMarkable (values.Pair 1 true)) (gives (at 2))
    ∷ line 1 (WriteField 1 1 (at 2)) done
    ∷ line 1 (NewArray (pos 2)) (gives (at 3))
    ∷ line 1 (ReadField 1 1) (gives (at 2))
    ∷ line 1 (ReadPair 2) (gives (values.Pair 1 true))
    ∷ line 1 (WriteItem 3 (pos 0) yes) done
    ∷ line 1 (ReadItem 3 (pos 0)) (gives yes)
    ∷ line 1 (ReadItem 3 (pos 1)) (gives no)
    ∷ line 1 (Return 1 (Some yes)) done
    ∷ [])

-- return r.compareAndSet(this, null, false, true) || r.getReference() != this || !r.isMarked();
abbrev pub ExpectedMarkIsWrong : Type 0
ExpectedMarkIsWrong =
    source_trace
    (record {
      classes = (one_class (types.Int ∷ (types.Markable 0) ∷ []) 3 ∷ []);
      methods =
          (method 0 0 ((types.Class 0) ∷ []) (Some types.Boolean)
          (block ((SetField (Slot 0) 1 (MakeMarkable 0 (More (Slot 0) (More (Literal yes) End)))) ∷
          (ReturnValue
          (Or (Or (Call (Field (Slot 0) 0 1) called.CompareAndSet
          (More (Slot 0) (More (Literal null) (More (Literal no) (More (Literal yes) End)))))
          (Binary operators.NotEqual (Call (Field (Slot 0) 0 1) (called.GetReference 0) End) (Slot 0)))
          (Not (Call (Field (Slot 0) 0 1) (called.IsMarked 0) End)))) ∷ []))
          ∷ method 0 0 ((types.Class 0) ∷ []) (Some (types.Class 0))
          (block ((SetField (Slot 0) 0 (Binary operators.Add (Field (Slot 0) 0 0) (Literal (int 1)))) ∷
          (ReturnValue (Slot 0)) ∷ []))
          ∷ method 0 0 ((types.Class 0) ∷ []) (Some types.Boolean)
          (block ((SetField (Slot 0) 0 (Binary operators.Add (Field (Slot 0) 0 0) (Literal (int 1)))) ∷
          (ReturnValue (Literal yes)) ∷ []))
          ∷ method 0 0 ((types.Class 0) ∷ []) None (block [])
          ∷ []);
    })
    (program (0 ∷ []) ((making 0 0 [] ∷ []) ∷ (calling 0 0 [] ∷ []) ∷ []))
    (replicate 9 0 ++ replicate 99 1)
    ≡
    (line 0 (actions.Call 1) done
    ∷ line 0 (New 0) (gives (at 1))
    ∷ line 0 (Enter 3) done
    ∷ line 0 (WriteName 0 (at 1)) done
    ∷ line 0 (Return 1 None) done
    ∷ line 1 (actions.Call 1) done
    ∷ line 1 (ReadName 0) (gives (at 1))
    ∷ line 1 (Enter 0) done
    ∷ line 1 (NewMarkable (values.Pair 1 true)) (gives (at 2))
    ∷ line 1 (WriteField 1 1 (at 2)) done
    ∷ line 1 (ReadField 1 1) (gives (at 2))
    ∷ line 1 (SwapPair 2 (values.Pair 1 false) (values.Pair 0 true)) (gives no)
    ∷ line 1 (ReadField 1 1) (gives (at 2))
    ∷ line 1 (ReadPair 2) (gives (values.Pair 1 true))
    ∷ line 1 (ReadField 1 1) (gives (at 2))
    ∷ line 1 (ReadPair 2) (gives (values.Pair 1 true))
    ∷ line 1 (Return 1 (Some no)) done
    ∷ [])

-- return r.compareAndSet(null, this, true, true) || r.attemptMark(null, false);
abbrev pub ExpectedReferenceIsWrong : Type 0
ExpectedReferenceIsWrong =
    source_trace
    (record {
      classes = (one_class (types.Int ∷ (types.Markable 0) ∷ []) 3 ∷ []);
      methods =
          (method 0 0 ((types.Class 0) ∷ []) (Some types.Boolean)
          (block ((SetField (Slot 0) 1 (MakeMarkable 0 (More (Slot 0) (More (Literal yes) End)))) ∷
          (ReturnValue
          (Or (Call (Field (Slot 0) 0 1) called.CompareAndSet
          (More (Literal null) (More (Slot 0) (More (Literal yes) (More (Literal yes) End)))))
          (Call (Field (Slot 0) 0 1) called.Attempt (More (Literal null) (More (Literal no) End))))) ∷ []))
          ∷ method 0 0 ((types.Class 0) ∷ []) (Some (types.Class 0))
          (block ((SetField (Slot 0) 0 (Binary operators.Add (Field (Slot 0) 0 0) (Literal (int 1)))) ∷
          (ReturnValue (Slot 0)) ∷ []))
          ∷ method 0 0 ((types.Class 0) ∷ []) (Some types.Boolean)
          (block ((SetField (Slot 0) 0 (Binary operators.Add (Field (Slot 0) 0 0) (Literal (int 1)))) ∷
          (ReturnValue (Literal yes)) ∷ []))
          ∷ method 0 0 ((types.Class 0) ∷ []) None (block [])
          ∷ []);
    })
    (program (0 ∷ []) ((making 0 0 [] ∷ []) ∷ (calling 0 0 [] ∷ []) ∷ []))
    (replicate 9 0 ++ replicate 99 1)
    ≡
    (line 0 (actions.Call 1) done
    ∷ line 0 (New 0) (gives (at 1))
    ∷ line 0 (Enter 3) done
    ∷ line 0 (WriteName 0 (at 1)) done
    ∷ line 0 (Return 1 None) done
    ∷ line 1 (actions.Call 1) done
    ∷ line 1 (ReadName 0) (gives (at 1))
    ∷ line 1 (Enter 0) done
    ∷ line 1 (NewMarkable (values.Pair 1 true)) (gives (at 2))
    ∷ line 1 (WriteField 1 1 (at 2)) done
    ∷ line 1 (ReadField 1 1) (gives (at 2))
    ∷ line 1 (SwapPair 2 (values.Pair 0 true) (values.Pair 1 true)) (gives no)
    ∷ line 1 (ReadField 1 1) (gives (at 2))
    ∷ line 1 (AttemptMark 2 0 false) (gives no)
    ∷ line 1 (Return 1 (Some no)) done
    ∷ [])

-- r.compareAndSet(this, null, true, false); return r.getReference() == null && !r.isMarked();
abbrev pub ExchangeSetsBoth : Type 0
ExchangeSetsBoth =
    source_trace
    (record {
      classes = (one_class (types.Int ∷ (types.Markable 0) ∷ []) 3 ∷ []);
      methods =
          (method 0 0 ((types.Class 0) ∷ []) (Some types.Boolean)
          (block ((SetField (Slot 0) 1 (MakeMarkable 0 (More (Slot 0) (More (Literal yes) End)))) ∷
          (Evaluate (Call (Field (Slot 0) 0 1) called.CompareAndSet
          (More (Slot 0) (More (Literal null) (More (Literal yes) (More (Literal no) End)))))) ∷
          (ReturnValue
          (And (Binary operators.Equal (Call (Field (Slot 0) 0 1) (called.GetReference 0) End) (Literal null))
          (Not (Call (Field (Slot 0) 0 1) (called.IsMarked 0) End)))) ∷ []))
          ∷ method 0 0 ((types.Class 0) ∷ []) (Some (types.Class 0))
          (block ((SetField (Slot 0) 0 (Binary operators.Add (Field (Slot 0) 0 0) (Literal (int 1)))) ∷
          (ReturnValue (Slot 0)) ∷ []))
          ∷ method 0 0 ((types.Class 0) ∷ []) (Some types.Boolean)
          (block ((SetField (Slot 0) 0 (Binary operators.Add (Field (Slot 0) 0 0) (Literal (int 1)))) ∷
          (ReturnValue (Literal yes)) ∷ []))
          ∷ method 0 0 ((types.Class 0) ∷ []) None (block [])
          ∷ []);
    })
    (program (0 ∷ []) ((making 0 0 [] ∷ []) ∷ (calling 0 0 [] ∷ []) ∷ []))
    (replicate 9 0 ++ replicate 99 1)
    ≡
    (line 0 (actions.Call 1) done
    ∷ line 0 (New 0) (gives (at 1))
    ∷ line 0 (Enter 3) done
    ∷ line 0 (WriteName 0 (at 1)) done
    ∷ line 0 (Return 1 None) done
    ∷ line 1 (actions.Call 1) done
    ∷ line 1 (ReadName 0) (gives (at 1))
    ∷ line 1 (Enter 0) done
    ∷ line 1 (NewMarkable (values.Pair 1 true)) (gives (at 2))
    ∷ line 1 (WriteField 1 1 (at 2)) done
    ∷ line 1 (ReadField 1 1) (gives (at 2))
    ∷ line 1 (SwapPair 2 (values.Pair 1 true) (values.Pair 0 false)) (gives yes)
    ∷ line 1 (ReadField 1 1) (gives (at 2))
    ∷ line 1 (ReadPair 2) (gives (values.Pair 0 false))
    ∷ line 1 (ReadField 1 1) (gives (at 2))
    ∷ line 1 (ReadPair 2) (gives (values.Pair 0 false))
    ∷ line 1 (Return 1 (Some yes)) done
    ∷ [])

-- return r.attemptMark(this, true) && r.isMarked();
abbrev pub AttemptOfTheSameMark : Type 0
AttemptOfTheSameMark =
    source_trace
    (record {
      classes = (one_class (types.Int ∷ (types.Markable 0) ∷ []) 3 ∷ []);
      methods =
          (method 0 0 ((types.Class 0) ∷ []) (Some types.Boolean)
          (block ((SetField (Slot 0) 1 (MakeMarkable 0 (More (Slot 0) (More (Literal yes) End)))) ∷
          (ReturnValue (And (Call (Field (Slot 0) 0 1) called.Attempt (More (Slot 0) (More (Literal yes) End)))
          (Call (Field (Slot 0) 0 1) (called.IsMarked 0) End))) ∷ []))
          ∷ method 0 0 ((types.Class 0) ∷ []) (Some (types.Class 0))
          (block ((SetField (Slot 0) 0 (Binary operators.Add (Field (Slot 0) 0 0) (Literal (int 1)))) ∷
          (ReturnValue (Slot 0)) ∷ []))
          ∷ method 0 0 ((types.Class 0) ∷ []) (Some types.Boolean)
          (block ((SetField (Slot 0) 0 (Binary operators.Add (Field (Slot 0) 0 0) (Literal (int 1)))) ∷
          (ReturnValue (Literal yes)) ∷ []))
          ∷ method 0 0 ((types.Class 0) ∷ []) None (block [])
          ∷ []);
    })
    (program (0 ∷ []) ((making 0 0 [] ∷ []) ∷ (calling 0 0 [] ∷ []) ∷ []))
    (replicate 9 0 ++ replicate 99 1)
    ≡
    (line 0 (actions.Call 1) done
    ∷ line 0 (New 0) (gives (at 1))
    ∷ line 0 (Enter 3) done
    ∷ line 0 (WriteName 0 (at 1)) done
    ∷ line 0 (Return 1 None) done
    ∷ line 1 (actions.Call 1) done
    ∷ line 1 (ReadName 0) (gives (at 1))
    ∷ line 1 (Enter 0) done
    ∷ line 1 (NewMarkable (values.Pair 1 true)) (gives (at 2))
    ∷ line 1 (WriteField 1 1 (at 2)) done
    ∷ line 1 (ReadField 1 1) (gives (at 2))
    ∷ line 1 (AttemptMark 2 1 true) (gives yes)
    ∷ line 1 (ReadField 1 1) (gives (at 2))
    ∷ line 1 (ReadPair 2) (gives (values.Pair 1 true))
    ∷ line 1 (Return 1 (Some yes)) done
    ∷ [])
