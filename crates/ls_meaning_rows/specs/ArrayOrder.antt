-- The order of evaluation at arrays (JLS 15.10.2, 15.10.4, 15.26.1). Each text is above its checked file. Then come its
-- thread program, schedule and trace.
use Rattle.std.specs.Prelude.{◌≡◌, pos, negsuc, [], ◌∷◌, ◌++◌, replicate, None, Some}
use Rattle.ls_events.specs.declared.value.ValueType.TheVariants as types
use Rattle.ls_events.specs.declared.kind.Kind.TheVariants as kinds
use Rattle.ls_events.specs.declared.action.Action.TheVariants.{ReadField, WriteField, ReadItem, WriteItem, ReadName}
use Rattle.ls_events.specs.declared.action.Action.TheVariants.{WriteName, New, NewArray}
use Rattle.ls_events.specs.declared.action.Action.TheVariants.{Enter, Return, Trap}
use Rattle.ls_events.specs.declared.action.Action.TheVariants as actions
use Rattle.ls_checked.specs.declared.tree.Operator.TheVariants as operators
use Rattle.ls_checked.specs.declared.tree.Called.TheVariants as called
use Rattle.ls_checked.specs.CheckedTree.{Literal, Slot, Field, Item, Negate, Binary, And, Call}
use Rattle.ls_checked.specs.CheckedTree.{MakeArray, End, SetSlot, SetField, SetItem, ReturnValue}
use Rattle.ls_meaning.specs.Runs.{source_trace}
use Rattle.ls_meaning_rows.specs.Made.{int, yes, null, at, block, one_class, method, making, calling}
use Rattle.ls_meaning_rows.specs.Made.{program, line, done, gives, fails}

-- class C { int v; boolean[] a; boolean f() { return a[s()]; } .. }
abbrev pub ArrayNullAfterIndex : Type 0
ArrayNullAfterIndex =
    source_trace
    (record {
      classes = (one_class (types.Int ∷ types.BooleanArray ∷ []) 3 ∷ []);
      methods =
          (method 0 0 ((types.Class 0) ∷ []) (Some types.Boolean)
          (block ((ReturnValue (Item (Field (Slot 0) 0 1) (Call (Slot 0) (called.Method 1) End))) ∷ []))
          ∷ method 0 0 ((types.Class 0) ∷ []) (Some types.Int)
          (block ((SetField (Slot 0) 0 (Binary operators.Add (Field (Slot 0) 0 0) (Literal (int 1)))) ∷
          (ReturnValue (Field (Slot 0) 0 0)) ∷ []))
          ∷ method 0 2 ((types.Class 0) ∷ types.Int ∷ types.Int ∷ []) (Some types.Int)
          (block ((ReturnValue (Binary operators.Subtract (Slot 1) (Slot 2))) ∷ []))
          ∷ method 0 0 ((types.Class 0) ∷ []) None (block [])
          ∷ []);
    })
    (program (0 ∷ []) ((making 0 0 [] ∷ []) ∷ (calling 0 0 [] ∷ []) ∷ []))
    (replicate 9 0 ++ replicate 99 1)
    ≡
    (line 0 (actions.Call 1) done
    ∷ line 0 (New 0) (gives (at 1))
    ∷ line 0 (Enter 3) done
    ∷ line 0 (WriteName 0 (at 1)) done
    ∷ line 0 (Return 1 None) done
    ∷ line 1 (actions.Call 1) done
    ∷ line 1 (ReadName 0) (gives (at 1))
    ∷ line 1 (Enter 0) done
    ∷ line 1 (ReadField 1 1) (gives null)
    ∷ line 1 (Enter 1) done
    ∷ line 1 (ReadField 1 0) (gives (int 0))
    ∷ line 1 (WriteField 1 0 (int 1)) done
    ∷ line 1 (ReadField 1 0) (gives (int 1))
    ∷ line 1 (Trap 1 kinds.NullPointer) done
    ∷ [])

-- void f() { a = new boolean[5]; a[s()] = s() == 2; }
abbrev pub ArrayIndexValue : Type 0
ArrayIndexValue =
    source_trace
    (record {
      classes = (one_class (types.Int ∷ types.BooleanArray ∷ []) 3 ∷ []);
      methods =
          (method 0 0 ((types.Class 0) ∷ []) None (block ((SetField (Slot 0) 1 (MakeArray (Literal (int 5)))) ∷
          (SetItem (Field (Slot 0) 0 1) (Call (Slot 0) (called.Method 1) End)
          (Binary operators.Equal (Call (Slot 0) (called.Method 1) End) (Literal (int 2)))) ∷ []))
          ∷ method 0 0 ((types.Class 0) ∷ []) (Some types.Int)
          (block ((SetField (Slot 0) 0 (Binary operators.Add (Field (Slot 0) 0 0) (Literal (int 1)))) ∷
          (ReturnValue (Field (Slot 0) 0 0)) ∷ []))
          ∷ method 0 2 ((types.Class 0) ∷ types.Int ∷ types.Int ∷ []) (Some types.Int)
          (block ((ReturnValue (Binary operators.Subtract (Slot 1) (Slot 2))) ∷ []))
          ∷ method 0 0 ((types.Class 0) ∷ []) None (block [])
          ∷ []);
    })
    (program (0 ∷ []) ((making 0 0 [] ∷ []) ∷ (calling 0 0 [] ∷ []) ∷ []))
    (replicate 9 0 ++ replicate 99 1)
    ≡
    (line 0 (actions.Call 1) done
    ∷ line 0 (New 0) (gives (at 1))
    ∷ line 0 (Enter 3) done
    ∷ line 0 (WriteName 0 (at 1)) done
    ∷ line 0 (Return 1 None) done
    ∷ line 1 (actions.Call 1) done
    ∷ line 1 (ReadName 0) (gives (at 1))
    ∷ line 1 (Enter 0) done
    ∷ line 1 (NewArray (pos 5)) (gives (at 2))
    ∷ line 1 (WriteField 1 1 (at 2)) done
    ∷ line 1 (ReadField 1 1) (gives (at 2))
    ∷ line 1 (Enter 1) done
    ∷ line 1 (ReadField 1 0) (gives (int 0))
    ∷ line 1 (WriteField 1 0 (int 1)) done
    ∷ line 1 (ReadField 1 0) (gives (int 1))
    ∷ line 1 (Enter 1) done
    ∷ line 1 (ReadField 1 0) (gives (int 1))
    ∷ line 1 (WriteField 1 0 (int 2)) done
    ∷ line 1 (ReadField 1 0) (gives (int 2))
    ∷ line 1 (WriteItem 2 (pos 1) yes) done
    ∷ line 1 (Return 1 None) done
    ∷ [])

-- void f() { a[s()] = s() == 2; }
abbrev pub ArrayNullAfterValue : Type 0
ArrayNullAfterValue =
    source_trace
    (record {
      classes = (one_class (types.Int ∷ types.BooleanArray ∷ []) 3 ∷ []);
      methods =
          (method 0 0 ((types.Class 0) ∷ []) None
          (block ((SetItem (Field (Slot 0) 0 1) (Call (Slot 0) (called.Method 1) End)
          (Binary operators.Equal (Call (Slot 0) (called.Method 1) End) (Literal (int 2)))) ∷ []))
          ∷ method 0 0 ((types.Class 0) ∷ []) (Some types.Int)
          (block ((SetField (Slot 0) 0 (Binary operators.Add (Field (Slot 0) 0 0) (Literal (int 1)))) ∷
          (ReturnValue (Field (Slot 0) 0 0)) ∷ []))
          ∷ method 0 2 ((types.Class 0) ∷ types.Int ∷ types.Int ∷ []) (Some types.Int)
          (block ((ReturnValue (Binary operators.Subtract (Slot 1) (Slot 2))) ∷ []))
          ∷ method 0 0 ((types.Class 0) ∷ []) None (block [])
          ∷ []);
    })
    (program (0 ∷ []) ((making 0 0 [] ∷ []) ∷ (calling 0 0 [] ∷ []) ∷ []))
    (replicate 9 0 ++ replicate 99 1)
    ≡
    (line 0 (actions.Call 1) done
    ∷ line 0 (New 0) (gives (at 1))
    ∷ line 0 (Enter 3) done
    ∷ line 0 (WriteName 0 (at 1)) done
    ∷ line 0 (Return 1 None) done
    ∷ line 1 (actions.Call 1) done
    ∷ line 1 (ReadName 0) (gives (at 1))
    ∷ line 1 (Enter 0) done
    ∷ line 1 (ReadField 1 1) (gives null)
    ∷ line 1 (Enter 1) done
    ∷ line 1 (ReadField 1 0) (gives (int 0))
    ∷ line 1 (WriteField 1 0 (int 1)) done
    ∷ line 1 (ReadField 1 0) (gives (int 1))
    ∷ line 1 (Enter 1) done
    ∷ line 1 (ReadField 1 0) (gives (int 1))
    ∷ line 1 (WriteField 1 0 (int 2)) done
    ∷ line 1 (ReadField 1 0) (gives (int 2))
    ∷ line 1 (Trap 1 kinds.NullPointer) done
    ∷ [])

-- boolean f() { return new boolean[1][-1]; }, of an array that a local names
abbrev pub NegativeIndex : Type 0
NegativeIndex =
    source_trace
    (record {
      classes = (one_class (types.Int ∷ types.BooleanArray ∷ []) 3 ∷ []);
      methods =
          (method 0 0 ((types.Class 0) ∷ types.BooleanArray ∷ []) (Some types.Boolean)
          (block ((block ((SetSlot 1 (Literal null)) ∷ (SetSlot 1 (MakeArray (Literal (int 1)))) ∷ [])) ∷
          (ReturnValue (Item (Slot 1) (Negate (Literal (int 1))))) ∷ []))
          ∷ method 0 0 ((types.Class 0) ∷ []) (Some types.Int)
          (block ((SetField (Slot 0) 0 (Binary operators.Add (Field (Slot 0) 0 0) (Literal (int 1)))) ∷
          (ReturnValue (Field (Slot 0) 0 0)) ∷ []))
          ∷ method 0 2 ((types.Class 0) ∷ types.Int ∷ types.Int ∷ []) (Some types.Int)
          (block ((ReturnValue (Binary operators.Subtract (Slot 1) (Slot 2))) ∷ []))
          ∷ method 0 0 ((types.Class 0) ∷ []) None (block [])
          ∷ []);
    })
    (program (0 ∷ []) ((making 0 0 [] ∷ []) ∷ (calling 0 0 [] ∷ []) ∷ []))
    (replicate 9 0 ++ replicate 99 1)
    ≡
    (line 0 (actions.Call 1) done
    ∷ line 0 (New 0) (gives (at 1))
    ∷ line 0 (Enter 3) done
    ∷ line 0 (WriteName 0 (at 1)) done
    ∷ line 0 (Return 1 None) done
    ∷ line 1 (actions.Call 1) done
    ∷ line 1 (ReadName 0) (gives (at 1))
    ∷ line 1 (Enter 0) done
    ∷ line 1 (NewArray (pos 1)) (gives (at 2))
    ∷ line 1 (ReadItem 2 (negsuc 0)) (fails kinds.ArrayIndexOutOfBounds)
    ∷ line 1 (Trap 1 kinds.ArrayIndexOutOfBounds) done
    ∷ [])

-- void f() { boolean[] x = new boolean[-1]; }
abbrev pub NegativeLength : Type 0
NegativeLength =
    source_trace
    (record {
      classes = (one_class (types.Int ∷ types.BooleanArray ∷ []) 3 ∷ []);
      methods =
          (method 0 0 ((types.Class 0) ∷ types.BooleanArray ∷ []) None
          (block ((block ((SetSlot 1 (Literal null)) ∷ (SetSlot 1 (MakeArray (Negate (Literal (int 1))))) ∷ [])) ∷
          []))
          ∷ method 0 0 ((types.Class 0) ∷ []) (Some types.Int)
          (block ((SetField (Slot 0) 0 (Binary operators.Add (Field (Slot 0) 0 0) (Literal (int 1)))) ∷
          (ReturnValue (Field (Slot 0) 0 0)) ∷ []))
          ∷ method 0 2 ((types.Class 0) ∷ types.Int ∷ types.Int ∷ []) (Some types.Int)
          (block ((ReturnValue (Binary operators.Subtract (Slot 1) (Slot 2))) ∷ []))
          ∷ method 0 0 ((types.Class 0) ∷ []) None (block [])
          ∷ []);
    })
    (program (0 ∷ []) ((making 0 0 [] ∷ []) ∷ (calling 0 0 [] ∷ []) ∷ []))
    (replicate 9 0 ++ replicate 99 1)
    ≡
    (line 0 (actions.Call 1) done
    ∷ line 0 (New 0) (gives (at 1))
    ∷ line 0 (Enter 3) done
    ∷ line 0 (WriteName 0 (at 1)) done
    ∷ line 0 (Return 1 None) done
    ∷ line 1 (actions.Call 1) done
    ∷ line 1 (ReadName 0) (gives (at 1))
    ∷ line 1 (Enter 0) done
    ∷ line 1 (Trap 1 kinds.NegativeArraySize) done
    ∷ [])

-- boolean f() { boolean[] x = new boolean[2]; x[1] = true; return x[1] && x[2]; }
abbrev pub IndexAtTheLength : Type 0
IndexAtTheLength =
    source_trace
    (record {
      classes = (one_class (types.Int ∷ types.BooleanArray ∷ []) 3 ∷ []);
      methods =
          (method 0 0 ((types.Class 0) ∷ types.BooleanArray ∷ []) (Some types.Boolean)
          (block ((block ((SetSlot 1 (Literal null)) ∷ (SetSlot 1 (MakeArray (Literal (int 2)))) ∷ [])) ∷
          (SetItem (Slot 1) (Literal (int 1)) (Literal yes)) ∷
          (ReturnValue (And (Item (Slot 1) (Literal (int 1))) (Item (Slot 1) (Literal (int 2))))) ∷ []))
          ∷ method 0 0 ((types.Class 0) ∷ []) (Some types.Int)
          (block ((SetField (Slot 0) 0 (Binary operators.Add (Field (Slot 0) 0 0) (Literal (int 1)))) ∷
          (ReturnValue (Field (Slot 0) 0 0)) ∷ []))
          ∷ method 0 2 ((types.Class 0) ∷ types.Int ∷ types.Int ∷ []) (Some types.Int)
          (block ((ReturnValue (Binary operators.Subtract (Slot 1) (Slot 2))) ∷ []))
          ∷ method 0 0 ((types.Class 0) ∷ []) None (block [])
          ∷ []);
    })
    (program (0 ∷ []) ((making 0 0 [] ∷ []) ∷ (calling 0 0 [] ∷ []) ∷ []))
    (replicate 9 0 ++ replicate 99 1)
    ≡
    (line 0 (actions.Call 1) done
    ∷ line 0 (New 0) (gives (at 1))
    ∷ line 0 (Enter 3) done
    ∷ line 0 (WriteName 0 (at 1)) done
    ∷ line 0 (Return 1 None) done
    ∷ line 1 (actions.Call 1) done
    ∷ line 1 (ReadName 0) (gives (at 1))
    ∷ line 1 (Enter 0) done
    ∷ line 1 (NewArray (pos 2)) (gives (at 2))
    ∷ line 1 (WriteItem 2 (pos 1) yes) done
    ∷ line 1 (ReadItem 2 (pos 1)) (gives yes)
    ∷ line 1 (ReadItem 2 (pos 2)) (fails kinds.ArrayIndexOutOfBounds)
    ∷ line 1 (Trap 1 kinds.ArrayIndexOutOfBounds) done
    ∷ [])
