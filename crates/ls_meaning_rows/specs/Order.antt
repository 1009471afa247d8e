-- The order of evaluation (JLS 15.7, 15.10.4, 15.12.4, 15.26.1). Each text is above its checked file. Then come its
-- thread program, schedule and trace.
use Rattle.std.specs.Prelude.{◌≡◌, [], ◌∷◌, ◌++◌, replicate, None, Some}
use Rattle.ls_events.specs.declared.value.ValueType.TheVariants as types
use Rattle.ls_events.specs.declared.kind.Kind.TheVariants as kinds
use Rattle.ls_events.specs.declared.action.Action.TheVariants.{ReadField, WriteField, ReadName}
use Rattle.ls_events.specs.declared.action.Action.TheVariants.{WriteName, New}
use Rattle.ls_events.specs.declared.action.Action.TheVariants.{Enter, Return, Trap}
use Rattle.ls_events.specs.declared.action.Action.TheVariants as actions
use Rattle.ls_checked.specs.declared.tree.Operator.TheVariants as operators
use Rattle.ls_checked.specs.declared.tree.Called.TheVariants as called
use Rattle.ls_checked.specs.CheckedTree.{Literal, Slot, Field, Binary, And, Or, Call, MakeObject}
use Rattle.ls_checked.specs.CheckedTree.{End, More, SetField, Evaluate, ReturnValue}
use Rattle.ls_meaning.specs.Runs.{source_trace}
use Rattle.ls_meaning_rows.specs.Made.{int, minus, yes, no, null, at, block, one_class, method, making, calling}
use Rattle.ls_meaning_rows.specs.Made.{program, line, done, gives}

-- class C { int v; C n; void f() { n.g(s(), 0); }
--   int s() { v = v + 1; return v; } int g(int a, int b) { return a - b; } }
abbrev pub TargetNullAfterArguments : Type 0
TargetNullAfterArguments =
    source_trace
    (record {
      classes = (one_class (types.Int ∷ (types.Class 0) ∷ []) 3 ∷ []);
      methods =
          (method 0 0 ((types.Class 0) ∷ []) None
          (block ((Evaluate (Call (Field (Slot 0) 0 1) (called.Method 2)
          (More (Call (Slot 0) (called.Method 1) End) (More (Literal (int 0)) End)))) ∷ []))
          ∷ method 0 0 ((types.Class 0) ∷ []) (Some types.Int)
          (block ((SetField (Slot 0) 0 (Binary operators.Add (Field (Slot 0) 0 0) (Literal (int 1)))) ∷
          (ReturnValue (Field (Slot 0) 0 0)) ∷ []))
          ∷ method 0 2 ((types.Class 0) ∷ types.Int ∷ types.Int ∷ []) (Some types.Int)
          (block ((ReturnValue (Binary operators.Subtract (Slot 1) (Slot 2))) ∷ []))
          ∷ method 0 0 ((types.Class 0) ∷ []) None (block [])
          ∷ []);
    })
    (program (0 ∷ []) ((making 0 0 [] ∷ []) ∷ (calling 0 0 [] ∷ []) ∷ []))
    (replicate 9 0 ++ replicate 99 1)
    ≡
    (line 0 (actions.Call 1) done
    ∷ line 0 (New 0) (gives (at 1))
    ∷ line 0 (Enter 3) done
    ∷ line 0 (WriteName 0 (at 1)) done
    ∷ line 0 (Return 1 None) done
    ∷ line 1 (actions.Call 1) done
    ∷ line 1 (ReadName 0) (gives (at 1))
    ∷ line 1 (Enter 0) done
    ∷ line 1 (ReadField 1 1) (gives null)
    ∷ line 1 (Enter 1) done
    ∷ line 1 (ReadField 1 0) (gives (int 0))
    ∷ line 1 (WriteField 1 0 (int 1)) done
    ∷ line 1 (ReadField 1 0) (gives (int 1))
    ∷ line 1 (Trap 1 kinds.NullPointer) done
    ∷ [])

-- void f() { n.v = s(); }
abbrev pub FieldNullAfterValue : Type 0
FieldNullAfterValue =
    source_trace
    (record {
      classes = (one_class (types.Int ∷ (types.Class 0) ∷ []) 3 ∷ []);
      methods =
          (method 0 0 ((types.Class 0) ∷ []) None
          (block ((SetField (Field (Slot 0) 0 1) 0 (Call (Slot 0) (called.Method 1) End)) ∷ []))
          ∷ method 0 0 ((types.Class 0) ∷ []) (Some types.Int)
          (block ((SetField (Slot 0) 0 (Binary operators.Add (Field (Slot 0) 0 0) (Literal (int 1)))) ∷
          (ReturnValue (Field (Slot 0) 0 0)) ∷ []))
          ∷ method 0 2 ((types.Class 0) ∷ types.Int ∷ types.Int ∷ []) (Some types.Int)
          (block ((ReturnValue (Binary operators.Subtract (Slot 1) (Slot 2))) ∷ []))
          ∷ method 0 0 ((types.Class 0) ∷ []) None (block [])
          ∷ []);
    })
    (program (0 ∷ []) ((making 0 0 [] ∷ []) ∷ (calling 0 0 [] ∷ []) ∷ []))
    (replicate 9 0 ++ replicate 99 1)
    ≡
    (line 0 (actions.Call 1) done
    ∷ line 0 (New 0) (gives (at 1))
    ∷ line 0 (Enter 3) done
    ∷ line 0 (WriteName 0 (at 1)) done
    ∷ line 0 (Return 1 None) done
    ∷ line 1 (actions.Call 1) done
    ∷ line 1 (ReadName 0) (gives (at 1))
    ∷ line 1 (Enter 0) done
    ∷ line 1 (ReadField 1 1) (gives null)
    ∷ line 1 (Enter 1) done
    ∷ line 1 (ReadField 1 0) (gives (int 0))
    ∷ line 1 (WriteField 1 0 (int 1)) done
    ∷ line 1 (ReadField 1 0) (gives (int 1))
    ∷ line 1 (Trap 1 kinds.NullPointer) done
    ∷ [])

-- int f() { return g(s(), s()); }
abbrev pub MethodArguments : Type 0
MethodArguments =
    source_trace
    (record {
      classes = (one_class (types.Int ∷ (types.Class 0) ∷ []) 3 ∷ []);
      methods =
          (method 0 0 ((types.Class 0) ∷ []) (Some types.Int)
          (block ((ReturnValue (Call (Slot 0) (called.Method 2)
          (More (Call (Slot 0) (called.Method 1) End) (More (Call (Slot 0) (called.Method 1) End) End)))) ∷ []))
          ∷ method 0 0 ((types.Class 0) ∷ []) (Some types.Int)
          (block ((SetField (Slot 0) 0 (Binary operators.Add (Field (Slot 0) 0 0) (Literal (int 1)))) ∷
          (ReturnValue (Field (Slot 0) 0 0)) ∷ []))
          ∷ method 0 2 ((types.Class 0) ∷ types.Int ∷ types.Int ∷ []) (Some types.Int)
          (block ((ReturnValue (Binary operators.Subtract (Slot 1) (Slot 2))) ∷ []))
          ∷ method 0 0 ((types.Class 0) ∷ []) None (block [])
          ∷ []);
    })
    (program (0 ∷ []) ((making 0 0 [] ∷ []) ∷ (calling 0 0 [] ∷ []) ∷ []))
    (replicate 9 0 ++ replicate 99 1)
    ≡
    (line 0 (actions.Call 1) done
    ∷ line 0 (New 0) (gives (at 1))
    ∷ line 0 (Enter 3) done
    ∷ line 0 (WriteName 0 (at 1)) done
    ∷ line 0 (Return 1 None) done
    ∷ line 1 (actions.Call 1) done
    ∷ line 1 (ReadName 0) (gives (at 1))
    ∷ line 1 (Enter 0) done
    ∷ line 1 (Enter 1) done
    ∷ line 1 (ReadField 1 0) (gives (int 0))
    ∷ line 1 (WriteField 1 0 (int 1)) done
    ∷ line 1 (ReadField 1 0) (gives (int 1))
    ∷ line 1 (Enter 1) done
    ∷ line 1 (ReadField 1 0) (gives (int 1))
    ∷ line 1 (WriteField 1 0 (int 2)) done
    ∷ line 1 (ReadField 1 0) (gives (int 2))
    ∷ line 1 (Enter 2) done
    ∷ line 1 (Return 1 (Some (minus 1))) done
    ∷ [])

-- int f() { return s() - s(); }
abbrev pub Operands : Type 0
Operands =
    source_trace
    (record {
      classes = (one_class (types.Int ∷ (types.Class 0) ∷ []) 3 ∷ []);
      methods =
          (method 0 0 ((types.Class 0) ∷ []) (Some types.Int)
          (block ((ReturnValue (Binary operators.Subtract (Call (Slot 0) (called.Method 1) End)
          (Call (Slot 0) (called.Method 1) End))) ∷ []))
          ∷ method 0 0 ((types.Class 0) ∷ []) (Some types.Int)
          (block ((SetField (Slot 0) 0 (Binary operators.Add (Field (Slot 0) 0 0) (Literal (int 1)))) ∷
          (ReturnValue (Field (Slot 0) 0 0)) ∷ []))
          ∷ method 0 2 ((types.Class 0) ∷ types.Int ∷ types.Int ∷ []) (Some types.Int)
          (block ((ReturnValue (Binary operators.Subtract (Slot 1) (Slot 2))) ∷ []))
          ∷ method 0 0 ((types.Class 0) ∷ []) None (block [])
          ∷ []);
    })
    (program (0 ∷ []) ((making 0 0 [] ∷ []) ∷ (calling 0 0 [] ∷ []) ∷ []))
    (replicate 9 0 ++ replicate 99 1)
    ≡
    (line 0 (actions.Call 1) done
    ∷ line 0 (New 0) (gives (at 1))
    ∷ line 0 (Enter 3) done
    ∷ line 0 (WriteName 0 (at 1)) done
    ∷ line 0 (Return 1 None) done
    ∷ line 1 (actions.Call 1) done
    ∷ line 1 (ReadName 0) (gives (at 1))
    ∷ line 1 (Enter 0) done
    ∷ line 1 (Enter 1) done
    ∷ line 1 (ReadField 1 0) (gives (int 0))
    ∷ line 1 (WriteField 1 0 (int 1)) done
    ∷ line 1 (ReadField 1 0) (gives (int 1))
    ∷ line 1 (Enter 1) done
    ∷ line 1 (ReadField 1 0) (gives (int 1))
    ∷ line 1 (WriteField 1 0 (int 2)) done
    ∷ line 1 (ReadField 1 0) (gives (int 2))
    ∷ line 1 (Return 1 (Some (minus 1))) done
    ∷ [])

-- int f() { return new D(s(), s()).d; } .. class D { int d; D(int a, int b) { d = a - b; } }
abbrev pub ConstructorArguments : Type 0
ConstructorArguments =
    source_trace
    (record {
      classes = (one_class (types.Int ∷ (types.Class 0) ∷ []) 3 ∷ one_class (types.Int ∷ []) 4 ∷ []);
      methods =
          (method 0 0 ((types.Class 0) ∷ []) (Some types.Int)
          (block ((ReturnValue
          (Field (MakeObject 1 (More (Call (Slot 0) (called.Method 1) End)
          (More (Call (Slot 0) (called.Method 1) End) End))) 1 0)) ∷ []))
          ∷ method 0 0 ((types.Class 0) ∷ []) (Some types.Int)
          (block ((SetField (Slot 0) 0 (Binary operators.Add (Field (Slot 0) 0 0) (Literal (int 1)))) ∷
          (ReturnValue (Field (Slot 0) 0 0)) ∷ []))
          ∷ method 0 2 ((types.Class 0) ∷ types.Int ∷ types.Int ∷ []) (Some types.Int)
          (block ((ReturnValue (Binary operators.Subtract (Slot 1) (Slot 2))) ∷ []))
          ∷ method 0 0 ((types.Class 0) ∷ []) None (block [])
          ∷ method 1 2 ((types.Class 1) ∷ types.Int ∷ types.Int ∷ []) None
          (block ((SetField (Slot 0) 0 (Binary operators.Subtract (Slot 1) (Slot 2))) ∷ []))
          ∷ []);
    })
    (program (0 ∷ []) ((making 0 0 [] ∷ []) ∷ (calling 0 0 [] ∷ []) ∷ []))
    (replicate 9 0 ++ replicate 99 1)
    ≡
    (line 0 (actions.Call 1) done
    ∷ line 0 (New 0) (gives (at 1))
    ∷ line 0 (Enter 3) done
    ∷ line 0 (WriteName 0 (at 1)) done
    ∷ line 0 (Return 1 None) done
    ∷ line 1 (actions.Call 1) done
    ∷ line 1 (ReadName 0) (gives (at 1))
    ∷ line 1 (Enter 0) done
    ∷ line 1 (New 1) (gives (at 2))
    ∷ line 1 (Enter 1) done
    ∷ line 1 (ReadField 1 0) (gives (int 0))
    ∷ line 1 (WriteField 1 0 (int 1)) done
    ∷ line 1 (ReadField 1 0) (gives (int 1))
    ∷ line 1 (Enter 1) done
    ∷ line 1 (ReadField 1 0) (gives (int 1))
    ∷ line 1 (WriteField 1 0 (int 2)) done
    ∷ line 1 (ReadField 1 0) (gives (int 2))
    ∷ line 1 (Enter 4) done
    ∷ line 1 (WriteField 2 0 (minus 1)) done
    ∷ line 1 (ReadField 2 0) (gives (minus 1))
    ∷ line 1 (Return 1 (Some (minus 1))) done
    ∷ [])

-- class C { int v; boolean f() { return false && b(); } boolean b() { v = v + 1; return v == 1; } }
abbrev pub AndLeftFalse : Type 0
AndLeftFalse =
    source_trace
    (record {
      classes = (one_class (types.Int ∷ []) 2 ∷ []);
      methods =
          (method 0 0 ((types.Class 0) ∷ []) (Some types.Boolean)
          (block ((ReturnValue (And (Literal no) (Call (Slot 0) (called.Method 1) End))) ∷ []))
          ∷ method 0 0 ((types.Class 0) ∷ []) (Some types.Boolean)
          (block ((SetField (Slot 0) 0 (Binary operators.Add (Field (Slot 0) 0 0) (Literal (int 1)))) ∷
          (ReturnValue (Binary operators.Equal (Field (Slot 0) 0 0) (Literal (int 1)))) ∷ []))
          ∷ method 0 0 ((types.Class 0) ∷ []) None (block [])
          ∷ []);
    })
    (program (0 ∷ []) ((making 0 0 [] ∷ []) ∷ (calling 0 0 [] ∷ []) ∷ []))
    (replicate 9 0 ++ replicate 99 1)
    ≡
    (line 0 (actions.Call 1) done
    ∷ line 0 (New 0) (gives (at 1))
    ∷ line 0 (Enter 2) done
    ∷ line 0 (WriteName 0 (at 1)) done
    ∷ line 0 (Return 1 None) done
    ∷ line 1 (actions.Call 1) done
    ∷ line 1 (ReadName 0) (gives (at 1))
    ∷ line 1 (Enter 0) done
    ∷ line 1 (Return 1 (Some no)) done
    ∷ [])

-- class C { int v; boolean f() { return true && b(); } boolean b() { v = v + 1; return v == 1; } }
abbrev pub AndLeftTrue : Type 0
AndLeftTrue =
    source_trace
    (record {
      classes = (one_class (types.Int ∷ []) 2 ∷ []);
      methods =
          (method 0 0 ((types.Class 0) ∷ []) (Some types.Boolean)
          (block ((ReturnValue (And (Literal yes) (Call (Slot 0) (called.Method 1) End))) ∷ []))
          ∷ method 0 0 ((types.Class 0) ∷ []) (Some types.Boolean)
          (block ((SetField (Slot 0) 0 (Binary operators.Add (Field (Slot 0) 0 0) (Literal (int 1)))) ∷
          (ReturnValue (Binary operators.Equal (Field (Slot 0) 0 0) (Literal (int 1)))) ∷ []))
          ∷ method 0 0 ((types.Class 0) ∷ []) None (block [])
          ∷ []);
    })
    (program (0 ∷ []) ((making 0 0 [] ∷ []) ∷ (calling 0 0 [] ∷ []) ∷ []))
    (replicate 9 0 ++ replicate 99 1)
    ≡
    (line 0 (actions.Call 1) done
    ∷ line 0 (New 0) (gives (at 1))
    ∷ line 0 (Enter 2) done
    ∷ line 0 (WriteName 0 (at 1)) done
    ∷ line 0 (Return 1 None) done
    ∷ line 1 (actions.Call 1) done
    ∷ line 1 (ReadName 0) (gives (at 1))
    ∷ line 1 (Enter 0) done
    ∷ line 1 (Enter 1) done
    ∷ line 1 (ReadField 1 0) (gives (int 0))
    ∷ line 1 (WriteField 1 0 (int 1)) done
    ∷ line 1 (ReadField 1 0) (gives (int 1))
    ∷ line 1 (Return 1 (Some yes)) done
    ∷ [])

-- class C { int v; boolean f() { return true || b(); } boolean b() { v = v + 1; return v == 1; } }
abbrev pub OrLeftTrue : Type 0
OrLeftTrue =
    source_trace
    (record {
      classes = (one_class (types.Int ∷ []) 2 ∷ []);
      methods =
          (method 0 0 ((types.Class 0) ∷ []) (Some types.Boolean)
          (block ((ReturnValue (Or (Literal yes) (Call (Slot 0) (called.Method 1) End))) ∷ []))
          ∷ method 0 0 ((types.Class 0) ∷ []) (Some types.Boolean)
          (block ((SetField (Slot 0) 0 (Binary operators.Add (Field (Slot 0) 0 0) (Literal (int 1)))) ∷
          (ReturnValue (Binary operators.Equal (Field (Slot 0) 0 0) (Literal (int 1)))) ∷ []))
          ∷ method 0 0 ((types.Class 0) ∷ []) None (block [])
          ∷ []);
    })
    (program (0 ∷ []) ((making 0 0 [] ∷ []) ∷ (calling 0 0 [] ∷ []) ∷ []))
    (replicate 9 0 ++ replicate 99 1)
    ≡
    (line 0 (actions.Call 1) done
    ∷ line 0 (New 0) (gives (at 1))
    ∷ line 0 (Enter 2) done
    ∷ line 0 (WriteName 0 (at 1)) done
    ∷ line 0 (Return 1 None) done
    ∷ line 1 (actions.Call 1) done
    ∷ line 1 (ReadName 0) (gives (at 1))
    ∷ line 1 (Enter 0) done
    ∷ line 1 (Return 1 (Some yes)) done
    ∷ [])

-- class C { int v; boolean f() { return false || b(); } boolean b() { v = v + 1; return v == 1; } }
abbrev pub OrLeftFalse : Type 0
OrLeftFalse =
    source_trace
    (record {
      classes = (one_class (types.Int ∷ []) 2 ∷ []);
      methods =
          (method 0 0 ((types.Class 0) ∷ []) (Some types.Boolean)
          (block ((ReturnValue (Or (Literal no) (Call (Slot 0) (called.Method 1) End))) ∷ []))
          ∷ method 0 0 ((types.Class 0) ∷ []) (Some types.Boolean)
          (block ((SetField (Slot 0) 0 (Binary operators.Add (Field (Slot 0) 0 0) (Literal (int 1)))) ∷
          (ReturnValue (Binary operators.Equal (Field (Slot 0) 0 0) (Literal (int 1)))) ∷ []))
          ∷ method 0 0 ((types.Class 0) ∷ []) None (block [])
          ∷ []);
    })
    (program (0 ∷ []) ((making 0 0 [] ∷ []) ∷ (calling 0 0 [] ∷ []) ∷ []))
    (replicate 9 0 ++ replicate 99 1)
    ≡
    (line 0 (actions.Call 1) done
    ∷ line 0 (New 0) (gives (at 1))
    ∷ line 0 (Enter 2) done
    ∷ line 0 (WriteName 0 (at 1)) done
    ∷ line 0 (Return 1 None) done
    ∷ line 1 (actions.Call 1) done
    ∷ line 1 (ReadName 0) (gives (at 1))
    ∷ line 1 (Enter 0) done
    ∷ line 1 (Enter 1) done
    ∷ line 1 (ReadField 1 0) (gives (int 0))
    ∷ line 1 (WriteField 1 0 (int 1)) done
    ∷ line 1 (ReadField 1 0) (gives (int 1))
    ∷ line 1 (Return 1 (Some yes)) done
    ∷ [])
