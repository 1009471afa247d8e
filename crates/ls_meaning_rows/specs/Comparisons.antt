-- What comparisons compute (JLS 15.15, 15.20, 15.21). Each text is above its checked file. Then come its thread
-- program, schedule and trace.
use Rattle.std.specs.Prelude.{◌≡◌, [], ◌∷◌, ◌++◌, replicate, None, Some}
use Rattle.ls_events.specs.declared.value.ValueType.TheVariants as types
use Rattle.ls_events.specs.declared.action.Action.TheVariants.{ReadName, WriteName, New, Enter, Return}
use Rattle.ls_events.specs.declared.action.Action.TheVariants as actions
use Rattle.ls_checked.specs.declared.tree.Operator.TheVariants as operators
use Rattle.ls_checked.specs.CheckedTree.{Literal, Slot, Not, Binary, And, Or, MakeObject, End, ReturnValue}
use Rattle.ls_meaning.specs.Runs.{source_trace}
use Rattle.ls_meaning_rows.specs.Made.{int, minus, yes, no, null, at, block, one_class, method, making, calling}
use Rattle.ls_meaning_rows.specs.Made.{program, line, done, gives}

-- class C { boolean f(int a, int b) { return a < b; } } with (1, 2), (2, 2), (3, 2), (-1, 1)
abbrev pub Less : Type 0
Less =
    source_trace
    (record {
      classes = (one_class [] 1 ∷ []);
      methods =
          (method 0 2 ((types.Class 0) ∷ types.Int ∷ types.Int ∷ []) (Some types.Boolean)
          (block ((ReturnValue (Binary operators.Less (Slot 1) (Slot 2))) ∷ []))
          ∷ method 0 0 ((types.Class 0) ∷ []) None (block [])
          ∷ []);
    })
    (program (0 ∷ []) ((making 0 0 [] ∷ []) ∷ (calling 0 0 ((int 1) ∷ (int 2) ∷ []) ∷
    calling 0 0 ((int 2) ∷ (int 2) ∷ []) ∷ calling 0 0 ((int 3) ∷ (int 2) ∷ []) ∷
    calling 0 0 ((minus 1) ∷ (int 1) ∷ []) ∷ []) ∷ []))
    (replicate 9 0 ++ replicate 99 1)
    ≡
    (line 0 (actions.Call 1) done
    ∷ line 0 (New 0) (gives (at 1))
    ∷ line 0 (Enter 1) done
    ∷ line 0 (WriteName 0 (at 1)) done
    ∷ line 0 (Return 1 None) done
    ∷ line 1 (actions.Call 1) done
    ∷ line 1 (ReadName 0) (gives (at 1))
    ∷ line 1 (Enter 0) done
    ∷ line 1 (Return 1 (Some yes)) done
    ∷ line 1 (actions.Call 2) done
    ∷ line 1 (ReadName 0) (gives (at 1))
    ∷ line 1 (Enter 0) done
    ∷ line 1 (Return 2 (Some no)) done
    ∷ line 1 (actions.Call 3) done
    ∷ line 1 (ReadName 0) (gives (at 1))
    ∷ line 1 (Enter 0) done
    ∷ line 1 (Return 3 (Some no)) done
    ∷ line 1 (actions.Call 4) done
    ∷ line 1 (ReadName 0) (gives (at 1))
    ∷ line 1 (Enter 0) done
    ∷ line 1 (Return 4 (Some yes)) done
    ∷ [])

-- class C { boolean f(int a, int b) { return a <= b; } } with (1, 2), (2, 2), (3, 2)
abbrev pub LessOrEqual : Type 0
LessOrEqual =
    source_trace
    (record {
      classes = (one_class [] 1 ∷ []);
      methods =
          (method 0 2 ((types.Class 0) ∷ types.Int ∷ types.Int ∷ []) (Some types.Boolean)
          (block ((ReturnValue (Binary operators.LessEqual (Slot 1) (Slot 2))) ∷ []))
          ∷ method 0 0 ((types.Class 0) ∷ []) None (block [])
          ∷ []);
    })
    (program (0 ∷ []) ((making 0 0 [] ∷ []) ∷ (calling 0 0 ((int 1) ∷ (int 2) ∷ []) ∷
    calling 0 0 ((int 2) ∷ (int 2) ∷ []) ∷ calling 0 0 ((int 3) ∷ (int 2) ∷ []) ∷ []) ∷ []))
    (replicate 9 0 ++ replicate 99 1)
    ≡
    (line 0 (actions.Call 1) done
    ∷ line 0 (New 0) (gives (at 1))
    ∷ line 0 (Enter 1) done
    ∷ line 0 (WriteName 0 (at 1)) done
    ∷ line 0 (Return 1 None) done
    ∷ line 1 (actions.Call 1) done
    ∷ line 1 (ReadName 0) (gives (at 1))
    ∷ line 1 (Enter 0) done
    ∷ line 1 (Return 1 (Some yes)) done
    ∷ line 1 (actions.Call 2) done
    ∷ line 1 (ReadName 0) (gives (at 1))
    ∷ line 1 (Enter 0) done
    ∷ line 1 (Return 2 (Some yes)) done
    ∷ line 1 (actions.Call 3) done
    ∷ line 1 (ReadName 0) (gives (at 1))
    ∷ line 1 (Enter 0) done
    ∷ line 1 (Return 3 (Some no)) done
    ∷ [])

-- class C { boolean f(int a, int b) { return a > b; } } with (1, 2), (2, 2), (3, 2), (1, -1)
abbrev pub Greater : Type 0
Greater =
    source_trace
    (record {
      classes = (one_class [] 1 ∷ []);
      methods =
          (method 0 2 ((types.Class 0) ∷ types.Int ∷ types.Int ∷ []) (Some types.Boolean)
          (block ((ReturnValue (Binary operators.Greater (Slot 1) (Slot 2))) ∷ []))
          ∷ method 0 0 ((types.Class 0) ∷ []) None (block [])
          ∷ []);
    })
    (program (0 ∷ []) ((making 0 0 [] ∷ []) ∷ (calling 0 0 ((int 1) ∷ (int 2) ∷ []) ∷
    calling 0 0 ((int 2) ∷ (int 2) ∷ []) ∷ calling 0 0 ((int 3) ∷ (int 2) ∷ []) ∷
    calling 0 0 ((int 1) ∷ (minus 1) ∷ []) ∷ []) ∷ []))
    (replicate 9 0 ++ replicate 99 1)
    ≡
    (line 0 (actions.Call 1) done
    ∷ line 0 (New 0) (gives (at 1))
    ∷ line 0 (Enter 1) done
    ∷ line 0 (WriteName 0 (at 1)) done
    ∷ line 0 (Return 1 None) done
    ∷ line 1 (actions.Call 1) done
    ∷ line 1 (ReadName 0) (gives (at 1))
    ∷ line 1 (Enter 0) done
    ∷ line 1 (Return 1 (Some no)) done
    ∷ line 1 (actions.Call 2) done
    ∷ line 1 (ReadName 0) (gives (at 1))
    ∷ line 1 (Enter 0) done
    ∷ line 1 (Return 2 (Some no)) done
    ∷ line 1 (actions.Call 3) done
    ∷ line 1 (ReadName 0) (gives (at 1))
    ∷ line 1 (Enter 0) done
    ∷ line 1 (Return 3 (Some yes)) done
    ∷ line 1 (actions.Call 4) done
    ∷ line 1 (ReadName 0) (gives (at 1))
    ∷ line 1 (Enter 0) done
    ∷ line 1 (Return 4 (Some yes)) done
    ∷ [])

-- class C { boolean f(int a, int b) { return a >= b; } } with (1, 2), (2, 2), (3, 2)
abbrev pub GreaterOrEqual : Type 0
GreaterOrEqual =
    source_trace
    (record {
      classes = (one_class [] 1 ∷ []);
      methods =
          (method 0 2 ((types.Class 0) ∷ types.Int ∷ types.Int ∷ []) (Some types.Boolean)
          (block ((ReturnValue (Binary operators.GreaterEqual (Slot 1) (Slot 2))) ∷ []))
          ∷ method 0 0 ((types.Class 0) ∷ []) None (block [])
          ∷ []);
    })
    (program (0 ∷ []) ((making 0 0 [] ∷ []) ∷ (calling 0 0 ((int 1) ∷ (int 2) ∷ []) ∷
    calling 0 0 ((int 2) ∷ (int 2) ∷ []) ∷ calling 0 0 ((int 3) ∷ (int 2) ∷ []) ∷ []) ∷ []))
    (replicate 9 0 ++ replicate 99 1)
    ≡
    (line 0 (actions.Call 1) done
    ∷ line 0 (New 0) (gives (at 1))
    ∷ line 0 (Enter 1) done
    ∷ line 0 (WriteName 0 (at 1)) done
    ∷ line 0 (Return 1 None) done
    ∷ line 1 (actions.Call 1) done
    ∷ line 1 (ReadName 0) (gives (at 1))
    ∷ line 1 (Enter 0) done
    ∷ line 1 (Return 1 (Some no)) done
    ∷ line 1 (actions.Call 2) done
    ∷ line 1 (ReadName 0) (gives (at 1))
    ∷ line 1 (Enter 0) done
    ∷ line 1 (Return 2 (Some yes)) done
    ∷ line 1 (actions.Call 3) done
    ∷ line 1 (ReadName 0) (gives (at 1))
    ∷ line 1 (Enter 0) done
    ∷ line 1 (Return 3 (Some yes)) done
    ∷ [])

-- class C { boolean f(int a, int b) { return a == b; } } with (2, 2), (2, -2)
abbrev pub Equal : Type 0
Equal =
    source_trace
    (record {
      classes = (one_class [] 1 ∷ []);
      methods =
          (method 0 2 ((types.Class 0) ∷ types.Int ∷ types.Int ∷ []) (Some types.Boolean)
          (block ((ReturnValue (Binary operators.Equal (Slot 1) (Slot 2))) ∷ []))
          ∷ method 0 0 ((types.Class 0) ∷ []) None (block [])
          ∷ []);
    })
    (program (0 ∷ []) ((making 0 0 [] ∷ []) ∷ (calling 0 0 ((int 2) ∷ (int 2) ∷ []) ∷
    calling 0 0 ((int 2) ∷ (minus 2) ∷ []) ∷ []) ∷ []))
    (replicate 9 0 ++ replicate 99 1)
    ≡
    (line 0 (actions.Call 1) done
    ∷ line 0 (New 0) (gives (at 1))
    ∷ line 0 (Enter 1) done
    ∷ line 0 (WriteName 0 (at 1)) done
    ∷ line 0 (Return 1 None) done
    ∷ line 1 (actions.Call 1) done
    ∷ line 1 (ReadName 0) (gives (at 1))
    ∷ line 1 (Enter 0) done
    ∷ line 1 (Return 1 (Some yes)) done
    ∷ line 1 (actions.Call 2) done
    ∷ line 1 (ReadName 0) (gives (at 1))
    ∷ line 1 (Enter 0) done
    ∷ line 1 (Return 2 (Some no)) done
    ∷ [])

-- class C { boolean f(int a, int b) { return a != b; } } with (2, 2), (2, -2)
abbrev pub NotEqual : Type 0
NotEqual =
    source_trace
    (record {
      classes = (one_class [] 1 ∷ []);
      methods =
          (method 0 2 ((types.Class 0) ∷ types.Int ∷ types.Int ∷ []) (Some types.Boolean)
          (block ((ReturnValue (Binary operators.NotEqual (Slot 1) (Slot 2))) ∷ []))
          ∷ method 0 0 ((types.Class 0) ∷ []) None (block [])
          ∷ []);
    })
    (program (0 ∷ []) ((making 0 0 [] ∷ []) ∷ (calling 0 0 ((int 2) ∷ (int 2) ∷ []) ∷
    calling 0 0 ((int 2) ∷ (minus 2) ∷ []) ∷ []) ∷ []))
    (replicate 9 0 ++ replicate 99 1)
    ≡
    (line 0 (actions.Call 1) done
    ∷ line 0 (New 0) (gives (at 1))
    ∷ line 0 (Enter 1) done
    ∷ line 0 (WriteName 0 (at 1)) done
    ∷ line 0 (Return 1 None) done
    ∷ line 1 (actions.Call 1) done
    ∷ line 1 (ReadName 0) (gives (at 1))
    ∷ line 1 (Enter 0) done
    ∷ line 1 (Return 1 (Some no)) done
    ∷ line 1 (actions.Call 2) done
    ∷ line 1 (ReadName 0) (gives (at 1))
    ∷ line 1 (Enter 0) done
    ∷ line 1 (Return 2 (Some yes)) done
    ∷ [])

-- boolean f() { return new C() == new C() || new C() == null || this != this || null != null; }
abbrev pub References : Type 0
References =
    source_trace
    (record {
      classes = (one_class [] 1 ∷ []);
      methods =
          (method 0 0 ((types.Class 0) ∷ []) (Some types.Boolean)
          (block ((ReturnValue
          (Or (Or (Or (Binary operators.Equal (MakeObject 0 End) (MakeObject 0 End))
          (Binary operators.Equal (MakeObject 0 End) (Literal null))) (Binary operators.NotEqual (Slot 0) (Slot 0)))
          (Binary operators.NotEqual (Literal null) (Literal null)))) ∷ []))
          ∷ method 0 0 ((types.Class 0) ∷ []) None (block [])
          ∷ []);
    })
    (program (0 ∷ []) ((making 0 0 [] ∷ []) ∷ (calling 0 0 [] ∷ []) ∷ []))
    (replicate 9 0 ++ replicate 99 1)
    ≡
    (line 0 (actions.Call 1) done
    ∷ line 0 (New 0) (gives (at 1))
    ∷ line 0 (Enter 1) done
    ∷ line 0 (WriteName 0 (at 1)) done
    ∷ line 0 (Return 1 None) done
    ∷ line 1 (actions.Call 1) done
    ∷ line 1 (ReadName 0) (gives (at 1))
    ∷ line 1 (Enter 0) done
    ∷ line 1 (New 0) (gives (at 2))
    ∷ line 1 (Enter 1) done
    ∷ line 1 (New 0) (gives (at 3))
    ∷ line 1 (Enter 1) done
    ∷ line 1 (New 0) (gives (at 4))
    ∷ line 1 (Enter 1) done
    ∷ line 1 (Return 1 (Some no)) done
    ∷ [])

-- boolean f() { return true == true && false == false && true != false && !(true == false); }
abbrev pub Booleans : Type 0
Booleans =
    source_trace
    (record {
      classes = (one_class [] 1 ∷ []);
      methods =
          (method 0 0 ((types.Class 0) ∷ []) (Some types.Boolean)
          (block ((ReturnValue
          (And (And (And (Binary operators.Equal (Literal yes) (Literal yes))
          (Binary operators.Equal (Literal no) (Literal no)))
          (Binary operators.NotEqual (Literal yes) (Literal no)))
          (Not (Binary operators.Equal (Literal yes) (Literal no))))) ∷ []))
          ∷ method 0 0 ((types.Class 0) ∷ []) None (block [])
          ∷ []);
    })
    (program (0 ∷ []) ((making 0 0 [] ∷ []) ∷ (calling 0 0 [] ∷ []) ∷ []))
    (replicate 9 0 ++ replicate 99 1)
    ≡
    (line 0 (actions.Call 1) done
    ∷ line 0 (New 0) (gives (at 1))
    ∷ line 0 (Enter 1) done
    ∷ line 0 (WriteName 0 (at 1)) done
    ∷ line 0 (Return 1 None) done
    ∷ line 1 (actions.Call 1) done
    ∷ line 1 (ReadName 0) (gives (at 1))
    ∷ line 1 (Enter 0) done
    ∷ line 1 (Return 1 (Some yes)) done
    ∷ [])
