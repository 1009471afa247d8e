-- What the operators of arithmetic compute (JLS 15.15, 15.17, 15.18). Each text is above its checked file. Then come
-- its thread program, schedule and trace.
use Rattle.std.specs.Prelude.{◌≡◌, [], ◌∷◌, ◌++◌, replicate, None, Some}
use Rattle.ls_events.specs.declared.value.ValueType.TheVariants as types
use Rattle.ls_events.specs.declared.kind.Kind.TheVariants as kinds
use Rattle.ls_events.specs.declared.action.Action.TheVariants.{ReadName, WriteName, New, Enter, Return, Trap}
use Rattle.ls_events.specs.declared.action.Action.TheVariants as actions
use Rattle.ls_checked.specs.declared.tree.Operator.TheVariants as operators
use Rattle.ls_checked.specs.CheckedTree.{Literal, Slot, Negate, Binary, ReturnValue}
use Rattle.ls_meaning.specs.Runs.{source_trace}
use Rattle.ls_meaning_rows.specs.Made.{int, minus, at, block, one_class, method, making, calling, program, line, done}
use Rattle.ls_meaning_rows.specs.Made.{gives}

-- class C { int f(int a, int b) { return a / b; } } with (7, 2), (-7, 2), (7, -2), (-7, -2), (-2147483648, -1)
abbrev pub Quotients : Type 0
Quotients =
    source_trace
    (record {
      classes = (one_class [] 1 ∷ []);
      methods =
          (method 0 2 ((types.Class 0) ∷ types.Int ∷ types.Int ∷ []) (Some types.Int)
          (block ((ReturnValue (Binary operators.Divide (Slot 1) (Slot 2))) ∷ []))
          ∷ method 0 0 ((types.Class 0) ∷ []) None (block [])
          ∷ []);
    })
    (program (0 ∷ []) ((making 0 0 [] ∷ []) ∷ (calling 0 0 ((int 7) ∷ (int 2) ∷ []) ∷
    calling 0 0 ((minus 7) ∷ (int 2) ∷ []) ∷ calling 0 0 ((int 7) ∷ (minus 2) ∷ []) ∷
    calling 0 0 ((minus 7) ∷ (minus 2) ∷ []) ∷ calling 0 0 ((minus 2147483648) ∷ (minus 1) ∷ []) ∷ []) ∷ []))
    (replicate 9 0 ++ replicate 99 1)
    ≡
    (line 0 (actions.Call 1) done
    ∷ line 0 (New 0) (gives (at 1))
    ∷ line 0 (Enter 1) done
    ∷ line 0 (WriteName 0 (at 1)) done
    ∷ line 0 (Return 1 None) done
    ∷ line 1 (actions.Call 1) done
    ∷ line 1 (ReadName 0) (gives (at 1))
    ∷ line 1 (Enter 0) done
    ∷ line 1 (Return 1 (Some (int 3))) done
    ∷ line 1 (actions.Call 2) done
    ∷ line 1 (ReadName 0) (gives (at 1))
    ∷ line 1 (Enter 0) done
    ∷ line 1 (Return 2 (Some (minus 3))) done
    ∷ line 1 (actions.Call 3) done
    ∷ line 1 (ReadName 0) (gives (at 1))
    ∷ line 1 (Enter 0) done
    ∷ line 1 (Return 3 (Some (minus 3))) done
    ∷ line 1 (actions.Call 4) done
    ∷ line 1 (ReadName 0) (gives (at 1))
    ∷ line 1 (Enter 0) done
    ∷ line 1 (Return 4 (Some (int 3))) done
    ∷ line 1 (actions.Call 5) done
    ∷ line 1 (ReadName 0) (gives (at 1))
    ∷ line 1 (Enter 0) done
    ∷ line 1 (Return 5 (Some (minus 2147483648))) done
    ∷ [])

-- class C { int f(int a, int b) { return a % b; } } with (7, 2), (-7, 2), (7, -2), (-7, -2), (-2147483648, -1)
abbrev pub Remainders : Type 0
Remainders =
    source_trace
    (record {
      classes = (one_class [] 1 ∷ []);
      methods =
          (method 0 2 ((types.Class 0) ∷ types.Int ∷ types.Int ∷ []) (Some types.Int)
          (block ((ReturnValue (Binary operators.Remainder (Slot 1) (Slot 2))) ∷ []))
          ∷ method 0 0 ((types.Class 0) ∷ []) None (block [])
          ∷ []);
    })
    (program (0 ∷ []) ((making 0 0 [] ∷ []) ∷ (calling 0 0 ((int 7) ∷ (int 2) ∷ []) ∷
    calling 0 0 ((minus 7) ∷ (int 2) ∷ []) ∷ calling 0 0 ((int 7) ∷ (minus 2) ∷ []) ∷
    calling 0 0 ((minus 7) ∷ (minus 2) ∷ []) ∷ calling 0 0 ((minus 2147483648) ∷ (minus 1) ∷ []) ∷ []) ∷ []))
    (replicate 9 0 ++ replicate 99 1)
    ≡
    (line 0 (actions.Call 1) done
    ∷ line 0 (New 0) (gives (at 1))
    ∷ line 0 (Enter 1) done
    ∷ line 0 (WriteName 0 (at 1)) done
    ∷ line 0 (Return 1 None) done
    ∷ line 1 (actions.Call 1) done
    ∷ line 1 (ReadName 0) (gives (at 1))
    ∷ line 1 (Enter 0) done
    ∷ line 1 (Return 1 (Some (int 1))) done
    ∷ line 1 (actions.Call 2) done
    ∷ line 1 (ReadName 0) (gives (at 1))
    ∷ line 1 (Enter 0) done
    ∷ line 1 (Return 2 (Some (minus 1))) done
    ∷ line 1 (actions.Call 3) done
    ∷ line 1 (ReadName 0) (gives (at 1))
    ∷ line 1 (Enter 0) done
    ∷ line 1 (Return 3 (Some (int 1))) done
    ∷ line 1 (actions.Call 4) done
    ∷ line 1 (ReadName 0) (gives (at 1))
    ∷ line 1 (Enter 0) done
    ∷ line 1 (Return 4 (Some (minus 1))) done
    ∷ line 1 (actions.Call 5) done
    ∷ line 1 (ReadName 0) (gives (at 1))
    ∷ line 1 (Enter 0) done
    ∷ line 1 (Return 5 (Some (int 0))) done
    ∷ [])

-- class C { int f(int a, int b) { return a + b; } } with (2147483647, 1), (-2147483648, -1), (2, 3)
abbrev pub Sums : Type 0
Sums =
    source_trace
    (record {
      classes = (one_class [] 1 ∷ []);
      methods =
          (method 0 2 ((types.Class 0) ∷ types.Int ∷ types.Int ∷ []) (Some types.Int)
          (block ((ReturnValue (Binary operators.Add (Slot 1) (Slot 2))) ∷ []))
          ∷ method 0 0 ((types.Class 0) ∷ []) None (block [])
          ∷ []);
    })
    (program (0 ∷ []) ((making 0 0 [] ∷ []) ∷ (calling 0 0 ((int 2147483647) ∷ (int 1) ∷ []) ∷
    calling 0 0 ((minus 2147483648) ∷ (minus 1) ∷ []) ∷ calling 0 0 ((int 2) ∷ (int 3) ∷ []) ∷ []) ∷ []))
    (replicate 9 0 ++ replicate 99 1)
    ≡
    (line 0 (actions.Call 1) done
    ∷ line 0 (New 0) (gives (at 1))
    ∷ line 0 (Enter 1) done
    ∷ line 0 (WriteName 0 (at 1)) done
    ∷ line 0 (Return 1 None) done
    ∷ line 1 (actions.Call 1) done
    ∷ line 1 (ReadName 0) (gives (at 1))
    ∷ line 1 (Enter 0) done
    ∷ line 1 (Return 1 (Some (minus 2147483648))) done
    ∷ line 1 (actions.Call 2) done
    ∷ line 1 (ReadName 0) (gives (at 1))
    ∷ line 1 (Enter 0) done
    ∷ line 1 (Return 2 (Some (int 2147483647))) done
    ∷ line 1 (actions.Call 3) done
    ∷ line 1 (ReadName 0) (gives (at 1))
    ∷ line 1 (Enter 0) done
    ∷ line 1 (Return 3 (Some (int 5))) done
    ∷ [])

-- class C { int f(int a, int b) { return a - b; } } with (-2147483648, 1), (2, 3)
abbrev pub Differences : Type 0
Differences =
    source_trace
    (record {
      classes = (one_class [] 1 ∷ []);
      methods =
          (method 0 2 ((types.Class 0) ∷ types.Int ∷ types.Int ∷ []) (Some types.Int)
          (block ((ReturnValue (Binary operators.Subtract (Slot 1) (Slot 2))) ∷ []))
          ∷ method 0 0 ((types.Class 0) ∷ []) None (block [])
          ∷ []);
    })
    (program (0 ∷ []) ((making 0 0 [] ∷ []) ∷ (calling 0 0 ((minus 2147483648) ∷ (int 1) ∷ []) ∷
    calling 0 0 ((int 2) ∷ (int 3) ∷ []) ∷ []) ∷ []))
    (replicate 9 0 ++ replicate 99 1)
    ≡
    (line 0 (actions.Call 1) done
    ∷ line 0 (New 0) (gives (at 1))
    ∷ line 0 (Enter 1) done
    ∷ line 0 (WriteName 0 (at 1)) done
    ∷ line 0 (Return 1 None) done
    ∷ line 1 (actions.Call 1) done
    ∷ line 1 (ReadName 0) (gives (at 1))
    ∷ line 1 (Enter 0) done
    ∷ line 1 (Return 1 (Some (int 2147483647))) done
    ∷ line 1 (actions.Call 2) done
    ∷ line 1 (ReadName 0) (gives (at 1))
    ∷ line 1 (Enter 0) done
    ∷ line 1 (Return 2 (Some (minus 1))) done
    ∷ [])

-- class C { int f(int a, int b) { return a * b; } } with (65536, 65536), (-2147483648, -1), (46341, 46341)
abbrev pub Products : Type 0
Products =
    source_trace
    (record {
      classes = (one_class [] 1 ∷ []);
      methods =
          (method 0 2 ((types.Class 0) ∷ types.Int ∷ types.Int ∷ []) (Some types.Int)
          (block ((ReturnValue (Binary operators.Multiply (Slot 1) (Slot 2))) ∷ []))
          ∷ method 0 0 ((types.Class 0) ∷ []) None (block [])
          ∷ []);
    })
    (program (0 ∷ []) ((making 0 0 [] ∷ []) ∷ (calling 0 0 ((int 65536) ∷ (int 65536) ∷ []) ∷
    calling 0 0 ((minus 2147483648) ∷ (minus 1) ∷ []) ∷ calling 0 0 ((int 46341) ∷ (int 46341) ∷ []) ∷ []) ∷ []))
    (replicate 9 0 ++ replicate 99 1)
    ≡
    (line 0 (actions.Call 1) done
    ∷ line 0 (New 0) (gives (at 1))
    ∷ line 0 (Enter 1) done
    ∷ line 0 (WriteName 0 (at 1)) done
    ∷ line 0 (Return 1 None) done
    ∷ line 1 (actions.Call 1) done
    ∷ line 1 (ReadName 0) (gives (at 1))
    ∷ line 1 (Enter 0) done
    ∷ line 1 (Return 1 (Some (int 0))) done
    ∷ line 1 (actions.Call 2) done
    ∷ line 1 (ReadName 0) (gives (at 1))
    ∷ line 1 (Enter 0) done
    ∷ line 1 (Return 2 (Some (minus 2147483648))) done
    ∷ line 1 (actions.Call 3) done
    ∷ line 1 (ReadName 0) (gives (at 1))
    ∷ line 1 (Enter 0) done
    ∷ line 1 (Return 3 (Some (minus 2147479015))) done
    ∷ [])

-- f(1, 0)
abbrev pub QuotientByZero : Type 0
QuotientByZero =
    source_trace
    (record {
      classes = (one_class [] 1 ∷ []);
      methods =
          (method 0 2 ((types.Class 0) ∷ types.Int ∷ types.Int ∷ []) (Some types.Int)
          (block ((ReturnValue (Binary operators.Divide (Slot 1) (Slot 2))) ∷ []))
          ∷ method 0 0 ((types.Class 0) ∷ []) None (block [])
          ∷ []);
    })
    (program (0 ∷ []) ((making 0 0 [] ∷ []) ∷ (calling 0 0 ((int 1) ∷ (int 0) ∷ []) ∷ []) ∷ []))
    (replicate 9 0 ++ replicate 99 1)
    ≡
    (line 0 (actions.Call 1) done
    ∷ line 0 (New 0) (gives (at 1))
    ∷ line 0 (Enter 1) done
    ∷ line 0 (WriteName 0 (at 1)) done
    ∷ line 0 (Return 1 None) done
    ∷ line 1 (actions.Call 1) done
    ∷ line 1 (ReadName 0) (gives (at 1))
    ∷ line 1 (Enter 0) done
    ∷ line 1 (Trap 1 kinds.Arithmetic) done
    ∷ [])

-- f(1, 0)
abbrev pub RemainderByZero : Type 0
RemainderByZero =
    source_trace
    (record {
      classes = (one_class [] 1 ∷ []);
      methods =
          (method 0 2 ((types.Class 0) ∷ types.Int ∷ types.Int ∷ []) (Some types.Int)
          (block ((ReturnValue (Binary operators.Remainder (Slot 1) (Slot 2))) ∷ []))
          ∷ method 0 0 ((types.Class 0) ∷ []) None (block [])
          ∷ []);
    })
    (program (0 ∷ []) ((making 0 0 [] ∷ []) ∷ (calling 0 0 ((int 1) ∷ (int 0) ∷ []) ∷ []) ∷ []))
    (replicate 9 0 ++ replicate 99 1)
    ≡
    (line 0 (actions.Call 1) done
    ∷ line 0 (New 0) (gives (at 1))
    ∷ line 0 (Enter 1) done
    ∷ line 0 (WriteName 0 (at 1)) done
    ∷ line 0 (Return 1 None) done
    ∷ line 1 (actions.Call 1) done
    ∷ line 1 (ReadName 0) (gives (at 1))
    ∷ line 1 (Enter 0) done
    ∷ line 1 (Trap 1 kinds.Arithmetic) done
    ∷ [])

-- int f() { return -Integer.MIN_VALUE; }
abbrev pub OppositeOfTheLeastInt : Type 0
OppositeOfTheLeastInt =
    source_trace
    (record {
      classes = (one_class [] 1 ∷ []);
      methods =
          (method 0 0 ((types.Class 0) ∷ []) (Some types.Int)
          (block ((ReturnValue (Negate (Literal (minus 2147483648)))) ∷ []))
          ∷ method 0 0 ((types.Class 0) ∷ []) None (block [])
          ∷ []);
    })
    (program (0 ∷ []) ((making 0 0 [] ∷ []) ∷ (calling 0 0 [] ∷ []) ∷ []))
    (replicate 9 0 ++ replicate 99 1)
    ≡
    (line 0 (actions.Call 1) done
    ∷ line 0 (New 0) (gives (at 1))
    ∷ line 0 (Enter 1) done
    ∷ line 0 (WriteName 0 (at 1)) done
    ∷ line 0 (Return 1 None) done
    ∷ line 1 (actions.Call 1) done
    ∷ line 1 (ReadName 0) (gives (at 1))
    ∷ line 1 (Enter 0) done
    ∷ line 1 (Return 1 (Some (minus 2147483648))) done
    ∷ [])
