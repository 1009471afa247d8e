-- Zero as a factor, and the start values of fields (JLS 15.17.1, 4.12.5). Each text is above its checked file. Then
-- come its thread program, schedule and trace.
use Rattle.std.specs.Prelude.{◌≡◌, [], ◌∷◌, ◌++◌, replicate, None, Some}
use Rattle.ls_events.specs.declared.value.ValueType.TheVariants as types
use Rattle.ls_events.specs.declared.action.Action.TheVariants.{ReadField, ReadName, WriteName, New, Enter, Return}
use Rattle.ls_events.specs.declared.action.Action.TheVariants as actions
use Rattle.ls_checked.specs.declared.tree.Operator.TheVariants as operators
use Rattle.ls_checked.specs.CheckedTree.{Slot, Field, Binary, ReturnValue}
use Rattle.ls_meaning.specs.Runs.{source_trace}
use Rattle.ls_meaning_rows.specs.Made.{int, minus, no, null, at, block, one_class, method, making, calling, program}
use Rattle.ls_meaning_rows.specs.Made.{line, done, gives}

-- class C { int f(int a, int b) { return a * b; } } with (0, 5), (-5, 0), (0, 0), (-2147483648, 0), (-3, 7), (-3, -7)
abbrev pub ProductsOfZero : Type 0
ProductsOfZero =
    source_trace
    (record {
      classes = (one_class [] 1 ∷ []);
      methods =
          (method 0 2 ((types.Class 0) ∷ types.Int ∷ types.Int ∷ []) (Some types.Int)
          (block ((ReturnValue (Binary operators.Multiply (Slot 1) (Slot 2))) ∷ []))
          ∷ method 0 0 ((types.Class 0) ∷ []) None (block [])
          ∷ []);
    })
    (program (0 ∷ []) ((making 0 0 [] ∷ []) ∷ (calling 0 0 ((int 0) ∷ (int 5) ∷ []) ∷
    calling 0 0 ((minus 5) ∷ (int 0) ∷ []) ∷ calling 0 0 ((int 0) ∷ (int 0) ∷ []) ∷
    calling 0 0 ((minus 2147483648) ∷ (int 0) ∷ []) ∷ calling 0 0 ((minus 3) ∷ (int 7) ∷ []) ∷
    calling 0 0 ((minus 3) ∷ (minus 7) ∷ []) ∷ []) ∷ []))
    (replicate 9 0 ++ replicate 99 1)
    ≡
    (line 0 (actions.Call 1) done
    ∷ line 0 (New 0) (gives (at 1))
    ∷ line 0 (Enter 1) done
    ∷ line 0 (WriteName 0 (at 1)) done
    ∷ line 0 (Return 1 None) done
    ∷ line 1 (actions.Call 1) done
    ∷ line 1 (ReadName 0) (gives (at 1))
    ∷ line 1 (Enter 0) done
    ∷ line 1 (Return 1 (Some (int 0))) done
    ∷ line 1 (actions.Call 2) done
    ∷ line 1 (ReadName 0) (gives (at 1))
    ∷ line 1 (Enter 0) done
    ∷ line 1 (Return 2 (Some (int 0))) done
    ∷ line 1 (actions.Call 3) done
    ∷ line 1 (ReadName 0) (gives (at 1))
    ∷ line 1 (Enter 0) done
    ∷ line 1 (Return 3 (Some (int 0))) done
    ∷ line 1 (actions.Call 4) done
    ∷ line 1 (ReadName 0) (gives (at 1))
    ∷ line 1 (Enter 0) done
    ∷ line 1 (Return 4 (Some (int 0))) done
    ∷ line 1 (actions.Call 5) done
    ∷ line 1 (ReadName 0) (gives (at 1))
    ∷ line 1 (Enter 0) done
    ∷ line 1 (Return 5 (Some (minus 21))) done
    ∷ line 1 (actions.Call 6) done
    ∷ line 1 (ReadName 0) (gives (at 1))
    ∷ line 1 (Enter 0) done
    ∷ line 1 (Return 6 (Some (int 21))) done
    ∷ [])

-- class C { int n; boolean b; C c; int f() { return n; } boolean g() { return b; } C h() { return c; } }
abbrev pub FieldsStart : Type 0
FieldsStart =
    source_trace
    (record {
      classes = (one_class (types.Int ∷ types.Boolean ∷ (types.Class 0) ∷ []) 3 ∷ []);
      methods =
          (method 0 0 ((types.Class 0) ∷ []) (Some types.Int) (block ((ReturnValue (Field (Slot 0) 0 0)) ∷ []))
          ∷ method 0 0 ((types.Class 0) ∷ []) (Some types.Boolean) (block ((ReturnValue (Field (Slot 0) 0 1)) ∷ []))
          ∷ method 0 0 ((types.Class 0) ∷ []) (Some (types.Class 0)) (block ((ReturnValue (Field (Slot 0) 0 2)) ∷ []))
          ∷ method 0 0 ((types.Class 0) ∷ []) None (block [])
          ∷ []);
    })
    (program (0 ∷ []) ((making 0 0 [] ∷ []) ∷ (calling 0 0 [] ∷ calling 0 1 [] ∷ calling 0 2 [] ∷ []) ∷ []))
    (replicate 9 0 ++ replicate 99 1)
    ≡
    (line 0 (actions.Call 1) done
    ∷ line 0 (New 0) (gives (at 1))
    ∷ line 0 (Enter 3) done
    ∷ line 0 (WriteName 0 (at 1)) done
    ∷ line 0 (Return 1 None) done
    ∷ line 1 (actions.Call 1) done
    ∷ line 1 (ReadName 0) (gives (at 1))
    ∷ line 1 (Enter 0) done
    ∷ line 1 (ReadField 1 0) (gives (int 0))
    ∷ line 1 (Return 1 (Some (int 0))) done
    ∷ line 1 (actions.Call 2) done
    ∷ line 1 (ReadName 0) (gives (at 1))
    ∷ line 1 (Enter 1) done
    ∷ line 1 (ReadField 1 1) (gives no)
    ∷ line 1 (Return 2 (Some no)) done
    ∷ line 1 (actions.Call 3) done
    ∷ line 1 (ReadName 0) (gives (at 1))
    ∷ line 1 (Enter 2) done
    ∷ line 1 (ReadField 1 2) (gives null)
    ∷ line 1 (Return 3 (Some null)) done
    ∷ [])
