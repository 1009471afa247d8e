-- What leaves a loop's body (JLS 14.2, 14.12.1, 14.15, 14.16). Each text is above its checked file. Then come its
-- thread program, schedule and trace.
use Rattle.std.specs.Prelude.{◌≡◌, [], ◌∷◌, ◌++◌, replicate, None}
use Rattle.ls_events.specs.declared.value.ValueType.TheVariants as types
use Rattle.ls_events.specs.declared.kind.Kind.TheVariants as kinds
use Rattle.ls_events.specs.declared.action.Action.TheVariants.{WriteField, ReadName, WriteName, New, Turn, Enter}
use Rattle.ls_events.specs.declared.action.Action.TheVariants.{Return, Trap}
use Rattle.ls_events.specs.declared.action.Action.TheVariants as actions
use Rattle.ls_checked.specs.declared.tree.Operator.TheVariants as operators
use Rattle.ls_checked.specs.CheckedTree.{Literal, Slot, Binary, SetSlot, SetField, If, While, Break, Continue}
use Rattle.ls_meaning.specs.Runs.{source_trace}
use Rattle.ls_meaning_rows.specs.Made.{int, at, block, one_class, method, making, calling, program, line, done, gives}

-- void f() { int i = 0; while (i < 2) { i = i + 1; v = i; v = 1 / 0; } }
abbrev pub ExceptionOutOfALoop : Type 0
ExceptionOutOfALoop =
    source_trace
    (record {
      classes = (one_class (types.Int ∷ []) 1 ∷ []);
      methods =
          (method 0 0 ((types.Class 0) ∷ types.Int ∷ []) None
          (block ((block ((SetSlot 1 (Literal (int 0))) ∷ (SetSlot 1 (Literal (int 0))) ∷ [])) ∷
          (While (Binary operators.Less (Slot 1) (Literal (int 2)))
          (block ((SetSlot 1 (Binary operators.Add (Slot 1) (Literal (int 1)))) ∷ (SetField (Slot 0) 0 (Slot 1)) ∷
          (SetField (Slot 0) 0 (Binary operators.Divide (Literal (int 1)) (Literal (int 0)))) ∷ []))) ∷ []))
          ∷ method 0 0 ((types.Class 0) ∷ []) None (block [])
          ∷ []);
    })
    (program (0 ∷ []) ((making 0 0 [] ∷ []) ∷ (calling 0 0 [] ∷ []) ∷ []))
    (replicate 9 0 ++ replicate 99 1)
    ≡
    (line 0 (actions.Call 1) done
    ∷ line 0 (New 0) (gives (at 1))
    ∷ line 0 (Enter 1) done
    ∷ line 0 (WriteName 0 (at 1)) done
    ∷ line 0 (Return 1 None) done
    ∷ line 1 (actions.Call 1) done
    ∷ line 1 (ReadName 0) (gives (at 1))
    ∷ line 1 (Enter 0) done
    ∷ line 1 (WriteField 1 0 (int 1)) done
    ∷ line 1 (Trap 1 kinds.Arithmetic) done
    ∷ [])

-- void f() { int i = 0; while (i < 2) { i = i + 1; if (i == 1) continue; v = i; } }
abbrev pub ContinueSkipsTheRest : Type 0
ContinueSkipsTheRest =
    source_trace
    (record {
      classes = (one_class (types.Int ∷ []) 1 ∷ []);
      methods =
          (method 0 0 ((types.Class 0) ∷ types.Int ∷ []) None
          (block ((block ((SetSlot 1 (Literal (int 0))) ∷ (SetSlot 1 (Literal (int 0))) ∷ [])) ∷
          (While (Binary operators.Less (Slot 1) (Literal (int 2)))
          (block ((SetSlot 1 (Binary operators.Add (Slot 1) (Literal (int 1)))) ∷
          (If (Binary operators.Equal (Slot 1) (Literal (int 1))) (Continue 0) (block [])) ∷
          (SetField (Slot 0) 0 (Slot 1)) ∷ []))) ∷ []))
          ∷ method 0 0 ((types.Class 0) ∷ []) None (block [])
          ∷ []);
    })
    (program (0 ∷ []) ((making 0 0 [] ∷ []) ∷ (calling 0 0 [] ∷ []) ∷ []))
    (replicate 9 0 ++ replicate 99 1)
    ≡
    (line 0 (actions.Call 1) done
    ∷ line 0 (New 0) (gives (at 1))
    ∷ line 0 (Enter 1) done
    ∷ line 0 (WriteName 0 (at 1)) done
    ∷ line 0 (Return 1 None) done
    ∷ line 1 (actions.Call 1) done
    ∷ line 1 (ReadName 0) (gives (at 1))
    ∷ line 1 (Enter 0) done
    ∷ line 1 Turn done
    ∷ line 1 (WriteField 1 0 (int 2)) done
    ∷ line 1 Turn done
    ∷ line 1 (Return 1 None) done
    ∷ [])

-- void f() { int i = 0; while (i < 2) { i = i + 1; { if (i == 1) continue; v = i; } v = 7 + i; } }
abbrev pub ContinueOutOfAnInnerBlock : Type 0
ContinueOutOfAnInnerBlock =
    source_trace
    (record {
      classes = (one_class (types.Int ∷ []) 1 ∷ []);
      methods =
          (method 0 0 ((types.Class 0) ∷ types.Int ∷ []) None
          (block ((block ((SetSlot 1 (Literal (int 0))) ∷ (SetSlot 1 (Literal (int 0))) ∷ [])) ∷
          (While (Binary operators.Less (Slot 1) (Literal (int 2)))
          (block ((SetSlot 1 (Binary operators.Add (Slot 1) (Literal (int 1)))) ∷
          (block ((If (Binary operators.Equal (Slot 1) (Literal (int 1))) (Continue 0) (block [])) ∷
          (SetField (Slot 0) 0 (Slot 1)) ∷ [])) ∷ (SetField (Slot 0) 0
          (Binary operators.Add (Literal (int 7)) (Slot 1))) ∷ []))) ∷ []))
          ∷ method 0 0 ((types.Class 0) ∷ []) None (block [])
          ∷ []);
    })
    (program (0 ∷ []) ((making 0 0 [] ∷ []) ∷ (calling 0 0 [] ∷ []) ∷ []))
    (replicate 9 0 ++ replicate 99 1)
    ≡
    (line 0 (actions.Call 1) done
    ∷ line 0 (New 0) (gives (at 1))
    ∷ line 0 (Enter 1) done
    ∷ line 0 (WriteName 0 (at 1)) done
    ∷ line 0 (Return 1 None) done
    ∷ line 1 (actions.Call 1) done
    ∷ line 1 (ReadName 0) (gives (at 1))
    ∷ line 1 (Enter 0) done
    ∷ line 1 Turn done
    ∷ line 1 (WriteField 1 0 (int 2)) done
    ∷ line 1 (WriteField 1 0 (int 9)) done
    ∷ line 1 Turn done
    ∷ line 1 (Return 1 None) done
    ∷ [])

-- void f() { int i = 0; while (i < 2) { i = i + 1; { if (i == 1) break; v = i; } v = 7 + i; } v = 5; }
abbrev pub BreakOutOfAnInnerBlock : Type 0
BreakOutOfAnInnerBlock =
    source_trace
    (record {
      classes = (one_class (types.Int ∷ []) 1 ∷ []);
      methods =
          (method 0 0 ((types.Class 0) ∷ types.Int ∷ []) None
          (block ((block ((SetSlot 1 (Literal (int 0))) ∷ (SetSlot 1 (Literal (int 0))) ∷ [])) ∷
          (While (Binary operators.Less (Slot 1) (Literal (int 2)))
          (block ((SetSlot 1 (Binary operators.Add (Slot 1) (Literal (int 1)))) ∷
          (block ((If (Binary operators.Equal (Slot 1) (Literal (int 1))) (Break 0) (block [])) ∷
          (SetField (Slot 0) 0 (Slot 1)) ∷ [])) ∷ (SetField (Slot 0) 0
          (Binary operators.Add (Literal (int 7)) (Slot 1))) ∷ []))) ∷ (SetField (Slot 0) 0 (Literal (int 5))) ∷
          []))
          ∷ method 0 0 ((types.Class 0) ∷ []) None (block [])
          ∷ []);
    })
    (program (0 ∷ []) ((making 0 0 [] ∷ []) ∷ (calling 0 0 [] ∷ []) ∷ []))
    (replicate 9 0 ++ replicate 99 1)
    ≡
    (line 0 (actions.Call 1) done
    ∷ line 0 (New 0) (gives (at 1))
    ∷ line 0 (Enter 1) done
    ∷ line 0 (WriteName 0 (at 1)) done
    ∷ line 0 (Return 1 None) done
    ∷ line 1 (actions.Call 1) done
    ∷ line 1 (ReadName 0) (gives (at 1))
    ∷ line 1 (Enter 0) done
    ∷ line 1 (WriteField 1 0 (int 5)) done
    ∷ line 1 (Return 1 None) done
    ∷ [])

-- void f() { int i = 0; o: while (i < 2) { i = i + 1; while (i < 3) { v = i; continue o; } v = 7; } }
abbrev pub ContinueOfTheOuterLoop : Type 0
ContinueOfTheOuterLoop =
    source_trace
    (record {
      classes = (one_class (types.Int ∷ []) 1 ∷ []);
      methods =
          (method 0 0 ((types.Class 0) ∷ types.Int ∷ []) None
          (block ((block ((SetSlot 1 (Literal (int 0))) ∷ (SetSlot 1 (Literal (int 0))) ∷ [])) ∷
          (While (Binary operators.Less (Slot 1) (Literal (int 2)))
          (block ((SetSlot 1 (Binary operators.Add (Slot 1) (Literal (int 1)))) ∷
          (While (Binary operators.Less (Slot 1) (Literal (int 3)))
          (block ((SetField (Slot 0) 0 (Slot 1)) ∷ (Continue 1) ∷ []))) ∷ (SetField (Slot 0) 0 (Literal (int 7))) ∷
          []))) ∷ []))
          ∷ method 0 0 ((types.Class 0) ∷ []) None (block [])
          ∷ []);
    })
    (program (0 ∷ []) ((making 0 0 [] ∷ []) ∷ (calling 0 0 [] ∷ []) ∷ []))
    (replicate 9 0 ++ replicate 99 1)
    ≡
    (line 0 (actions.Call 1) done
    ∷ line 0 (New 0) (gives (at 1))
    ∷ line 0 (Enter 1) done
    ∷ line 0 (WriteName 0 (at 1)) done
    ∷ line 0 (Return 1 None) done
    ∷ line 1 (actions.Call 1) done
    ∷ line 1 (ReadName 0) (gives (at 1))
    ∷ line 1 (Enter 0) done
    ∷ line 1 (WriteField 1 0 (int 1)) done
    ∷ line 1 Turn done
    ∷ line 1 (WriteField 1 0 (int 2)) done
    ∷ line 1 Turn done
    ∷ line 1 (Return 1 None) done
    ∷ [])
