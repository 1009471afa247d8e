-- How statements complete (JLS 14). Each text is above its checked file. Then come its thread program, schedule and
-- trace.
use Rattle.std.specs.Prelude.{◌≡◌, [], ◌∷◌, ◌++◌, replicate, None, Some}
use Rattle.ls_events.specs.declared.value.ValueType.TheVariants as types
use Rattle.ls_events.specs.declared.kind.Kind.TheVariants as kinds
use Rattle.ls_events.specs.declared.action.Action.TheVariants.{ReadField, WriteField, ReadItem, WriteItem, ReadName}
use Rattle.ls_events.specs.declared.action.Action.TheVariants.{WriteName, New, NewLock, NewMarkable, NewArray, Lock}
use Rattle.ls_events.specs.declared.action.Action.TheVariants.{Unlock, TryLock, IsHeld, ReadPair, SetPair, SwapPair}
use Rattle.ls_events.specs.declared.action.Action.TheVariants.{AttemptMark, Turn, Enter, Return, Trap}
use Rattle.ls_events.specs.declared.action.Action.TheVariants as actions
use Rattle.ls_checked.specs.declared.tree.Operator.TheVariants as operators
use Rattle.ls_checked.specs.CheckedTree.{Literal, Slot, Field, Negate, Binary, MakeArray, SetSlot, SetField, If, While}
use Rattle.ls_checked.specs.CheckedTree.{Break, Continue, ReturnNothing, ReturnValue, Try}
use Rattle.ls_meaning.specs.Runs.{source_trace}
use Rattle.ls_meaning_rows.specs.Made.{int, yes, null, at, block, one_class, method, making, calling, program, line}
use Rattle.ls_meaning_rows.specs.Made.{done, gives}

-- int f() { int x = 1; try { } finally { x = 2; } return x; }
abbrev pub LocalsSetInFinally : Type 0
LocalsSetInFinally =
    source_trace
    (record {
      classes = (one_class (types.Int ∷ []) 1 ∷ []);
      methods =
          (method 0 0 ((types.Class 0) ∷ types.Int ∷ []) (Some types.Int)
          (block ((block ((SetSlot 1 (Literal (int 0))) ∷ (SetSlot 1 (Literal (int 1))) ∷ [])) ∷
          (Try (block []) (block ((SetSlot 1 (Literal (int 2))) ∷ []))) ∷ (ReturnValue (Slot 1)) ∷ []))
          ∷ method 0 0 ((types.Class 0) ∷ []) None (block [])
          ∷ []);
    })
    (program (0 ∷ []) ((making 0 0 [] ∷ []) ∷ (calling 0 0 [] ∷ []) ∷ []))
    (replicate 9 0 ++ replicate 99 1)
    ≡
    (line 0 (actions.Call 1) done
    ∷ line 0 (New 0) (gives (at 1))
    ∷ line 0 (Enter 1) done
    ∷ line 0 (WriteName 0 (at 1)) done
    ∷ line 0 (Return 1 None) done
    ∷ line 1 (actions.Call 1) done
    ∷ line 1 (ReadName 0) (gives (at 1))
    ∷ line 1 (Enter 0) done
    ∷ line 1 (Return 1 (Some (int 2))) done
    ∷ [])

-- int f() { int i = 0; int s = 0; while (i < 3) { int x; x = x + 1; s = s + x; i = i + 1; } return s; }
abbrev pub LocalResetAtEachDeclaration : Type 0
LocalResetAtEachDeclaration =
    source_trace
    (record {
      classes = (one_class (types.Int ∷ []) 1 ∷ []);
      methods =
          (method 0 0 ((types.Class 0) ∷ types.Int ∷ types.Int ∷ types.Int ∷ []) (Some types.Int)
          (block ((block ((SetSlot 1 (Literal (int 0))) ∷ (SetSlot 1 (Literal (int 0))) ∷ [])) ∷
          (block ((SetSlot 2 (Literal (int 0))) ∷ (SetSlot 2 (Literal (int 0))) ∷ [])) ∷
          (While (Binary operators.Less (Slot 1) (Literal (int 3)))
          (block ((block ((SetSlot 3 (Literal (int 0))) ∷ [])) ∷
          (SetSlot 3 (Binary operators.Add (Slot 3) (Literal (int 1)))) ∷
          (SetSlot 2 (Binary operators.Add (Slot 2) (Slot 3))) ∷
          (SetSlot 1 (Binary operators.Add (Slot 1) (Literal (int 1)))) ∷ []))) ∷ (ReturnValue (Slot 2)) ∷ []))
          ∷ method 0 0 ((types.Class 0) ∷ []) None (block [])
          ∷ []);
    })
    (program (0 ∷ []) ((making 0 0 [] ∷ []) ∷ (calling 0 0 [] ∷ []) ∷ []))
    (replicate 9 0 ++ replicate 99 1)
    ≡
    (line 0 (actions.Call 1) done
    ∷ line 0 (New 0) (gives (at 1))
    ∷ line 0 (Enter 1) done
    ∷ line 0 (WriteName 0 (at 1)) done
    ∷ line 0 (Return 1 None) done
    ∷ line 1 (actions.Call 1) done
    ∷ line 1 (ReadName 0) (gives (at 1))
    ∷ line 1 (Enter 0) done
    ∷ line 1 Turn done
    ∷ line 1 Turn done
    ∷ line 1 Turn done
    ∷ line 1 (Return 1 (Some (int 3))) done
    ∷ [])

-- int f() { try { return 1; } finally { return 2; } }
abbrev pub ReturnOverReturn : Type 0
ReturnOverReturn =
    source_trace
    (record {
      classes = (one_class (types.Int ∷ []) 1 ∷ []);
      methods =
          (method 0 0 ((types.Class 0) ∷ []) (Some types.Int)
          (block ((Try (block ((ReturnValue (Literal (int 1))) ∷ []))
          (block ((ReturnValue (Literal (int 2))) ∷ []))) ∷ []))
          ∷ method 0 0 ((types.Class 0) ∷ []) None (block [])
          ∷ []);
    })
    (program (0 ∷ []) ((making 0 0 [] ∷ []) ∷ (calling 0 0 [] ∷ []) ∷ []))
    (replicate 9 0 ++ replicate 99 1)
    ≡
    (line 0 (actions.Call 1) done
    ∷ line 0 (New 0) (gives (at 1))
    ∷ line 0 (Enter 1) done
    ∷ line 0 (WriteName 0 (at 1)) done
    ∷ line 0 (Return 1 None) done
    ∷ line 1 (actions.Call 1) done
    ∷ line 1 (ReadName 0) (gives (at 1))
    ∷ line 1 (Enter 0) done
    ∷ line 1 (Return 1 (Some (int 2))) done
    ∷ [])

-- int f() { while (true) { try { break; } finally { return 3; } } return 4; }
abbrev pub ReturnOverBreak : Type 0
ReturnOverBreak =
    source_trace
    (record {
      classes = (one_class (types.Int ∷ []) 1 ∷ []);
      methods =
          (method 0 0 ((types.Class 0) ∷ []) (Some types.Int)
          (block ((While (Literal yes)
          (block ((Try (block ((Break 0) ∷ [])) (block ((ReturnValue (Literal (int 3))) ∷ []))) ∷ []))) ∷
          (ReturnValue (Literal (int 4))) ∷ []))
          ∷ method 0 0 ((types.Class 0) ∷ []) None (block [])
          ∷ []);
    })
    (program (0 ∷ []) ((making 0 0 [] ∷ []) ∷ (calling 0 0 [] ∷ []) ∷ []))
    (replicate 9 0 ++ replicate 99 1)
    ≡
    (line 0 (actions.Call 1) done
    ∷ line 0 (New 0) (gives (at 1))
    ∷ line 0 (Enter 1) done
    ∷ line 0 (WriteName 0 (at 1)) done
    ∷ line 0 (Return 1 None) done
    ∷ line 1 (actions.Call 1) done
    ∷ line 1 (ReadName 0) (gives (at 1))
    ∷ line 1 (Enter 0) done
    ∷ line 1 (Return 1 (Some (int 3))) done
    ∷ [])

-- int f() { while (true) { try { return 1; } finally { break; } } return 5; }
abbrev pub BreakOverReturn : Type 0
BreakOverReturn =
    source_trace
    (record {
      classes = (one_class (types.Int ∷ []) 1 ∷ []);
      methods =
          (method 0 0 ((types.Class 0) ∷ []) (Some types.Int)
          (block ((While (Literal yes)
          (block ((Try (block ((ReturnValue (Literal (int 1))) ∷ [])) (block ((Break 0) ∷ []))) ∷ []))) ∷
          (ReturnValue (Literal (int 5))) ∷ []))
          ∷ method 0 0 ((types.Class 0) ∷ []) None (block [])
          ∷ []);
    })
    (program (0 ∷ []) ((making 0 0 [] ∷ []) ∷ (calling 0 0 [] ∷ []) ∷ []))
    (replicate 9 0 ++ replicate 99 1)
    ≡
    (line 0 (actions.Call 1) done
    ∷ line 0 (New 0) (gives (at 1))
    ∷ line 0 (Enter 1) done
    ∷ line 0 (WriteName 0 (at 1)) done
    ∷ line 0 (Return 1 None) done
    ∷ line 1 (actions.Call 1) done
    ∷ line 1 (ReadName 0) (gives (at 1))
    ∷ line 1 (Enter 0) done
    ∷ line 1 (Return 1 (Some (int 5))) done
    ∷ [])

-- int f() { try { return 1; } finally { v = 1 / 0; } }
abbrev pub ThrowOverReturn : Type 0
ThrowOverReturn =
    source_trace
    (record {
      classes = (one_class (types.Int ∷ []) 1 ∷ []);
      methods =
          (method 0 0 ((types.Class 0) ∷ []) (Some types.Int)
          (block ((Try (block ((ReturnValue (Literal (int 1))) ∷ []))
          (block ((SetField (Slot 0) 0 (Binary operators.Divide (Literal (int 1)) (Literal (int 0)))) ∷ []))) ∷ []))
          ∷ method 0 0 ((types.Class 0) ∷ []) None (block [])
          ∷ []);
    })
    (program (0 ∷ []) ((making 0 0 [] ∷ []) ∷ (calling 0 0 [] ∷ []) ∷ []))
    (replicate 9 0 ++ replicate 99 1)
    ≡
    (line 0 (actions.Call 1) done
    ∷ line 0 (New 0) (gives (at 1))
    ∷ line 0 (Enter 1) done
    ∷ line 0 (WriteName 0 (at 1)) done
    ∷ line 0 (Return 1 None) done
    ∷ line 1 (actions.Call 1) done
    ∷ line 1 (ReadName 0) (gives (at 1))
    ∷ line 1 (Enter 0) done
    ∷ line 1 (Trap 1 kinds.Arithmetic) done
    ∷ [])

-- void f() { try { new boolean[-1]; } finally { v = 1 / 0; } }, its making as a local
abbrev pub ThrowOverThrow : Type 0
ThrowOverThrow =
    source_trace
    (record {
      classes = (one_class (types.Int ∷ []) 1 ∷ []);
      methods =
          (method 0 0 ((types.Class 0) ∷ types.BooleanArray ∷ []) None
          (block ((Try
          (block ((block ((SetSlot 1 (Literal null)) ∷ (SetSlot 1 (MakeArray (Negate (Literal (int 1))))) ∷ [])) ∷
          [])) (block ((SetField (Slot 0) 0 (Binary operators.Divide (Literal (int 1)) (Literal (int 0)))) ∷ []))) ∷
          []))
          ∷ method 0 0 ((types.Class 0) ∷ []) None (block [])
          ∷ []);
    })
    (program (0 ∷ []) ((making 0 0 [] ∷ []) ∷ (calling 0 0 [] ∷ []) ∷ []))
    (replicate 9 0 ++ replicate 99 1)
    ≡
    (line 0 (actions.Call 1) done
    ∷ line 0 (New 0) (gives (at 1))
    ∷ line 0 (Enter 1) done
    ∷ line 0 (WriteName 0 (at 1)) done
    ∷ line 0 (Return 1 None) done
    ∷ line 1 (actions.Call 1) done
    ∷ line 1 (ReadName 0) (gives (at 1))
    ∷ line 1 (Enter 0) done
    ∷ line 1 (Trap 1 kinds.Arithmetic) done
    ∷ [])

-- int f() { int i = 0; while (i < 2) { i = i + 1; try { continue; } finally { v = v + i; } } return v; }
abbrev pub ContinueOutOfATry : Type 0
ContinueOutOfATry =
    source_trace
    (record {
      classes = (one_class (types.Int ∷ []) 1 ∷ []);
      methods =
          (method 0 0 ((types.Class 0) ∷ types.Int ∷ []) (Some types.Int)
          (block ((block ((SetSlot 1 (Literal (int 0))) ∷ (SetSlot 1 (Literal (int 0))) ∷ [])) ∷
          (While (Binary operators.Less (Slot 1) (Literal (int 2)))
          (block ((SetSlot 1 (Binary operators.Add (Slot 1) (Literal (int 1)))) ∷
          (Try (block ((Continue 0) ∷ []))
          (block ((SetField (Slot 0) 0 (Binary operators.Add (Field (Slot 0) 0 0) (Slot 1))) ∷ []))) ∷ []))) ∷
          (ReturnValue (Field (Slot 0) 0 0)) ∷ []))
          ∷ method 0 0 ((types.Class 0) ∷ []) None (block [])
          ∷ []);
    })
    (program (0 ∷ []) ((making 0 0 [] ∷ []) ∷ (calling 0 0 [] ∷ []) ∷ []))
    (replicate 9 0 ++ replicate 99 1)
    ≡
    (line 0 (actions.Call 1) done
    ∷ line 0 (New 0) (gives (at 1))
    ∷ line 0 (Enter 1) done
    ∷ line 0 (WriteName 0 (at 1)) done
    ∷ line 0 (Return 1 None) done
    ∷ line 1 (actions.Call 1) done
    ∷ line 1 (ReadName 0) (gives (at 1))
    ∷ line 1 (Enter 0) done
    ∷ line 1 (ReadField 1 0) (gives (int 0))
    ∷ line 1 (WriteField 1 0 (int 1)) done
    ∷ line 1 Turn done
    ∷ line 1 (ReadField 1 0) (gives (int 1))
    ∷ line 1 (WriteField 1 0 (int 3)) done
    ∷ line 1 Turn done
    ∷ line 1 (ReadField 1 0) (gives (int 3))
    ∷ line 1 (Return 1 (Some (int 3))) done
    ∷ [])

-- int f() { o: while (true) { while (true) { v = v + 1; if (v == 2) break o; continue o; } } return v; }
abbrev pub OuterLoops : Type 0
OuterLoops =
    source_trace
    (record {
      classes = (one_class (types.Int ∷ []) 1 ∷ []);
      methods =
          (method 0 0 ((types.Class 0) ∷ []) (Some types.Int)
          (block ((While (Literal yes)
          (block ((While (Literal yes)
          (block ((SetField (Slot 0) 0 (Binary operators.Add (Field (Slot 0) 0 0) (Literal (int 1)))) ∷
          (If (Binary operators.Equal (Field (Slot 0) 0 0) (Literal (int 2))) (Break 1) (block [])) ∷ (Continue 1) ∷
          []))) ∷ []))) ∷ (ReturnValue (Field (Slot 0) 0 0)) ∷ []))
          ∷ method 0 0 ((types.Class 0) ∷ []) None (block [])
          ∷ []);
    })
    (program (0 ∷ []) ((making 0 0 [] ∷ []) ∷ (calling 0 0 [] ∷ []) ∷ []))
    (replicate 9 0 ++ replicate 99 1)
    ≡
    (line 0 (actions.Call 1) done
    ∷ line 0 (New 0) (gives (at 1))
    ∷ line 0 (Enter 1) done
    ∷ line 0 (WriteName 0 (at 1)) done
    ∷ line 0 (Return 1 None) done
    ∷ line 1 (actions.Call 1) done
    ∷ line 1 (ReadName 0) (gives (at 1))
    ∷ line 1 (Enter 0) done
    ∷ line 1 (ReadField 1 0) (gives (int 0))
    ∷ line 1 (WriteField 1 0 (int 1)) done
    ∷ line 1 (ReadField 1 0) (gives (int 1))
    ∷ line 1 Turn done
    ∷ line 1 (ReadField 1 0) (gives (int 1))
    ∷ line 1 (WriteField 1 0 (int 2)) done
    ∷ line 1 (ReadField 1 0) (gives (int 2))
    ∷ line 1 (ReadField 1 0) (gives (int 2))
    ∷ line 1 (Return 1 (Some (int 2))) done
    ∷ [])

-- int f() { try { try { return v; } finally { v = v * 10 + 1; } } finally { v = v * 10 + 2; } }, then f again
abbrev pub NestedFinallyBlocksInOrder : Type 0
NestedFinallyBlocksInOrder =
    source_trace
    (record {
      classes = (one_class (types.Int ∷ []) 1 ∷ []);
      methods =
          (method 0 0 ((types.Class 0) ∷ []) (Some types.Int)
          (block ((Try
          (block ((Try (block ((ReturnValue (Field (Slot 0) 0 0)) ∷ []))
          (block ((SetField (Slot 0) 0 (Binary operators.Add
          (Binary operators.Multiply (Field (Slot 0) 0 0) (Literal (int 10))) (Literal (int 1)))) ∷ []))) ∷ []))
          (block ((SetField (Slot 0) 0 (Binary operators.Add
          (Binary operators.Multiply (Field (Slot 0) 0 0) (Literal (int 10))) (Literal (int 2)))) ∷ []))) ∷ []))
          ∷ method 0 0 ((types.Class 0) ∷ []) None (block [])
          ∷ []);
    })
    (program (0 ∷ []) ((making 0 0 [] ∷ []) ∷ (calling 0 0 [] ∷ calling 0 0 [] ∷ []) ∷ []))
    (replicate 9 0 ++ replicate 99 1)
    ≡
    (line 0 (actions.Call 1) done
    ∷ line 0 (New 0) (gives (at 1))
    ∷ line 0 (Enter 1) done
    ∷ line 0 (WriteName 0 (at 1)) done
    ∷ line 0 (Return 1 None) done
    ∷ line 1 (actions.Call 1) done
    ∷ line 1 (ReadName 0) (gives (at 1))
    ∷ line 1 (Enter 0) done
    ∷ line 1 (ReadField 1 0) (gives (int 0))
    ∷ line 1 (ReadField 1 0) (gives (int 0))
    ∷ line 1 (WriteField 1 0 (int 1)) done
    ∷ line 1 (ReadField 1 0) (gives (int 1))
    ∷ line 1 (WriteField 1 0 (int 12)) done
    ∷ line 1 (Return 1 (Some (int 0))) done
    ∷ line 1 (actions.Call 2) done
    ∷ line 1 (ReadName 0) (gives (at 1))
    ∷ line 1 (Enter 0) done
    ∷ line 1 (ReadField 1 0) (gives (int 12))
    ∷ line 1 (ReadField 1 0) (gives (int 12))
    ∷ line 1 (WriteField 1 0 (int 121)) done
    ∷ line 1 (ReadField 1 0) (gives (int 121))
    ∷ line 1 (WriteField 1 0 (int 1212)) done
    ∷ line 1 (Return 2 (Some (int 12))) done
    ∷ [])

-- int f() { v = 1; return v; v = 2; }
abbrev pub ReturnEndsABlock : Type 0
ReturnEndsABlock =
    source_trace
    (record {
      classes = (one_class (types.Int ∷ []) 1 ∷ []);
      methods =
          (method 0 0 ((types.Class 0) ∷ []) (Some types.Int)
          (block ((SetField (Slot 0) 0 (Literal (int 1))) ∷ (ReturnValue (Field (Slot 0) 0 0)) ∷
          (SetField (Slot 0) 0 (Literal (int 2))) ∷ []))
          ∷ method 0 0 ((types.Class 0) ∷ []) None (block [])
          ∷ []);
    })
    (program (0 ∷ []) ((making 0 0 [] ∷ []) ∷ (calling 0 0 [] ∷ []) ∷ []))
    (replicate 9 0 ++ replicate 99 1)
    ≡
    (line 0 (actions.Call 1) done
    ∷ line 0 (New 0) (gives (at 1))
    ∷ line 0 (Enter 1) done
    ∷ line 0 (WriteName 0 (at 1)) done
    ∷ line 0 (Return 1 None) done
    ∷ line 1 (actions.Call 1) done
    ∷ line 1 (ReadName 0) (gives (at 1))
    ∷ line 1 (Enter 0) done
    ∷ line 1 (WriteField 1 0 (int 1)) done
    ∷ line 1 (ReadField 1 0) (gives (int 1))
    ∷ line 1 (Return 1 (Some (int 1))) done
    ∷ [])

-- void f() { if (v == 0) return; v = 2; }
abbrev pub ReturnWithoutAValue : Type 0
ReturnWithoutAValue =
    source_trace
    (record {
      classes = (one_class (types.Int ∷ []) 1 ∷ []);
      methods =
          (method 0 0 ((types.Class 0) ∷ []) None
          (block ((If (Binary operators.Equal (Field (Slot 0) 0 0) (Literal (int 0))) ReturnNothing (block [])) ∷
          (SetField (Slot 0) 0 (Literal (int 2))) ∷ []))
          ∷ method 0 0 ((types.Class 0) ∷ []) None (block [])
          ∷ []);
    })
    (program (0 ∷ []) ((making 0 0 [] ∷ []) ∷ (calling 0 0 [] ∷ []) ∷ []))
    (replicate 9 0 ++ replicate 99 1)
    ≡
    (line 0 (actions.Call 1) done
    ∷ line 0 (New 0) (gives (at 1))
    ∷ line 0 (Enter 1) done
    ∷ line 0 (WriteName 0 (at 1)) done
    ∷ line 0 (Return 1 None) done
    ∷ line 1 (actions.Call 1) done
    ∷ line 1 (ReadName 0) (gives (at 1))
    ∷ line 1 (Enter 0) done
    ∷ line 1 (ReadField 1 0) (gives (int 0))
    ∷ line 1 (Return 1 None) done
    ∷ [])

-- int f() { if (v == 1) return 1; else return 2; }
abbrev pub ElseBranch : Type 0
ElseBranch =
    source_trace
    (record {
      classes = (one_class (types.Int ∷ []) 1 ∷ []);
      methods =
          (method 0 0 ((types.Class 0) ∷ []) (Some types.Int)
          (block ((If (Binary operators.Equal (Field (Slot 0) 0 0) (Literal (int 1)))
          (ReturnValue (Literal (int 1))) (ReturnValue (Literal (int 2)))) ∷ []))
          ∷ method 0 0 ((types.Class 0) ∷ []) None (block [])
          ∷ []);
    })
    (program (0 ∷ []) ((making 0 0 [] ∷ []) ∷ (calling 0 0 [] ∷ []) ∷ []))
    (replicate 9 0 ++ replicate 99 1)
    ≡
    (line 0 (actions.Call 1) done
    ∷ line 0 (New 0) (gives (at 1))
    ∷ line 0 (Enter 1) done
    ∷ line 0 (WriteName 0 (at 1)) done
    ∷ line 0 (Return 1 None) done
    ∷ line 1 (actions.Call 1) done
    ∷ line 1 (ReadName 0) (gives (at 1))
    ∷ line 1 (Enter 0) done
    ∷ line 1 (ReadField 1 0) (gives (int 0))
    ∷ line 1 (Return 1 (Some (int 2))) done
    ∷ [])
