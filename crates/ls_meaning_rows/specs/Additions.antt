-- `+=`, `++` and `--` on a field: the object once, the test for null, the read, what is added, the write (JLS 15.14.2,
-- 15.26.2). Each text is above its checked file. Then come its thread program, schedule and trace.
use Rattle.std.specs.Prelude.{◌≡◌, [], ◌∷◌, ◌++◌, replicate, None, Some}
use Rattle.ls_events.specs.declared.value.ValueType.TheVariants as types
use Rattle.ls_events.specs.declared.kind.Kind.TheVariants as kinds
use Rattle.ls_events.specs.declared.action.Action.TheVariants.{ReadField, WriteField, ReadName, WriteName, New, Enter}
use Rattle.ls_events.specs.declared.action.Action.TheVariants.{Return, Trap}
use Rattle.ls_events.specs.declared.action.Action.TheVariants as actions
use Rattle.ls_checked.specs.declared.tree.Called.TheVariants as called
use Rattle.ls_checked.specs.CheckedTree.{File, Literal, Slot, Field, Call, End, Statement, SetField, AddField}
use Rattle.ls_checked.specs.CheckedTree.{ReturnValue}
use Rattle.ls_meaning.specs.Runs.{source_trace}
use Rattle.ls_meaning_rows.specs.Made.{int, minus, null, at, block, one_class, method, making, calling, program, line}
use Rattle.ls_meaning_rows.specs.Made.{done, gives}

-- class C { int v; C n; void f() { .. } int s() { v = 7; return 2; } C t() { n = this; return n; } }
abbrev pub with_body : Statement → File
with_body body = record {
  classes = one_class (types.Int ∷ types.Class 0 ∷ []) 3 ∷ [];
  methods =
      method 0 0 (types.Class 0 ∷ []) None body
      ∷ method 0 0 (types.Class 0 ∷ []) (Some types.Int) (block
      (SetField (Slot 0) 0 (Literal (int 7)) ∷ ReturnValue (Literal (int 2)) ∷ []))
      ∷ method 0 0 (types.Class 0 ∷ []) (Some (types.Class 0))
      (block (SetField (Slot 0) 1 (Slot 0) ∷ ReturnValue (Field (Slot 0) 0 1) ∷ []))
      ∷ method 0 0 (types.Class 0 ∷ []) None (block [])
      ∷ [];
}

-- void f() { n.v += s(); }: null is thrown before s() is entered
abbrev pub NullBeforeValue : Type 0
NullBeforeValue =
    source_trace (with_body (AddField (Field (Slot 0) 0 1) 0 (Call (Slot 0) (called.Method 1) End)))
    (program (0 ∷ []) ((making 0 0 [] ∷ []) ∷ (calling 0 0 [] ∷ []) ∷ []))
    (replicate 9 0 ++ replicate 99 1)
    ≡
    (line 0 (actions.Call 1) done
    ∷ line 0 (New 0) (gives (at 1))
    ∷ line 0 (Enter 3) done
    ∷ line 0 (WriteName 0 (at 1)) done
    ∷ line 0 (Return 1 None) done
    ∷ line 1 (actions.Call 1) done
    ∷ line 1 (ReadName 0) (gives (at 1))
    ∷ line 1 (Enter 0) done
    ∷ line 1 (ReadField 1 1) (gives null)
    ∷ line 1 (Trap 1 kinds.NullPointer) done
    ∷ [])

-- void f() { t().v += s(); }: t() is entered once; v is read before s() writes v, and the sum is of what was read
abbrev pub ReadBeforeValue : Type 0
ReadBeforeValue =
    source_trace (with_body (AddField (Call (Slot 0) (called.Method 2) End) 0 (Call (Slot 0) (called.Method 1) End)))
    (program (0 ∷ []) ((making 0 0 [] ∷ []) ∷ (calling 0 0 [] ∷ []) ∷ []))
    (replicate 9 0 ++ replicate 99 1)
    ≡
    (line 0 (actions.Call 1) done
    ∷ line 0 (New 0) (gives (at 1))
    ∷ line 0 (Enter 3) done
    ∷ line 0 (WriteName 0 (at 1)) done
    ∷ line 0 (Return 1 None) done
    ∷ line 1 (actions.Call 1) done
    ∷ line 1 (ReadName 0) (gives (at 1))
    ∷ line 1 (Enter 0) done
    ∷ line 1 (Enter 2) done
    ∷ line 1 (WriteField 1 1 (at 1)) done
    ∷ line 1 (ReadField 1 1) (gives (at 1))
    ∷ line 1 (ReadField 1 0) (gives (int 0))
    ∷ line 1 (Enter 1) done
    ∷ line 1 (WriteField 1 0 (int 7)) done
    ∷ line 1 (WriteField 1 0 (int 2)) done
    ∷ line 1 (Return 1 None) done
    ∷ [])

-- void f() { v += 2147483647; v++; v--; }: sums wrap
abbrev pub SumsWrap : Type 0
SumsWrap =
    source_trace
    (with_body (block (AddField (Slot 0) 0 (Literal (int 2147483647)) ∷ AddField (Slot 0) 0 (Literal (int 1)) ∷
    AddField (Slot 0) 0 (Literal (minus 1)) ∷ [])))
    (program (0 ∷ []) ((making 0 0 [] ∷ []) ∷ (calling 0 0 [] ∷ []) ∷ []))
    (replicate 9 0 ++ replicate 99 1)
    ≡
    (line 0 (actions.Call 1) done
    ∷ line 0 (New 0) (gives (at 1))
    ∷ line 0 (Enter 3) done
    ∷ line 0 (WriteName 0 (at 1)) done
    ∷ line 0 (Return 1 None) done
    ∷ line 1 (actions.Call 1) done
    ∷ line 1 (ReadName 0) (gives (at 1))
    ∷ line 1 (Enter 0) done
    ∷ line 1 (ReadField 1 0) (gives (int 0))
    ∷ line 1 (WriteField 1 0 (int 2147483647)) done
    ∷ line 1 (ReadField 1 0) (gives (int 2147483647))
    ∷ line 1 (WriteField 1 0 (minus 2147483648)) done
    ∷ line 1 (ReadField 1 0) (gives (minus 2147483648))
    ∷ line 1 (WriteField 1 0 (int 2147483647)) done
    ∷ line 1 (Return 1 None) done
    ∷ [])
