-- A run with the most calls in one another. The text is above its checked file. Then come its thread program, schedule
-- and trace.
use Rattle.std.specs.Prelude.{◌≡◌, [], ◌∷◌, ◌++◌, replicate, None, Some}
use Rattle.ls_events.specs.declared.value.ValueType.TheVariants as types
use Rattle.ls_events.specs.declared.kind.Kind.TheVariants as kinds
use Rattle.ls_events.specs.declared.action.Action.TheVariants.{ReadField, WriteField, ReadName}
use Rattle.ls_events.specs.declared.action.Action.TheVariants.{WriteName, New}
use Rattle.ls_events.specs.declared.action.Action.TheVariants.{Enter, Return, Trap}
use Rattle.ls_events.specs.declared.action.Action.TheVariants as actions
use Rattle.ls_checked.specs.declared.tree.Operator.TheVariants as operators
use Rattle.ls_checked.specs.declared.tree.Called.TheVariants as called
use Rattle.ls_checked.specs.CheckedTree.{Literal, Slot, Field, Binary, Call, End}
use Rattle.ls_checked.specs.CheckedTree.{SetField, Evaluate, ReturnValue, Try}
use Rattle.ls_meaning.specs.Runs.{source_trace}
use Rattle.ls_meaning_rows.specs.Made.{int, at, block, one_class, method, making, calling, program, line}
use Rattle.ls_meaning_rows.specs.Made.{done, gives}

-- class R { int n; void f() { try { f(); } finally { n = n + 1; } } int get() { return n; } }
abbrev pub SixtyFourCalls : Type 0
SixtyFourCalls =
    source_trace
    (record {
      classes = (one_class (types.Int ∷ []) 2 ∷ []);
      methods =
          (method 0 0 ((types.Class 0) ∷ []) None
          (block ((Try (block ((Evaluate (Call (Slot 0) (called.Method 0) End)) ∷ []))
          (block ((SetField (Slot 0) 0 (Binary operators.Add (Field (Slot 0) 0 0) (Literal (int 1)))) ∷ []))) ∷ []))
          ∷ method 0 0 ((types.Class 0) ∷ []) (Some types.Int) (block ((ReturnValue (Field (Slot 0) 0 0)) ∷ []))
          ∷ method 0 0 ((types.Class 0) ∷ []) None (block [])
          ∷ []);
    })
    (program (0 ∷ []) ((making 0 0 [] ∷ []) ∷ (calling 0 0 [] ∷ []) ∷ (calling 0 1 [] ∷ []) ∷ []))
    (replicate 99 0 ++ replicate 999 1 ++ replicate 99 2)
    ≡
    (line 0 (actions.Call 1) done
    ∷ line 0 (New 0) (gives (at 1))
    ∷ line 0 (Enter 2) done
    ∷ line 0 (WriteName 0 (at 1)) done
    ∷ line 0 (Return 1 None) done
    ∷ line 1 (actions.Call 1) done
    ∷ line 1 (ReadName 0) (gives (at 1))
    ∷ line 1 (Enter 0) done
    ∷ line 1 (Enter 0) done
    ∷ line 1 (Enter 0) done
    ∷ line 1 (Enter 0) done
    ∷ line 1 (Enter 0) done
    ∷ line 1 (Enter 0) done
    ∷ line 1 (Enter 0) done
    ∷ line 1 (Enter 0) done
    ∷ line 1 (Enter 0) done
    ∷ line 1 (Enter 0) done
    ∷ line 1 (Enter 0) done
    ∷ line 1 (Enter 0) done
    ∷ line 1 (Enter 0) done
    ∷ line 1 (Enter 0) done
    ∷ line 1 (Enter 0) done
    ∷ line 1 (Enter 0) done
    ∷ line 1 (Enter 0) done
    ∷ line 1 (Enter 0) done
    ∷ line 1 (Enter 0) done
    ∷ line 1 (Enter 0) done
    ∷ line 1 (Enter 0) done
    ∷ line 1 (Enter 0) done
    ∷ line 1 (Enter 0) done
    ∷ line 1 (Enter 0) done
    ∷ line 1 (Enter 0) done
    ∷ line 1 (Enter 0) done
    ∷ line 1 (Enter 0) done
    ∷ line 1 (Enter 0) done
    ∷ line 1 (Enter 0) done
    ∷ line 1 (Enter 0) done
    ∷ line 1 (Enter 0) done
    ∷ line 1 (Enter 0) done
    ∷ line 1 (Enter 0) done
    ∷ line 1 (Enter 0) done
    ∷ line 1 (Enter 0) done
    ∷ line 1 (Enter 0) done
    ∷ line 1 (Enter 0) done
    ∷ line 1 (Enter 0) done
    ∷ line 1 (Enter 0) done
    ∷ line 1 (Enter 0) done
    ∷ line 1 (Enter 0) done
    ∷ line 1 (Enter 0) done
    ∷ line 1 (Enter 0) done
    ∷ line 1 (Enter 0) done
    ∷ line 1 (Enter 0) done
    ∷ line 1 (Enter 0) done
    ∷ line 1 (Enter 0) done
    ∷ line 1 (Enter 0) done
    ∷ line 1 (Enter 0) done
    ∷ line 1 (Enter 0) done
    ∷ line 1 (Enter 0) done
    ∷ line 1 (Enter 0) done
    ∷ line 1 (Enter 0) done
    ∷ line 1 (Enter 0) done
    ∷ line 1 (Enter 0) done
    ∷ line 1 (Enter 0) done
    ∷ line 1 (Enter 0) done
    ∷ line 1 (Enter 0) done
    ∷ line 1 (Enter 0) done
    ∷ line 1 (Enter 0) done
    ∷ line 1 (Enter 0) done
    ∷ line 1 (Enter 0) done
    ∷ line 1 (Enter 0) done
    ∷ line 1 (Enter 0) done
    ∷ line 1 (ReadField 1 0) (gives (int 0))
    ∷ line 1 (WriteField 1 0 (int 1)) done
    ∷ line 1 (ReadField 1 0) (gives (int 1))
    ∷ line 1 (WriteField 1 0 (int 2)) done
    ∷ line 1 (ReadField 1 0) (gives (int 2))
    ∷ line 1 (WriteField 1 0 (int 3)) done
    ∷ line 1 (ReadField 1 0) (gives (int 3))
    ∷ line 1 (WriteField 1 0 (int 4)) done
    ∷ line 1 (ReadField 1 0) (gives (int 4))
    ∷ line 1 (WriteField 1 0 (int 5)) done
    ∷ line 1 (ReadField 1 0) (gives (int 5))
    ∷ line 1 (WriteField 1 0 (int 6)) done
    ∷ line 1 (ReadField 1 0) (gives (int 6))
    ∷ line 1 (WriteField 1 0 (int 7)) done
    ∷ line 1 (ReadField 1 0) (gives (int 7))
    ∷ line 1 (WriteField 1 0 (int 8)) done
    ∷ line 1 (ReadField 1 0) (gives (int 8))
    ∷ line 1 (WriteField 1 0 (int 9)) done
    ∷ line 1 (ReadField 1 0) (gives (int 9))
    ∷ line 1 (WriteField 1 0 (int 10)) done
    ∷ line 1 (ReadField 1 0) (gives (int 10))
    ∷ line 1 (WriteField 1 0 (int 11)) done
    ∷ line 1 (ReadField 1 0) (gives (int 11))
    ∷ line 1 (WriteField 1 0 (int 12)) done
    ∷ line 1 (ReadField 1 0) (gives (int 12))
    ∷ line 1 (WriteField 1 0 (int 13)) done
    ∷ line 1 (ReadField 1 0) (gives (int 13))
    ∷ line 1 (WriteField 1 0 (int 14)) done
    ∷ line 1 (ReadField 1 0) (gives (int 14))
    ∷ line 1 (WriteField 1 0 (int 15)) done
    ∷ line 1 (ReadField 1 0) (gives (int 15))
    ∷ line 1 (WriteField 1 0 (int 16)) done
    ∷ line 1 (ReadField 1 0) (gives (int 16))
    ∷ line 1 (WriteField 1 0 (int 17)) done
    ∷ line 1 (ReadField 1 0) (gives (int 17))
    ∷ line 1 (WriteField 1 0 (int 18)) done
    ∷ line 1 (ReadField 1 0) (gives (int 18))
    ∷ line 1 (WriteField 1 0 (int 19)) done
    ∷ line 1 (ReadField 1 0) (gives (int 19))
    ∷ line 1 (WriteField 1 0 (int 20)) done
    ∷ line 1 (ReadField 1 0) (gives (int 20))
    ∷ line 1 (WriteField 1 0 (int 21)) done
    ∷ line 1 (ReadField 1 0) (gives (int 21))
    ∷ line 1 (WriteField 1 0 (int 22)) done
    ∷ line 1 (ReadField 1 0) (gives (int 22))
    ∷ line 1 (WriteField 1 0 (int 23)) done
    ∷ line 1 (ReadField 1 0) (gives (int 23))
    ∷ line 1 (WriteField 1 0 (int 24)) done
    ∷ line 1 (ReadField 1 0) (gives (int 24))
    ∷ line 1 (WriteField 1 0 (int 25)) done
    ∷ line 1 (ReadField 1 0) (gives (int 25))
    ∷ line 1 (WriteField 1 0 (int 26)) done
    ∷ line 1 (ReadField 1 0) (gives (int 26))
    ∷ line 1 (WriteField 1 0 (int 27)) done
    ∷ line 1 (ReadField 1 0) (gives (int 27))
    ∷ line 1 (WriteField 1 0 (int 28)) done
    ∷ line 1 (ReadField 1 0) (gives (int 28))
    ∷ line 1 (WriteField 1 0 (int 29)) done
    ∷ line 1 (ReadField 1 0) (gives (int 29))
    ∷ line 1 (WriteField 1 0 (int 30)) done
    ∷ line 1 (ReadField 1 0) (gives (int 30))
    ∷ line 1 (WriteField 1 0 (int 31)) done
    ∷ line 1 (ReadField 1 0) (gives (int 31))
    ∷ line 1 (WriteField 1 0 (int 32)) done
    ∷ line 1 (ReadField 1 0) (gives (int 32))
    ∷ line 1 (WriteField 1 0 (int 33)) done
    ∷ line 1 (ReadField 1 0) (gives (int 33))
    ∷ line 1 (WriteField 1 0 (int 34)) done
    ∷ line 1 (ReadField 1 0) (gives (int 34))
    ∷ line 1 (WriteField 1 0 (int 35)) done
    ∷ line 1 (ReadField 1 0) (gives (int 35))
    ∷ line 1 (WriteField 1 0 (int 36)) done
    ∷ line 1 (ReadField 1 0) (gives (int 36))
    ∷ line 1 (WriteField 1 0 (int 37)) done
    ∷ line 1 (ReadField 1 0) (gives (int 37))
    ∷ line 1 (WriteField 1 0 (int 38)) done
    ∷ line 1 (ReadField 1 0) (gives (int 38))
    ∷ line 1 (WriteField 1 0 (int 39)) done
    ∷ line 1 (ReadField 1 0) (gives (int 39))
    ∷ line 1 (WriteField 1 0 (int 40)) done
    ∷ line 1 (ReadField 1 0) (gives (int 40))
    ∷ line 1 (WriteField 1 0 (int 41)) done
    ∷ line 1 (ReadField 1 0) (gives (int 41))
    ∷ line 1 (WriteField 1 0 (int 42)) done
    ∷ line 1 (ReadField 1 0) (gives (int 42))
    ∷ line 1 (WriteField 1 0 (int 43)) done
    ∷ line 1 (ReadField 1 0) (gives (int 43))
    ∷ line 1 (WriteField 1 0 (int 44)) done
    ∷ line 1 (ReadField 1 0) (gives (int 44))
    ∷ line 1 (WriteField 1 0 (int 45)) done
    ∷ line 1 (ReadField 1 0) (gives (int 45))
    ∷ line 1 (WriteField 1 0 (int 46)) done
    ∷ line 1 (ReadField 1 0) (gives (int 46))
    ∷ line 1 (WriteField 1 0 (int 47)) done
    ∷ line 1 (ReadField 1 0) (gives (int 47))
    ∷ line 1 (WriteField 1 0 (int 48)) done
    ∷ line 1 (ReadField 1 0) (gives (int 48))
    ∷ line 1 (WriteField 1 0 (int 49)) done
    ∷ line 1 (ReadField 1 0) (gives (int 49))
    ∷ line 1 (WriteField 1 0 (int 50)) done
    ∷ line 1 (ReadField 1 0) (gives (int 50))
    ∷ line 1 (WriteField 1 0 (int 51)) done
    ∷ line 1 (ReadField 1 0) (gives (int 51))
    ∷ line 1 (WriteField 1 0 (int 52)) done
    ∷ line 1 (ReadField 1 0) (gives (int 52))
    ∷ line 1 (WriteField 1 0 (int 53)) done
    ∷ line 1 (ReadField 1 0) (gives (int 53))
    ∷ line 1 (WriteField 1 0 (int 54)) done
    ∷ line 1 (ReadField 1 0) (gives (int 54))
    ∷ line 1 (WriteField 1 0 (int 55)) done
    ∷ line 1 (ReadField 1 0) (gives (int 55))
    ∷ line 1 (WriteField 1 0 (int 56)) done
    ∷ line 1 (ReadField 1 0) (gives (int 56))
    ∷ line 1 (WriteField 1 0 (int 57)) done
    ∷ line 1 (ReadField 1 0) (gives (int 57))
    ∷ line 1 (WriteField 1 0 (int 58)) done
    ∷ line 1 (ReadField 1 0) (gives (int 58))
    ∷ line 1 (WriteField 1 0 (int 59)) done
    ∷ line 1 (ReadField 1 0) (gives (int 59))
    ∷ line 1 (WriteField 1 0 (int 60)) done
    ∷ line 1 (ReadField 1 0) (gives (int 60))
    ∷ line 1 (WriteField 1 0 (int 61)) done
    ∷ line 1 (ReadField 1 0) (gives (int 61))
    ∷ line 1 (WriteField 1 0 (int 62)) done
    ∷ line 1 (ReadField 1 0) (gives (int 62))
    ∷ line 1 (WriteField 1 0 (int 63)) done
    ∷ line 1 (ReadField 1 0) (gives (int 63))
    ∷ line 1 (WriteField 1 0 (int 64)) done
    ∷ line 1 (Trap 1 kinds.StackOverflow) done
    ∷ line 2 (actions.Call 1) done
    ∷ line 2 (ReadName 0) (gives (at 1))
    ∷ line 2 (Enter 1) done
    ∷ line 2 (ReadField 1 0) (gives (int 64))
    ∷ line 2 (Return 1 (Some (int 64))) done
    ∷ [])
