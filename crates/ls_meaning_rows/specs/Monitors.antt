-- Monitors: blocks and methods that hold the monitor of an object.
use Rattle.std.specs.Prelude.{◌≡◌, ℕ, [], ◌∷◌, ◌++◌, replicate, None, Some}
use Rattle.ls_events.specs.declared.value.ValueType.TheVariants as types
use Rattle.ls_events.specs.declared.kind.Kind.TheVariants as kinds
use Rattle.ls_events.specs.declared.action.Action.TheVariants as actions
use Rattle.ls_events.specs.declared.event.Happening.TheVariants.{Called, Returned, Trapped}
use Rattle.ls_checked.specs.declared.tree.Operator.TheVariants as operators
use Rattle.ls_checked.specs.declared.tree.Called.TheVariants as called
use Rattle.ls_checked.specs.CheckedTree.{File, Expression, Literal, Slot, Field, Binary, Call, End, Statement, SetSlot}
use Rattle.ls_checked.specs.CheckedTree.{SetField, Evaluate, While, ReturnValue, Try}
use Rattle.ls_meaning.specs.Store.{Store, Hold, Free, HeldBy, Object}
use Rattle.ls_meaning.specs.Effect.{Waits, Does, effect}
use Rattle.ls_meaning.specs.Runs.{source_history}
use Rattle.ls_meaning_rows.specs.Made.{int, block, one_class, method, making, calling, program, done, fails}
use Rattle.ls_meaning_rows.specs.Steps.{event}

-- `synchronized (target) { .. }` on an object of class 0, with a slot of its own for the object (JLS 14.19)
abbrev pub holding : ℕ → Expression → Statement → Statement
holding slot target body =
    block (
    SetSlot slot target
    ∷ Evaluate (Call (Slot slot) (called.HoldMonitor 0) End)
    ∷ Try body (Evaluate (Call (Slot slot) (called.FreeMonitor 0) End))
    ∷ [])

-- class Counter {
--   int v;
--   synchronized void inc() { int t = v; int i = 0; while (i < 1) { i = i + 1; } v = t + 1; }
--   synchronized int get() { return v; }
-- }
abbrev pub counter : File
counter = record {
  classes = one_class (types.Int ∷ []) 2 ∷ [];
  methods =
      method 0 0 (types.Class 0 ∷ types.Class 0 ∷ types.Int ∷ types.Int ∷ []) None (
      holding 1 (Slot 0) (block (
      SetSlot 2 (Literal (int 0))
      ∷ SetSlot 2 (Field (Slot 0) 0 0)
      ∷ SetSlot 3 (Literal (int 0))
      ∷ While (Binary operators.Less (Slot 3) (Literal (int 1)))
      (block (SetSlot 3 (Binary operators.Add (Slot 3) (Literal (int 1))) ∷ []))
      ∷ SetField (Slot 0) 0 (Binary operators.Add (Slot 2) (Literal (int 1)))
      ∷ [])))
      ∷ method 0 0 (types.Class 0 ∷ types.Class 0 ∷ []) (Some types.Int)
      (holding 1 (Slot 0) (block (ReturnValue (Field (Slot 0) 0 0) ∷ [])))
      ∷ method 0 0 (types.Class 0 ∷ []) None (block [])
      ∷ [];
}

-- A is in inc() when B calls inc(). B waits, and no update is lost. With one step less, the last call is pending.
abbrev pub NoUpdateLost : Type 0
NoUpdateLost =
    source_history counter (program (0 ∷ []) ((making 0 0 [] ∷ []) ∷ (calling 0 0 [] ∷ []) ∷
    (calling 0 0 [] ∷ calling 0 1 [] ∷ []) ∷ []))
    (replicate 5 0 ++ replicate 5 1 ++ replicate 99 2 ++ replicate 4 1 ++ replicate 13 2)
    ≡
    (event 0 1 Called
    ∷ event 0 1 (Returned None)
    ∷ event 1 1 Called
    ∷ event 2 1 Called
    ∷ event 1 1 (Returned None)
    ∷ event 2 1 (Returned None)
    ∷ event 2 2 Called
    ∷ event 2 2 (Returned (Some (int 2)))
    ∷ [])

abbrev pub OneStepLess : Type 0
OneStepLess =
    source_history counter (program (0 ∷ []) ((making 0 0 [] ∷ []) ∷ (calling 0 0 [] ∷ []) ∷
    (calling 0 0 [] ∷ calling 0 1 [] ∷ []) ∷ []))
    (replicate 5 0 ++ replicate 5 1 ++ replicate 99 2 ++ replicate 4 1 ++ replicate 12 2)
    ≡
    (event 0 1 Called
    ∷ event 0 1 (Returned None)
    ∷ event 1 1 Called
    ∷ event 2 1 Called
    ∷ event 1 1 (Returned None)
    ∷ event 2 1 (Returned None)
    ∷ event 2 2 Called
    ∷ [])

-- class U { U n; int v; void f() { synchronized (n) { v = 1; } } }
abbrev pub MonitorOfNull : Type 0
MonitorOfNull =
    source_history
    (record {
      classes = one_class (types.Class 0 ∷ types.Int ∷ []) 1 ∷ [];
      methods =
          method 0 0 (types.Class 0 ∷ types.Class 0 ∷ []) None
          (block (holding 1 (Field (Slot 0) 0 0) (block (SetField (Slot 0) 1 (Literal (int 1)) ∷ [])) ∷ []))
          ∷ method 0 0 (types.Class 0 ∷ []) None (block [])
          ∷ [];
    })
    (program (0 ∷ []) ((making 0 0 [] ∷ []) ∷ (calling 0 0 [] ∷ []) ∷ []))
    (replicate 5 0 ++ replicate 5 1)
    ≡
    (event 0 1 Called ∷ event 0 1 (Returned None) ∷ event 1 1 Called ∷ event 1 1 (Trapped kinds.NullPointer) ∷ [])

-- class R { int n; synchronized void f() { f(); } synchronized int get() { return n; } }
--
-- Each of A's 64 entries locks, and each of their trapped ends unlocks. B waits before the last end, and gets the
-- monitor then.
abbrev pub UnlockedByTraps : Type 0
UnlockedByTraps =
    source_history
    (record {
      classes = one_class (types.Int ∷ []) 2 ∷ [];
      methods =
          method 0 0 (types.Class 0 ∷ types.Class 0 ∷ []) None
          (holding 1 (Slot 0) (block (Evaluate (Call (Slot 0) (called.Method 0) End) ∷ [])))
          ∷ method 0 0 (types.Class 0 ∷ types.Class 0 ∷ []) (Some types.Int)
          (holding 1 (Slot 0) (block (ReturnValue (Field (Slot 0) 0 0) ∷ [])))
          ∷ method 0 0 (types.Class 0 ∷ []) None (block [])
          ∷ [];
    })
    (program (0 ∷ []) ((making 0 0 [] ∷ []) ∷ (calling 0 0 [] ∷ []) ∷ (calling 0 1 [] ∷ []) ∷ []))
    (replicate 5 0 ++ replicate 193 1 ++ replicate 99 2 ++ replicate 2 1 ++ replicate 4 2)
    ≡
    (event 0 1 Called
    ∷ event 0 1 (Returned None)
    ∷ event 1 1 Called
    ∷ event 2 1 Called
    ∷ event 1 1 (Trapped kinds.StackOverflow)
    ∷ event 2 1 (Returned (Some (int 0)))
    ∷ [])

-- a store of one object, whose monitor has this hold and whose field is 7
abbrev pub object : Hold → Store
object hold = record { things = Object hold (int 7 ∷ []) ∷ []; names = [] }

-- an object's monitor by itself: taken, held once more, waited for, left, not left by another thread; the field stays
-- the same
abbrev pub MonitorOfAnObject : Type 0
MonitorOfAnObject =
    (effect [] (object Free) 1 (actions.LockMonitor 1) ≡ Does (object (HeldBy 1 1)) done)
    × (effect [] (object (HeldBy 1 1)) 1 (actions.LockMonitor 1) ≡ Does (object (HeldBy 1 2)) done)
    × (effect [] (object (HeldBy 1 2147483647)) 1 (actions.LockMonitor 1) ≡ Does (object (HeldBy 1 2147483647))
    (fails kinds.Error))
    × (effect [] (object (HeldBy 1 1)) 2 (actions.LockMonitor 1) ≡ Waits)
    × (effect [] (object (HeldBy 1 2)) 1 (actions.UnlockMonitor 1) ≡ Does (object (HeldBy 1 1)) done)
    × (effect [] (object (HeldBy 1 1)) 1 (actions.UnlockMonitor 1) ≡ Does (object Free) done)
    × (effect [] (object (HeldBy 1 1)) 2 (actions.UnlockMonitor 1) ≡ Does (object (HeldBy 1 1))
    (fails kinds.IllegalMonitorState))
    × (effect [] (object Free) 1 (actions.UnlockMonitor 1) ≡ Does (object Free) (fails kinds.IllegalMonitorState))
