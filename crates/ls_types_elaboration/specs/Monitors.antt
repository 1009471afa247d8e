-- The statement `synchronized (target) body` in the forms of the checked tree (JLS 14.19). The object goes into a slot
-- of its own, and its monitor is locked. However the body completes, the monitor is unlocked.
use Rattle.std.specs.Prelude.{ℕ}
use Rattle.ls_checked.specs.declared.tree.Called.TheVariants.{HoldMonitor, FreeMonitor}
use Rattle.ls_checked.specs.CheckedTree.{Expression, Slot, Call, End, Statement, Block, SetSlot, Evaluate, Try, Done}
use Rattle.ls_checked.specs.CheckedTree.{Then}

abbrev pub synchronized : ℕ → ℕ → Expression → Statement → Statement
synchronized slot class target body =
    Block (
    Then (SetSlot slot target) (
    Then (Evaluate (Call (Slot slot) (HoldMonitor class) End)) (
    Then (Try body (Evaluate (Call (Slot slot) (FreeMonitor class) End)))
    Done)))
