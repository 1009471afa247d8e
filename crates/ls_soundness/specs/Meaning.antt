-- What the statement means.
use Rattle.std.specs.Prelude.{◌≡◌, ◌≢◌, ℕ, ◌<◌, List, length, slice_set}
use Rattle.ls_events.specs.declared.value.Value.{Value}
use Rattle.ls_events.specs.declared.action.Action.TheVariants.{LockMonitor, UnlockMonitor}
use Rattle.ls_checked.specs.CheckedTree.{Class, Expression, Statement, Block, SetSlot, SetField, AddField, SetItem}
use Rattle.ls_checked.specs.CheckedTree.{Evaluate, If, While, Break, Continue, ReturnNothing, ReturnValue, Try}
use Rattle.ls_checked.specs.CheckedTree.{Statements, Done, Then}
use Rattle.ls_meaning.specs.declared.sort.Sort.TheVariants.{NoValue}
use Rattle.ls_meaning.specs.Values.{reference_of}
use Rattle.ls_meaning.specs.Course.{Answers, on_object}
use Rattle.ls_meaning.specs.Expressions.{Calls, evaluate}
use Rattle.ls_meaning.specs.Statements.{Executed, on_value, and_normal, finally_do, execute}
use Rattle.ls_types_elaboration.specs.Monitors.{synchronized}

-- no assignment to a slot; no name of the text finds the slot of the statement
abbrev mutual
  pub Leaves : ℕ → Statement → Type 0
  Leaves slot (Block ss) = AllLeave slot ss
  Leaves slot (SetSlot n e) = n ≢ slot
  Leaves slot (SetField e f v) = Unit {0}
  Leaves slot (AddField e f v) = Unit {0}
  Leaves slot (SetItem a i v) = Unit {0}
  Leaves slot (Evaluate e) = Unit {0}
  Leaves slot (If e a b) = Leaves slot a × Leaves slot b
  Leaves slot (While e s) = Leaves slot s
  Leaves slot (Break n) = Unit {0}
  Leaves slot (Continue n) = Unit {0}
  Leaves slot ReturnNothing = Unit {0}
  Leaves slot (ReturnValue e) = Unit {0}
  Leaves slot (Try b f) = Leaves slot b × Leaves slot f

  pub AllLeave : ℕ → Statements → Type 0
  AllLeave slot Done = Unit {0}
  AllLeave slot (Then s ss) = Leaves slot s × AllLeave slot ss

-- The object, NullPointerException on null, the lock of its monitor, and the block. However the block completes, the
-- monitor of the same object is unlocked then (JLS 14.19).
abbrev pub monitored : List Class → Calls → ℕ → Expression → Statement → List Value → Answers → Executed
monitored classes calls slot target body locals answers =
    on_value (evaluate classes calls target locals answers) locals (λ o rest.
    on_value (on_object o (LockMonitor (reference_of o)) NoValue rest) (slice_set locals slot o) (λ _ rest.
    finally_do (execute classes calls body (slice_set locals slot o) rest) (λ locals rest.
    and_normal (on_object o (UnlockMonitor (reference_of o)) NoValue rest) locals)))

abbrev pub HoldsTheMonitor : Type 0
HoldsTheMonitor =
    (classes : List Class) (calls : Calls) (slot class : ℕ) (target : Expression) (body : Statement)
    (locals : List Value) (answers : Answers) →
    slot < length locals → Leaves slot body →
    execute classes calls (synchronized slot class target body) locals answers ≡ monitored classes calls slot target
    body locals answers
