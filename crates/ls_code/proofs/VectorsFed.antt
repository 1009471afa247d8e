-- What small threads ask for, fed with answers.
use Rattle.std.proofs.Common.{◌≡◌, [], ◌∷◌, Some, refl}
use Rattle.ls_code.specs.Code.{Code}
use Rattle.ls_code.specs.Thread.{Thread}
use Rattle.ls_code.specs.Machine.{started}
use Rattle.ls_code.specs.Fed.{Asked, Ended, Trapped, Lost, fed}
use Rattle.ls_code.specs.declared.code.CallResult.TheVariants as result
use Rattle.ls_code.specs.declared.instruction.Instruction.TheVariants as op
use Rattle.ls_events.specs.declared.kind.Kind.TheVariants.{NullPointer}
use Rattle.ls_events.specs.declared.action.Answer.TheVariants.{Done, Gives, Fails}
use Rattle.ls_events.specs.declared.action.Action.TheVariants as act

-- a call of a method that reads field 0 of null in a guarded region whose handler returns 7
code : Code
code = record {
  instructions = op.Call 1 ∷ op.GetName 0 ∷ op.Enter 0 ∷ op.Result 1 ∷ op.Halt ∷ op.Trap ∷ op.Push 0 ∷ op.GetField 0 ∷
      op.LeaveWith ∷ op.Pop ∷ op.Push 7 ∷ op.LeaveWith ∷ [];
  handlers = record { from = 6; to = 9; handler = 9; depth = 0 } ∷ record { from = 0; to = 4; handler = 5; depth = 0 } ∷
      [];
  methods = record { start = 6; arguments = 1; more = 0; need = 1 } ∷ [];
  sizes = [];
  starts = [];
  names = 1;
}

start : Thread
start = started (record { place = 0; need = 1; calls = result.Int ∷ [] })

asks_call : fed code 1 5 5 start [] ≡ Asked (act.Call 1)
unfolding code start
asks_call = refl

asks_enter : fed code 1 5 5 start (Done ∷ Gives 5 ∷ []) ≡ Asked (act.Enter 0)
unfolding code start
asks_enter = refl

-- the throw is caught in the method, which gives 7: five silent instructions
asks_return : fed code 1 5 5 start (Done ∷ Gives 5 ∷ Done ∷ []) ≡ Asked (act.Return 1 (Some 7))
unfolding code start
asks_return = refl

silent_too_long : fed code 1 4 5 start (Done ∷ Gives 5 ∷ Done ∷ []) ≡ Lost
unfolding code start
silent_too_long = refl

has_ended : fed code 1 5 5 start (Done ∷ Gives 5 ∷ Done ∷ Done ∷ []) ≡ Ended
unfolding code start
has_ended = refl

-- entered on null, the call traps in the lowest frame
asks_trap : fed code 1 5 5 start (Done ∷ Gives 0 ∷ []) ≡ Asked (act.Trap 1 NullPointer)
unfolding code start
asks_trap = refl

has_trapped : fed code 1 5 5 start (Done ∷ Gives 0 ∷ Done ∷ []) ≡ Trapped
unfolding code start
has_trapped = refl

-- a failing action that nothing catches
is_stuck : fed (record code { handlers = [] }) 1 5 5 start (Done ∷ Fails NullPointer ∷ []) ≡ Lost
unfolding code start
is_stuck = refl

-- lock() and unlock() of the lock under the only setup name, by load and exchange
locking : Code
locking = record code {
  instructions = op.GetName 0 ∷ op.See 1 ∷ op.Take 1 ∷ op.JumpIfFalse 1 ∷ op.See 3 ∷
      op.DropLock 0 ∷ op.Push 9 ∷ op.PutName 0 ∷ op.Halt ∷ [];
}

locker : Thread
locker = started (record { place = 0; need = 2; calls = [] })

-- SEE asks for its operation, and so does TAKE
asks_lock : (fed locking 1 5 5 locker (Gives 3 ∷ []) ≡ Asked (act.Lock 3)) ×
    (fed locking 1 5 5 locker (Gives 3 ∷ Gives 0 ∷ []) ≡ Asked (act.Lock 3))
unfolding locking code locker
asks_lock = (refl, refl)

-- if another thread owns the lock, or if the exchange is lost, the thread looks again
asks_again : (fed locking 1 5 5 locker (Gives 3 ∷ Gives 12884901889 ∷ []) ≡ Asked (act.Lock 3)) ×
    (fed locking 1 5 5 locker (Gives 3 ∷ Gives 0 ∷ Gives 0 ∷ []) ≡ Asked (act.Lock 3))
unfolding locking code locker
asks_again = (refl, refl)

-- once it is won the thread asks for the unlock; DROP takes no answer
asks_unlock : fed locking 1 5 5 locker (Gives 3 ∷ Gives 0 ∷ Gives 1 ∷ []) ≡ Asked (act.Unlock 3)
unfolding locking code locker
asks_unlock = refl

asks_write : fed locking 1 5 5 locker (Gives 3 ∷ Gives 0 ∷ Gives 1 ∷ Gives 8589934593 ∷ []) ≡ Asked (act.WriteName 0 9)
unfolding locking code locker
asks_write = refl

-- an unlock by another thread throws, and nothing catches it
throws_unlock : fed locking 1 5 5 locker (Gives 3 ∷ Gives 0 ∷ Gives 1 ∷ Gives 12884901889 ∷ []) ≡ Lost
unfolding locking code locker
throws_unlock = refl

-- the same of the monitor of the object under the only setup name
monitoring : Code
monitoring = record code {
  instructions = op.GetName 0 ∷ op.See 4 ∷ op.Take 4 ∷ op.JumpIfFalse 1 ∷ op.See 5 ∷
      op.DropLock 1 ∷ op.Push 9 ∷ op.PutName 0 ∷ op.Halt ∷ [];
}

asks_monitor : (fed monitoring 1 5 5 locker (Gives 3 ∷ []) ≡ Asked (act.LockMonitor 3)) ×
    (fed monitoring 1 5 5 locker (Gives 3 ∷ Gives 12884901889 ∷ []) ≡ Asked (act.LockMonitor 3)) ×
    (fed monitoring 1 5 5 locker (Gives 3 ∷ Gives 0 ∷ Gives 0 ∷ []) ≡ Asked (act.LockMonitor 3))
unfolding monitoring code locker
asks_monitor = (refl, refl, refl)

leaves_monitor : (fed monitoring 1 5 5 locker (Gives 3 ∷ Gives 0 ∷ Gives 1 ∷ []) ≡ Asked (act.UnlockMonitor 3)) ×
    (fed monitoring 1 5 5 locker (Gives 3 ∷ Gives 0 ∷ Gives 1 ∷ Gives 8589934593 ∷ []) ≡ Asked (act.WriteName 0 9)) ×
    (fed monitoring 1 5 5 locker (Gives 3 ∷ Gives 0 ∷ Gives 1 ∷ Gives 12884901889 ∷ []) ≡ Lost)
unfolding monitoring code locker
leaves_monitor = (refl, refl, refl)

-- if SEE began an unlock, DROP of a monitor isn't in this table
mismatched : Code
mismatched = record code { instructions = op.GetName 0 ∷ op.DropLock 2 ∷ op.Halt ∷ [] }

stuck_drop : fed mismatched 1 5 5 locker (Gives 3 ∷ []) ≡ Lost
unfolding mismatched code locker
stuck_drop = refl
