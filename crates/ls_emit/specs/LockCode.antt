-- The code of one operation on a lock, or on the monitor of an object. Its address is on top of the operands. SEE puts
-- the word of the lock on top of the address. TAKE and DROP exchange that word for another, if it still is what was
-- seen.
use Rattle.std.specs.Prelude.{ℕ, List, [], ◌∷◌}
use Rattle.ls_code.specs.declared.instruction.Instruction.{Instruction}
use Rattle.ls_code.specs.declared.instruction.Instruction.TheVariants as op
use Rattle.ls_lowered.specs.declared.tree.LockOperation.{LockOperation}
use Rattle.ls_lowered.specs.declared.tree.LockOperation.TheVariants.{Lock, Unlock, TryLock, IsHeld, LockMonitor}
use Rattle.ls_lowered.specs.declared.tree.LockOperation.TheVariants.{UnlockMonitor}

-- At a place. `lock()` looks and takes until it has the lock. `tryLock()` looks once and leaves its flag on top of the
-- address, which is 1 if it has the lock. PACK and MARKOF leave only the flag. An operation that gives no word leaves
-- 0.
abbrev pub waiting_code : ℕ → ℕ → List Instruction
waiting_code place which = op.See which ∷ op.Take which ∷ op.JumpIfFalse place ∷ op.Pop ∷ op.Push 0 ∷ []

abbrev pub leaving_code : ℕ → ℕ → List Instruction
leaving_code seen dropped = op.See seen ∷ op.DropLock dropped ∷ op.Push 0 ∷ []

abbrev pub lock_code : ℕ → LockOperation → List Instruction
lock_code place Lock = waiting_code place 1
lock_code place Unlock = leaving_code 3 0
lock_code place TryLock = op.See 2 ∷ op.Take 2 ∷ op.Pack ∷ op.MarkOf ∷ []
lock_code place IsHeld = op.IsHeld ∷ []
lock_code place LockMonitor = waiting_code place 4
lock_code place UnlockMonitor = leaving_code 5 1

-- how many instructions
abbrev pub lock_size : LockOperation → ℕ
lock_size Lock = 5
lock_size Unlock = 3
lock_size TryLock = 4
lock_size IsHeld = 1
lock_size LockMonitor = 5
lock_size UnlockMonitor = 3
