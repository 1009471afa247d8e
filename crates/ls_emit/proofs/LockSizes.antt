-- How long the code of an operation is, wherever it is.
use Rattle.std.proofs.Common.{◌≡◌, refl, ℕ, length}
use Rattle.ls_lowered.specs.declared.tree.LockOperation.{LockOperation}
use Rattle.ls_lowered.specs.declared.tree.LockOperation.TheVariants.{Lock, Unlock, TryLock, IsHeld, LockMonitor}
use Rattle.ls_lowered.specs.declared.tree.LockOperation.TheVariants.{UnlockMonitor}
use Rattle.ls_emit.specs.LockCode.{lock_code, lock_size}

-- how long the code of a lock's operation is
pub lock_size_is : (o : LockOperation) (place : ℕ) → length (lock_code place o) ≡ lock_size o
lock_size_is Lock place = refl
lock_size_is Unlock place = refl
lock_size_is TryLock place = refl
lock_size_is IsHeld place = refl
lock_size_is LockMonitor place = refl
lock_size_is UnlockMonitor place = refl
