-- Why `push_operation` in src/words.rt writes its words: each part is after what is there.

use Rattle.std.proofs.Common.{append_assoc, arith}
use Rattle.ls_labels.proofs.words.push_operation.Goals as goal

pub returns-in-LockMonitor : goal.returns-in-LockMonitor
returns-in-LockMonitor c = rw c.in-LockMonitor.is c.push_on-in-LockMonitor.ensures

pub returns-in-UnlockMonitor : goal.returns-in-UnlockMonitor
returns-in-UnlockMonitor c = rw c.in-UnlockMonitor.is c.push_on-in-UnlockMonitor.ensures

pub returns-in_ok-push_on-in-SetPair : goal.returns-in_ok-push_on-in-SetPair
returns-in_ok-push_on-in-SetPair c = grind (arith, append_assoc)

pub returns-in_ok-push_with-in-SwapPair : goal.returns-in_ok-push_with-in-SwapPair
returns-in_ok-push_with-in-SwapPair c = grind (arith, append_assoc)

pub returns-in_ok-push_str-in-AttemptMark : goal.returns-in_ok-push_str-in-AttemptMark
returns-in_ok-push_str-in-AttemptMark c = grind (arith, append_assoc)
