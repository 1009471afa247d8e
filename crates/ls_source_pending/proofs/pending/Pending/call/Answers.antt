-- Why `Pending::call` in src/calls.rt keeps its contract and what `read_pair` requires.

use Rattle.ls_source_pending.proofs.pending.Pending.call.Goals as goal

pub read_pair-requires : goal.read_pair-requires
read_pair-requires c = c.requires

pub read_pair-requires-in-IsMarked : goal.read_pair-requires-in-IsMarked
read_pair-requires-in-IsMarked c = c.requires

pub read_pair-requires-in-GetBoth : goal.read_pair-requires-in-GetBoth
read_pair-requires-in-GetBoth c = c.requires

pub returns-in-Method : goal.returns-in-Method
returns-in-Method c = rw c.in-Method.is c.invoke.ensures

pub returns-in-LockIt : goal.returns-in-LockIt
returns-in-LockIt c = rw c.in-LockIt.is (rw c.reference_of-n.ensures at c.asks.ensures)

pub returns-in-UnlockIt : goal.returns-in-UnlockIt
returns-in-UnlockIt c = rw c.in-UnlockIt.is (rw c.reference_of-n.ensures at c.asks-in-UnlockIt.ensures)

pub returns-in-TryIt : goal.returns-in-TryIt
returns-in-TryIt c = rw c.in-TryIt.is (rw c.reference_of-n.ensures at c.asks-in-TryIt.ensures)

pub returns-in-AskIt : goal.returns-in-AskIt
returns-in-AskIt c = rw c.in-AskIt.is (rw c.reference_of-n.ensures at c.asks-in-AskIt.ensures)

pub returns-in-HoldMonitor : goal.returns-in-HoldMonitor
returns-in-HoldMonitor c = rw c.in-HoldMonitor.is (rw c.reference_of-n.ensures at c.asks-in-HoldMonitor.ensures)

pub returns-in-FreeMonitor : goal.returns-in-FreeMonitor
returns-in-FreeMonitor c = rw c.in-FreeMonitor.is (rw c.reference_of-n.ensures at c.asks-in-FreeMonitor.ensures)

pub returns-in-GetReference : goal.returns-in-GetReference
returns-in-GetReference c = rw c.in-GetReference.is (rw c.reference_of-n.ensures at c.read_pair.ensures)

pub returns-in-IsMarked : goal.returns-in-IsMarked
returns-in-IsMarked c = rw c.in-IsMarked.is (rw c.reference_of-n.ensures at c.read_pair-in-IsMarked.ensures)

pub returns-in-GetBoth : goal.returns-in-GetBoth
returns-in-GetBoth c = rw c.in-GetBoth.is (rw (
  c.reference_of-array.ensures,
  c.value_at.ensures,
  c.deref.ensures.value,
  c.reference_of-n.ensures,
) at c.read_pair-in-GetBoth.ensures)

pub returns-in-SetBoth : goal.returns-in-SetBoth
returns-in-SetBoth c = rw c.in-SetBoth.is (rw (
  c.pair_of-pair.ensures,
  c.value_at-in-SetBoth-2.ensures,
  c.deref-in-SetBoth-2.ensures.value,
  c.value_at-in-SetBoth.ensures,
  c.deref-in-SetBoth.ensures.value,
  c.reference_of-n.ensures,
) at c.asks-in-SetBoth.ensures)

pub returns-in-CompareAndSet : goal.returns-in-CompareAndSet
returns-in-CompareAndSet c = rw c.in-CompareAndSet.is (rw (
  c.swap.ensures,
  c.deref-in-CompareAndSet.ensures.value,
  c.reference_of-n.ensures,
) at c.asks-in-CompareAndSet.ensures)

pub returns-in-Attempt : goal.returns-in-Attempt
returns-in-Attempt c = rw c.in-Attempt.is (rw (
  c.attempt.ensures,
  c.deref-in-Attempt.ensures.value,
  c.reference_of-n.ensures,
) at c.asks-in-Attempt.ensures)
