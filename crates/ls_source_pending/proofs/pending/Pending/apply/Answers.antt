-- Why `Pending::apply` in src/calls.rt keeps its contract and what `call` and `construct` require.

use Rattle.ls_source_pending.proofs.pending.Pending.apply.Goals as goal

pub call-requires : goal.call-requires
call-requires c = c.requires

pub construct-requires : goal.construct-requires
construct-requires c = c.requires

pub returns-in-Make : goal.returns-in-Make
returns-in-Make c = rw c.in-Make.is c.construct.ensures

pub returns-in-Mark : goal.returns-in-Mark
returns-in-Mark c = rw c.in-Mark.is (rw (
  c.pair_of-pair.ensures,
  c.value_at-in-Mark.ensures,
  c.deref-in-Mark.ensures.value,
  c.value_at.ensures,
  c.deref.ensures.value,
) at c.asks.ensures)
