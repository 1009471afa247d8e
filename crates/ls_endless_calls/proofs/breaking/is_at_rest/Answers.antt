-- Why `is_at_rest` in src/breaking.rt keeps its loop `thread` and what `step_from` requires.

use Rattle.std.proofs.Common.{sym, subst}
use Rattle.ls_transitions.specs.Seen.{table_of}
use Rattle.ls_transitions.proofs.Growing.{grows_on}
use Rattle.ls_search.proofs.Strides.{stays, there_still}
use Rattle.ls_endless_calls.proofs.Ahead.{HasEnded, still_more}
use Rattle.ls_endless_calls.proofs.breaking.is_at_rest.Goals as goal

pub step_from-requires-clause-there : goal.step_from-requires-clause-there
step_from-requires-clause-there c = there_still (table_of c.args.transitions.now) (table_of c.loop-thread.transitions)
    c.args.here.now.store c.args.here.now.works.items c.loop-thread.invariant.grows c.requires.there

pub step_from-requires-clause-ended : goal.step_from-requires-clause-ended
step_from-requires-clause-ended c = subst HasEnded (sym (stays (table_of c.args.transitions.now)
    (table_of c.loop-thread.transitions) c.args.here.now.store c.args.here.now.works.items
    c.loop-thread.invariant.grows c.requires.there)) c.requires.ended

pub loop-thread-preserved : goal.loop-thread-preserved
loop-thread-preserved c = record {
  grows = grows_on (table_of c.args.transitions.now) (table_of c.loop-thread.transitions)
      (table_of c.step_from.new.transitions) c.loop-thread.invariant.grows c.step_from.ensures.grows;
  still = still_more (table_of c.args.transitions.now) (table_of c.loop-thread.transitions)
      (table_of c.step_from.new.transitions) c.args.here.now c.loop-thread.thread c.loop-thread.invariant.grows
      c.requires.there c.loop-thread.invariant.still _ (c.is_still.ensures c.if-not-is_still.false)
      c.in_ok-step_from.ensures.stride;
}
