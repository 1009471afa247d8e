-- Why `first_left` in src/listing.rt keeps its loop `at` and what `is_fine` requires.

use Rattle.ls_transitions.proofs.Growing.{grows_not, grows_on}
use Rattle.ls_transitions.specs.Seen.{table_of}
use Rattle.ls_endless_calls.proofs.Fine.{fine_more, none_fine, there_later}
use Rattle.ls_endless_calls.proofs.listing.first_left.Goals as goal

pub loop-at-init : goal.loop-at-init
loop-at-init c = record {
  grows = grows_not (table_of c.args.transitions.now);
  fine = none_fine c.args.states.now.threads (table_of c.args.transitions.now) c.args.states.now.excused.now
      c.args.states.now.seen.now c.args.states.now.nodes.now;
}

pub is_fine-requires-clause-there : goal.is_fine-requires-clause-there
is_fine-requires-clause-there c = there_later (table_of c.args.transitions.now) (table_of c.loop-at.transitions)
    c.args.states.now.nodes.now c.args.states.now.threads c.loop-at.invariant.grows c.requires.there

pub loop-at-preserved : goal.loop-at-preserved
loop-at-preserved c = record {
  grows = grows_on (table_of c.args.transitions.now) (table_of c.loop-at.transitions)
      (table_of c.is_fine.new.transitions) c.loop-at.invariant.grows c.in_ok-is_fine.ensures.grows;
  fine = fine_more (table_of c.args.transitions.now) (table_of c.loop-at.transitions) c.args.states.now.excused.now
      c.args.states.now.seen.now c.args.states.now.nodes.now c.args.states.now.threads c.requires.there
      c.loop-at.invariant.grows c.loop-at.at c.loop-at.invariant.fine
      (c.in_ok-is_fine.ensures.fine c.if-not-branch.false);
}
