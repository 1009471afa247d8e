-- Why `goes_on` in src/breaking.rt keeps its clauses `breaks` and `ahead` and its loop `thread`.

use Rattle.std.proofs.Common.{refl}
use Rattle.ls_transitions.specs.Seen.{table_of}
use Rattle.ls_endless_calls.proofs.Ahead.{at_start, breaks_ahead, further, later, rests_ahead}
use Rattle.ls_endless_calls.proofs.breaking.goes_on.Goals as goal

pub loop-thread-init : goal.loop-thread-init
loop-thread-init c = at_start c.args.threads (table_of c.args.transitions.now) c.args.here.now c.args.here.now
    c.requires.there refl refl c.requires.ended

pub returns-then-branch-clause-breaks : goal.returns-then-branch-clause-breaks
returns-then-branch-clause-breaks c = λ so. breaks_ahead c.args.threads (table_of c.args.transitions.now)
    (table_of c.loop-thread.transitions) c.args.here.now c.loop-thread.here c.loop-thread.invariant
    (c.in_ok-goes_to_event.ensures.breaks c.if-branch.true c.args.threads)

pub returns-then-branch-clause-ahead : goal.returns-then-branch-clause-ahead
returns-then-branch-clause-ahead c = further c.args.threads (table_of c.args.transitions.now)
    (table_of c.loop-thread.transitions) (table_of c.goes_to_event.new.transitions) c.args.here.now c.loop-thread.here
    c.goes_to_event.new.here c.loop-thread.invariant (c.in_ok-goes_to_event.ensures.ahead c.args.threads)

pub loop-thread-preserved : goal.loop-thread-preserved
loop-thread-preserved c = further c.args.threads (table_of c.args.transitions.now)
    (table_of c.loop-thread.transitions) (table_of c.goes_to_event.new.transitions) c.args.here.now c.loop-thread.here
    c.goes_to_event.new.here c.loop-thread.invariant (c.in_ok-goes_to_event.ensures.ahead c.args.threads)

pub returns-clause-breaks : goal.returns-clause-breaks
returns-clause-breaks c = λ so. rests_ahead c.args.threads (table_of c.args.transitions.now)
    (table_of c.loop-thread.transitions) c.args.here.now c.loop-thread.here c.loop-thread.invariant
    (c.in_ok-rests.ensures.rest so)

pub returns-clause-ahead : goal.returns-clause-ahead
returns-clause-ahead c = later c.args.threads (table_of c.args.transitions.now) (table_of c.loop-thread.transitions)
    (table_of c.is_at_rest.new.transitions) c.args.here.now c.loop-thread.here c.loop-thread.invariant
    c.in_ok-rests.ensures.grows
