-- Why `goes_to_event` in src/breaking.rt keeps its contract, its loops and what it calls with.

use Rattle.std.proofs.Common.{false, refl, subst}
use Rattle.std.specs.Bool.{IsTrue}
use Rattle.ls_search_laws.specs.Configuration.{stride}
use Rattle.ls_transitions.specs.declared.moves.Move.{Move}
use Rattle.ls_transitions.specs.Tables.{Table}
use Rattle.ls_transitions.specs.Seen.{table_of}
use Rattle.ls_search.specs.declared.places.NumberedState.{NumberedState}
use Rattle.ls_search.specs.Places.{configuration_of}
use Rattle.ls_search.specs.Strides.{IsStrideBy}
use Rattle.ls_endless_calls.proofs.Ahead.{at_start, breaks_here, goes_ahead, later}
use Rattle.ls_endless_calls.proofs.breaking.goes_to_event.Goals as goal

pub loop-init : goal.loop-init
loop-init c = λ threads. at_start threads (table_of c.args.transitions.now) c.args.here.now c.args.here.now
    c.requires.there refl refl c.requires.ended

pub step_from-requires-clause-there : goal.step_from-requires-clause-there
step_from-requires-clause-there c = (c.loop.invariant 0).there

pub step_from-requires-clause-ended : goal.step_from-requires-clause-ended
step_from-requires-clause-ended c = (c.loop.invariant 0).ended

pub returns-then-has_event-clause-breaks : goal.returns-then-has_event-clause-breaks
returns-then-has_event-clause-breaks c = λ so threads.
    let mid : Table = table_of c.loop.transitions in
    let new : Table = table_of c.step_from.new.transitions in
    let p : NumberedState = c.loop.here in
    let u = c.args.thread in
    let acts = subst (λ (m : Move). IsStrideBy new (configuration_of mid p) p.works.items u m
    (stride mid.file (configuration_of mid p) u)) c.in-Acts.is c.in_ok-step.ensures.stride in
    let event = c.has_event.ensures c.if-has_event.true in
    breaks_here threads (table_of c.args.transitions.now) c.args.here.now u c.requires.other c.requires.within mid new p
    (c.loop.invariant threads) c.step_from.ensures.grows c.in-Acts.step acts event.0 event.1

pub returns-then-has_event-clause-ahead : goal.returns-then-has_event-clause-ahead
returns-then-has_event-clause-ahead c = λ threads. later threads (table_of c.args.transitions.now)
    (table_of c.loop.transitions) (table_of c.step_from.new.transitions) c.args.here.now c.loop.here
    (c.loop.invariant threads) c.step_from.ensures.grows

pub loop-preserved : goal.loop-preserved
loop-preserved c = λ threads.
    let mid : Table = table_of c.loop.transitions in
    let new : Table = table_of c.step_from.new.transitions in
    let p : NumberedState = c.loop.here in
    let u = c.args.thread in
    let acts = subst (λ (m : Move). IsStrideBy new (configuration_of mid p) p.works.items u m
    (stride mid.file (configuration_of mid p) u)) c.in-Acts.is c.in_ok-step.ensures.stride in
    goes_ahead threads (table_of c.args.transitions.now) c.args.here.now u c.requires.other c.requires.within mid new p
    (c.loop.invariant threads) c.step_from.ensures.grows c.in-Acts.step acts c.take.new.place c.take.ensures.store
    c.take.ensures.works

pub returns-in-Ended : goal.returns-in-Ended
returns-in-Ended c = record {
  breaks = λ so. absurd (not_so so);
  ahead = λ threads. later threads (table_of c.args.transitions.now) (table_of c.loop.transitions)
      (table_of c.step_from.new.transitions) c.args.here.now c.loop.here (c.loop.invariant threads)
      c.step_from.ensures.grows;
}
  where
    not_so : IsTrue false → ⊥
    not_so h = cc
