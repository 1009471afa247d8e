-- Why `comes_to_break` in src/breaking.rt keeps its clause `breaks` and its loops `init` and `preserved`.

use Rattle.std.proofs.Common.{◌∙◌, sym}
use Rattle.ls_transitions.specs.Seen.{table_of}
use Rattle.ls_endless_calls.proofs.Ahead.{at_start, breaks_ahead, further, later}
use Rattle.ls_endless_calls.proofs.breaking.comes_to_break.Goals as goal

pub loop-init : goal.loop-init
loop-init c = later c.args.threads (table_of c.args.transitions.now) (table_of c.args.transitions.now)
    (table_of c.has_setup_ended.new.transitions) c.args.place.now c.in_ok-here.here
    (at_start c.args.threads (table_of c.args.transitions.now) c.args.place.now c.in_ok-here.here c.requires.there
    c.in_ok-here.ensures.store c.in_ok-here.ensures.works
    (sym c.if-not-branch.false ∙ c.in_ok-has_setup_ended.ensures.ended))
    c.in_ok-has_setup_ended.ensures.grows

pub returns-then-branch-clause-breaks : goal.returns-then-branch-clause-breaks
returns-then-branch-clause-breaks c = λ so. breaks_ahead c.args.threads (table_of c.args.transitions.now)
    (table_of c.loop.transitions) c.args.place.now c.loop.here c.loop.invariant
    (c.in_ok-goes_on.ensures.breaks c.if-branch.true)

pub loop-preserved : goal.loop-preserved
loop-preserved c = further c.args.threads (table_of c.args.transitions.now) (table_of c.loop.transitions)
    (table_of c.goes_on.new.transitions) c.args.place.now c.loop.here c.goes_on.new.here c.loop.invariant
    c.in_ok-goes_on.ensures.ahead
