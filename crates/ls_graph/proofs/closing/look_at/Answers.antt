-- Why `look_at` in src/closing.rt keeps its contract.
use Rattle.std.proofs.Common.{◌<◌, length, ap, ◌∙◌, arith}
use Rattle.std.specs.Prelude.{slice_get}
use Rattle.ls_graph.specs.Graph.{states_in}
use Rattle.ls_graph.proofs.Founding.{from_more, none_from}
use Rattle.ls_graph.proofs.Growing.{all_more, all_still, goes_both, looked_here, within_states, within_still}
use Rattle.ls_graph.proofs.closing.look_at.Goals as goal

pub expand-requires-clause-led : goal.expand-requires-clause-led
expand-requires-clause-led g c = c.is_end_at.ensures.goes.led

pub expand-requires-clause-none : goal.expand-requires-clause-none
expand-requires-clause-none g c =
    none_from c.args.closing.now.graph.edges.items c.args.closing.now.looked.items c.args.at c.requires.from
    (λ marked. c.is_marked.ensures.off c.if-is_marked.false
    (ap (λ l. slice_get l c.args.at) c.deref.ensures.value ∙ marked))

pub returns-clause-from : goal.returns-clause-from
returns-clause-from g c =
    from_more c.args.closing.now.graph.edges.items c.expand.new.graph.edges.items c.args.closing.now.looked.items
    c.mark.new.marks.items c.args.at c.requires.from c.in_ok-expand.ensures.more c.in_ok-mark.ensures.stays
    c.in_ok-mark.ensures.here

pub returns-then-branch-clause-goes : goal.returns-then-branch-clause-goes
returns-then-branch-clause-goes g c = c.is_end_at.ensures.goes

pub returns-then-branch-clause-looked : goal.returns-then-branch-clause-looked
returns-then-branch-clause-looked g c =
    let goes = c.is_end_at.ensures.goes in
    all_still _ _ _ _ _ _ c.args.plan.actors goes.states goes.edges c.args.closing.now.looked.items c.requires.looked

pub returns-then-not-branch-clause-goes : goal.returns-then-not-branch-clause-goes
returns-then-not-branch-clause-goes g c =
    goes_both _ _ _ _ _ _ _ _ _ _ c.is_end_at.ensures.goes c.in_ok-expand.ensures.goes

pub returns-then-not-branch-clause-looked : goal.returns-then-not-branch-clause-looked
returns-then-not-branch-clause-looked g c =
    let goes = goes_both _ _ _ _ _ _ _ _ _ _ c.is_end_at.ensures.goes c.in_ok-expand.ensures.goes in
    all_still _ _ _ _ _ _ c.args.plan.actors goes.states goes.edges c.args.closing.now.looked.items c.requires.looked

pub returns-clause-goes : goal.returns-clause-goes
returns-clause-goes g c = goes_both _ _ _ _ _ _ _ _ _ _ c.is_end_at.ensures.goes c.in_ok-expand.ensures.goes

pub returns-clause-looked : goal.returns-clause-looked
returns-clause-looked g c =
    let stands = g.P.Space.stands c.args.space.now in
    let graph = c.args.closing.now.graph in
    let within : c.args.at < length graph.found.nodes.items = omega (arith, c.if-at-len.false, c.len.ensures) in
    let goes = goes_both _ _ _ _ _ _ _ _ _ _ c.is_end_at.ensures.goes c.in_ok-expand.ensures.goes in
    all_more (g.P.Space.Rests c.args.space.now) (g.P.Space.Ends c.args.space.now) _ _ _ _ c.args.plan.actors goes.states
    goes.edges c.args.closing.now.looked.items c.requires.looked c.mark.new.marks.items c.args.at
    (within_still (states_in stands c.args.tables.now graph) (states_in stands c.expand.new.tables c.expand.new.graph)
    c.args.at goes.states (within_states stands c.args.tables.now graph c.args.at within))
    (looked_here _ _ _ stands _ _ c.args.tables.now c.is_end_at.new.tables c.expand.new.tables graph c.expand.new.graph
    c.is_end_at.ensures.goes c.in_ok-expand.ensures.goes c.args.plan.actors c.args.at within
    (c.in_ok-is_end_at.ensures.none c.if-branch.false) (c.in_ok-expand.ensures.told c.if-not-branch.false))
    c.in_ok-mark.ensures.only
