-- Why `keep` in src/nodes.rt keeps its contract.
use Rattle.std.proofs.Common.{◌≡◌, ◌+◌, ap, ◌∙◌, arith}
use Rattle.ls_graph.specs.Weights.{total}
use Rattle.ls_graph.proofs.Weighing.{bounded_more, total_more}
use Rattle.ls_graph.proofs.nodes.keep.Goals as goal

pub returns-clause-weight : goal.returns-clause-weight
returns-clause-weight g c =
    let weighs = g.P.Space.weighs in
    let nodes = c.args.found.now.nodes.items in
    let more : total weighs c.push.new.self.items ≡ total weighs nodes + weighs c.args.node =
    ap (total weighs) c.in_ok-push.ensures.items ∙ total_more weighs nodes c.args.node in
    omega (arith, more, c.saturating_add-found.ensures, c.weight.ensures, c.requires)

pub returns-clause-bounded : goal.returns-clause-bounded
returns-clause-bounded g c = λ old.
    bounded_more g.P.Space.weighs c.args.bounds c.args.found.now _ c.args.node
    (omega (arith, c.if-at-bounds.false, c.len-at.ensures))
    (omega (arith, c.if-found-bounds.false)) c.in_ok-push.ensures.items
    (omega (arith, c.saturating_add-found.ensures, c.weight.ensures))
