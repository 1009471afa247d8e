-- Why `is_least` in src/least.rt keeps its contract.
use Rattle.std.proofs.Common.{◌≡◌, map, length, refl, subst, arith}
use Rattle.ls_graph.specs.Walks.{IsLeast}
use Rattle.ls_graph.proofs.Cheap.{none_cheaper}
use Rattle.ls_graph.proofs.least.is_least.Goals as goal

pub returns : goal.returns
returns g c = λ far.
    let edges = c.deref.result.now in
    let count = c.len-count.result in
    let same : count ≡ length c.args.closing.now.graph.found.nodes.items = omega (arith, c.len-count.ensures) in
    let marks = c.deref-2.result.now in
    let looked = c.args.closing.now.looked.items in
    let h : IsLeast c.args.counted edges count marks c.args.least =
    none_cheaper c.args.counted (map (λ v. v.items) c.as_slice-costs.result.now) c.args.actors c.args.least edges
    (c.if-not-are_costs.ensures refl) count marks (omega (arith, c.if-actors-eq0.false))
    (omega (arith, c.if-cost_at-gt0.false, c.cost_at.ensures)) (c.cost_at_least.ensures far) in
    subst (λ es. IsLeast c.args.counted es (length c.args.closing.now.graph.found.nodes.items) looked c.args.least)
    c.deref.ensures.value
    (subst (λ n. IsLeast c.args.counted edges n looked c.args.least) same
    (subst (λ ms. IsLeast c.args.counted edges count ms c.args.least) c.deref-2.ensures.value h))
