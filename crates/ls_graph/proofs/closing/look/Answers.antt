-- Why `look` in src/closing.rt keeps its contract.
use Rattle.std.proofs.Common.{◌≡◌, ◌≤◌, List, Some, inl, inr, length, refl, sym, ap, ◌∙◌, subst, arith}
use Rattle.std.specs.Prelude.{slice_get}
use Rattle.ls_graph.specs.Found.{HasNoneBy, LeavesMoreBy}
use Rattle.ls_graph.specs.Graph.{IsBounded}
use Rattle.ls_graph.specs.Grown.{IsNodeAt, Pushed, Stands}
use Rattle.ls_graph.specs.Weights.{total}
use Rattle.ls_graph.specs.declared.closing.Edge.{Edge}
use Rattle.ls_graph.specs.declared.nodes.Nodes.{Nodes}
use Rattle.ls_graph.specs.declared.space.Step.{Step}
use Rattle.ls_graph.proofs.Founding.{grown_edge, grown_still, more_edge}
use Rattle.ls_graph.proofs.Growing.{goes_edge, goes_node, goes_still, of_none, of_some}
use Rattle.ls_graph.proofs.Lists.{last_there, map_there, some_is}
use Rattle.ls_graph.proofs.closing.look.Goals as goal

pub next-requires : goal.next-requires
next-requires g c = c.requires.known c.args.at c.node_at-node.result.now
    (ap (λ l. slice_get l c.args.at) (sym c.deref.ensures.value) ∙ c.node_at-node.ensures)

pub returns-in-None-clause-goes : goal.returns-in-None-clause-goes
returns-in-None-clause-goes g c =
    goes_still _ _ _ _ _ c.next.ensures.grows c.args.graph.now _ c.requires.known c.requires.led g.P.Space.weighs
    c.requires.weighed refl refl

pub returns-in-None-clause-told : goal.returns-in-None-clause-told
returns-in-None-clause-told g c = λ done s here.
    let stands = g.P.Space.stands c.args.space.now in
    let nodes = c.args.graph.now.found.nodes.items in
    let one = c.node_at-node.result.now in
    let at_one : slice_get nodes c.args.at ≡ Some one =
    ap (λ l. slice_get l c.args.at) (sym c.deref.ensures.value) ∙ c.node_at-node.ensures in
    let same : stands c.args.tables.now one ≡ s =
    some_is (sym (map_there (stands c.args.tables.now) nodes c.args.at one at_one) ∙ here) in
    inl (subst (λ x. g.P.Space.Rests c.args.space.now x c.args.actor) same
    (of_none _ c.in_ok-next.field-0 c.in-None.is c.in_ok-next.ensures.rests))

pub returns-in-None-2-clause-goes : goal.returns-in-None-2-clause-goes
returns-in-None-2-clause-goes g c =
    goes_node _ _ _ _ _ c.next.ensures.grows c.args.graph.now _ c.requires.known c.requires.led g.P.Space.weighs
    c.in_ok-keep-in-Some.ensures.weight c.in-Some.step.node
    c.in_ok-keep-in-Some.ensures.pushed
    (of_some (λ (s : Step g.row.P-Node.Denot). g.P.Space.IsKnown c.args.space.now c.next.new.tables s.node)
    c.in_ok-next.field-0 c.in-Some.step c.in-Some.is c.in_ok-next.ensures.known) refl

pub returns-in_ok-join-in-Some-2-clause-goes : goal.returns-in_ok-join-in-Some-2-clause-goes
returns-in_ok-join-in-Some-2-clause-goes g c =
    let stands = g.P.Space.stands c.args.space.now in
    let weighs = g.P.Space.weighs in
    let one = c.node_at-node.result.now in
    let node = c.in-Some.step.node in
    let old = c.args.graph.now.found.nodes.items in
    let e : Edge = record {
      from = c.in_ok-from-in-Some-2.from;
      to = c.in_ok-to-in-Some-2.to;
      mark = c.in-Some.step.mark;
      actor = c.args.actor;
    } in
    goes_edge _ _ _ _ _ c.next.ensures.grows c.args.graph.now _ c.requires.known c.requires.led weighs
    (subst (λ (f : Nodes g.row.P-Node.Denot). f.weight ≤ total weighs f.nodes.items) (sym c.join.ensures.nodes)
    c.in_ok-keep-in-Some.ensures.weight) node
    (subst (λ (f : Nodes g.row.P-Node.Denot). Pushed old f.nodes.items node) (sym c.join.ensures.nodes)
    c.in_ok-keep-in-Some.ensures.pushed)
    (of_some (λ (s : Step g.row.P-Node.Denot). g.P.Space.IsKnown c.args.space.now c.next.new.tables s.node)
    c.in_ok-next.field-0 c.in-Some.step c.in-Some.is c.in_ok-next.ensures.known) e one
    c.in_ok-join-in-Some-2.ensures.edges
    (ap (slice_get old) c.in_ok-from-in-Some-2.ensures
    ∙ ap (λ l. slice_get l c.args.at) (sym c.deref.ensures.value) ∙ c.node_at-node.ensures)
    (subst (λ (f : Nodes g.row.P-Node.Denot). IsNodeAt stands f.nodes.items node c.in_ok-to-in-Some-2.to)
    (sym c.join.ensures.nodes)
    (subst (IsNodeAt stands c.keep.new.found.nodes.items node) (sym c.in_ok-to-in-Some-2.ensures)
    (of_some (IsNodeAt stands c.keep.new.found.nodes.items node) c.in_ok-keep-in-Some.field-0 c.in-Some-2.to
    c.in-Some-2.is c.in_ok-keep-in-Some.ensures.there)))
    (of_some (λ (s : Step g.row.P-Node.Denot). g.P.Space.Leads c.args.space.now (stands c.args.tables.now one)
    c.args.actor s.mark (stands c.next.new.tables s.node)) c.in_ok-next.field-0 c.in-Some.step c.in-Some.is
    c.in_ok-next.ensures.leads)

pub returns-in_ok-join-in-Some-2-clause-told : goal.returns-in_ok-join-in-Some-2-clause-told
returns-in_ok-join-in-Some-2-clause-told g c = λ done s here.
    let e : Edge = record {
      from = c.in_ok-from-in-Some-2.from;
      to = c.in_ok-to-in-Some-2.to;
      mark = c.in-Some.step.mark;
      actor = c.args.actor;
    } in
    let edges : List Edge = c.args.graph.now.edges.items in
    inr (record {
      place = length edges;
      edge = e;
      here = ap (λ l. slice_get l (length edges)) c.in_ok-join-in-Some-2.ensures.edges ∙ last_there edges e;
      from_is = c.in_ok-from-in-Some-2.ensures;
      actor_is = refl;
    })

pub returns-in_ok-join-in-Some-2-clause-bounded : goal.returns-in_ok-join-in-Some-2-clause-bounded
returns-in_ok-join-in-Some-2-clause-bounded g c = λ old.
    subst (IsBounded g.P.Space.weighs c.args.plan.bounds) (sym c.join.ensures.nodes)
    (c.in_ok-keep-in-Some.ensures.bounded old)

pub returns-in_ok-join-in-Some-2-clause-more : goal.returns-in_ok-join-in-Some-2-clause-more
returns-in_ok-join-in-Some-2-clause-more g c =
    let e : Edge = record {
      from = c.in_ok-from-in-Some-2.from;
      to = c.in_ok-to-in-Some-2.to;
      mark = c.in-Some.step.mark;
      actor = c.args.actor;
    } in
    subst (λ k. LeavesMoreBy c.args.graph.now.edges.items c.join.new.graph.edges.items k c.args.actor)
    c.in_ok-from-in-Some-2.ensures
    (more_edge c.args.graph.now.edges.items c.join.new.graph.edges.items e c.in_ok-join-in-Some-2.ensures.edges)

pub returns-in_ok-join-in-Some-2-clause-grown : goal.returns-in_ok-join-in-Some-2-clause-grown
returns-in_ok-join-in-Some-2-clause-grown g c =
    let old = c.args.graph.now.found.nodes.items in
    let node = c.in-Some.step.node in
    let e : Edge = record {
      from = c.in_ok-from-in-Some-2.from;
      to = c.in_ok-to-in-Some-2.to;
      mark = c.in-Some.step.mark;
      actor = c.args.actor;
    } in
    grown_edge c.args.graph.now c.join.new.graph c.requires.grown e node
    (subst (λ k. HasNoneBy c.args.graph.now.edges.items k c.args.actor)
    (sym c.in_ok-from-in-Some-2.ensures) c.requires.new)
    (omega (arith, c.requires.at, c.in_ok-from-in-Some-2.ensures)) c.in_ok-join-in-Some-2.ensures.edges
    (subst (λ (f : Nodes g.row.P-Node.Denot). Stands old f.nodes.items node c.in_ok-to-in-Some-2.to)
    (sym c.join.ensures.nodes)
    (subst (Stands old c.keep.new.found.nodes.items node) (sym c.in_ok-to-in-Some-2.ensures)
    (of_some (Stands old c.keep.new.found.nodes.items node) c.in_ok-keep-in-Some.field-0 c.in-Some-2.to c.in-Some-2.is
    c.in_ok-keep-in-Some.ensures.place)))
    (λ less. c.in_ok-join-in-Some-2.ensures.known (omega (arith, less, c.len-count.ensures)))
    (λ past. c.in_ok-join-in-Some-2.ensures.new (omega (arith, past, c.len-count.ensures)))

pub returns-in-None-2-clause-grown : goal.returns-in-None-2-clause-grown
returns-in-None-2-clause-grown g c =
    grown_still c.args.graph.now _ c.requires.grown
    (of_none _ c.in_ok-keep-in-Some.field-0 c.in-None-2.is c.in_ok-keep-in-Some.ensures.same) refl refl
