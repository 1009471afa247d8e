-- Why `cycle_along` in src/cycles.rt keeps its contract and its loop.
use Rattle.std.proofs.Common.{◌≡◌, Bool, false, List, sym, ap, ◌∙◌, subst}
use Rattle.std.specs.Prelude.{◌||◌}
use Rattle.ls_graph.specs.declared.closing.Edge.{Edge}
use Rattle.ls_progress.specs.Cycles.{IsAlong}
use Rattle.ls_progress.specs.Kinds.{is_own, kind_of}
use Rattle.ls_progress.proofs.Cycling.{along_more, along_none}
use Rattle.ls_progress.proofs.KindLemmas.{thread_of}
use Rattle.ls_progress.proofs.cycles.cycle_along.Goals as goal

pub loop-place-init : goal.loop-place-init
loop-place-init c =
    let k = kind_of c.args.wanted.kind c.args.wanted.thread in
    subst (λ (l : List Edge). IsAlong k c.args.edges.now c.args.start c.args.start l false)
    (sym c.new-path.ensures.items)
    (along_none k c.args.edges.now c.args.start)

pub loop-place-preserved : goal.loop-place-preserved
loop-place-preserved c =
    let w = c.args.wanted in
    let k = kind_of w.kind w.thread in
    let e : Edge = c.in-Some.edge in
    let own : (c.loop-place.own || is_own k.thread e) ≡ c.joins-own.result =
    ap (λ t. c.loop-place.own || is_own t e) (sym (thread_of w.kind w.thread)) ∙ sym c.joins-own.ensures in
    subst (λ (b : Bool). IsAlong k c.args.edges.now c.args.start e.to c.push.new.self.items b) own
    (subst (λ (l : List Edge). IsAlong k c.args.edges.now c.args.start e.to l (c.loop-place.own || is_own k.thread e))
    (sym c.in_ok-push.ensures.items)
    (along_more k c.args.edges.now c.args.start c.loop-place.at c.loop-place.path.items c.loop-place.own e
    c.loop-place.invariant c.in-Some.ensures.one c.in-Some.ensures.from c.in-Some.ensures.kept))
