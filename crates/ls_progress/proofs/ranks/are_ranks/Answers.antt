-- Why `are_ranks` in src/ranks.rt keeps its contract and its loop.
use Rattle.std.proofs.Common.{◌≡◌, Some, true, refl, sym, ap, ◌∙◌, subst, arith}
use Rattle.std.specs.Prelude.{slice_get, slice_index_or}
use Rattle.std.proofs.lemmas.Bool.{cases_lt}
use Rattle.std.proofs.lemmas.Option.{slice_get-get_or}
use Rattle.ls_graph.specs.declared.closing.Edge.{Edge}
use Rattle.ls_graph.proofs.Lists.{below, some_is}
use Rattle.ls_progress.specs.Kinds.{is_kept, kind_of}
use Rattle.ls_progress.specs.Labels.{label_at}
use Rattle.ls_progress.specs.Ranks.{Sinks}
use Rattle.ls_progress.proofs.KindLemmas.{by_place, thread_of}
use Rattle.ls_progress.proofs.ranks.are_ranks.Goals as goal

pub loop-edge-preserved : goal.loop-edge-preserved
loop-edge-preserved c = λ i e less here label kept.
    let none : Edge = record { from = 0; to = 0; mark = 0; actor = 0 } in
    let edges = c.args.edges.now in
    let w = c.args.wanted in
    let index = c.loop-edge.edge-index in
    let one : Edge = slice_index_or edges index none in
    let there : slice_get edges index ≡ Some one = slice_get-get_or edges index none c.loop-edge-test.true in
    by_place (cases_lt i index)
    (λ before. c.loop-edge.invariant i e before here label kept)
    (λ past. let at : i ≡ index = omega (arith, past, less) in
    subst (λ (f : Edge). label_at c.args.labels.now f.from ≡ Some w.call →
    is_kept (kind_of w.kind w.thread) f ≡ true → Sinks w.thread c.args.ranks.now f)
    (some_is (sym there ∙ ap (slice_get edges) (sym at) ∙ here)) (c.if-not-is_ranked.ensures refl) label kept)

pub returns : goal.returns
returns c = λ on i e here label kept.
    let inside = below c.args.edges.now i e here in
    subst (λ t. Sinks t c.args.ranks.now e) (thread_of c.args.wanted.kind c.args.wanted.thread)
    (c.loop-edge.invariant i e (omega (arith, inside, c.loop-edge-test.false)) here label kept)
