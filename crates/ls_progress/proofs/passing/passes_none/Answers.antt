-- Why `passes_none` in src/passing.rt keeps its contract and its loop.
use Rattle.std.proofs.Common.{◌≡◌, Some, refl, sym, ap, ◌∙◌, subst, arith}
use Rattle.std.specs.Prelude.{slice_get, slice_index_or}
use Rattle.std.proofs.lemmas.Bool.{cases_lt}
use Rattle.std.proofs.lemmas.Option.{slice_get-get_or}
use Rattle.ls_graph.specs.declared.closing.Edge.{Edge}
use Rattle.ls_graph.proofs.Lists.{below, some_is}
use Rattle.ls_progress.specs.Cycles.{Acts, HasActing}
use Rattle.ls_progress.proofs.KindLemmas.{by_place}
use Rattle.ls_progress.proofs.passing.passes_none.Goals as goal

pub loop-edge-preserved : goal.loop-edge-preserved
loop-edge-preserved c = λ i e here j f less there from acts.
    let none : Edge = record { from = 0; to = 0; mark = 0; actor = 0 } in
    let edges = c.args.edges.now in
    let index = c.loop-edge.edge-index in
    let one : Edge = slice_index_or edges index none in
    let this : slice_get edges index ≡ Some one = slice_get-get_or edges index none c.loop-edge-test.true in
    by_place (cases_lt j index)
    (λ before. c.loop-edge.invariant i e here j f before there from acts)
    (λ past. let at : j ≡ index = omega (arith, past, less) in
    subst (λ (g : Edge). g.from ≡ e.from → Acts g → HasActing c.args.path.now g.actor)
    (some_is (sym this ∙ ap (slice_get edges) (sym at) ∙ there))
    (λ so on. c.if-is_passed.ensures refl i e here so on) from acts)

pub returns : goal.returns
returns c = λ on. record {
  known = c.if-not-are_known.ensures refl;
  acts = λ i e here j f there from acts.
      let inside = below c.args.edges.now j f there in
      c.loop-edge.invariant i e here j f (omega (arith, inside, c.loop-edge-test.false)) there from acts;
}
