-- Why `are_costs` in src/least.rt keeps its contract and its loop.
use Rattle.std.proofs.Common.{◌≡◌, ◌⊎◌, inl, inr, ◌<◌, ◌≤◌, map, refl, sym, ap, ◌∙◌, subst, arith}
use Rattle.std.specs.Prelude.{slice_get}
use Rattle.std.proofs.lemmas.Bool.{cases_lt}
use Rattle.std.proofs.lemmas.Option.{slice_get-get_or}
use Rattle.ls_graph.specs.Walks.{IsCost}
use Rattle.ls_graph.specs.declared.closing.Edge.{Edge}
use Rattle.ls_graph.proofs.Lists.{below, some_is}
use Rattle.ls_graph.proofs.least.are_costs.Goals as goal

pub loop-edge-preserved : goal.loop-edge-preserved
loop-edge-preserved c = λ i e less here.
    let edges = c.args.edges.now in
    let k = c.loop-edge.edge-index in
    let Is : Edge → Type 0 =
    λ x. IsCost c.args.counted (map (λ v. v.items) c.args.costs.now) c.args.actors c.args.least x in
    let by_place : (i < k) ⊎ (k ≤ i) → Is e = elim [
      | inl h ↦ c.loop-edge.invariant i e h here
      | inr h ↦
          let same : k ≡ i = omega (arith, h, less) in
          subst Is
          (some_is (sym (slice_get-get_or edges k _ c.loop-edge-test.true) ∙ ap (slice_get edges) same ∙ here))
          (c.if-not-is_cost.ensures refl)
    ] in
    by_place (cases_lt i k)

pub returns : goal.returns
returns c = λ done i e here.
    c.loop-edge.invariant i e (omega (arith, below c.args.edges.now i e here, c.loop-edge-test.false)) here
