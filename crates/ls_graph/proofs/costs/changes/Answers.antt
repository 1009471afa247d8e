-- Why `changes` in src/costs.rt keeps its loop `actor`.
use Rattle.std.proofs.Common.{arith, rules}
use Rattle.std.proofs.lemmas.Option.{slice_get-get_or}
use Rattle.ls_graph.proofs.Changes.{count_next}
use Rattle.ls_graph.proofs.costs.changes.Goals as goal

pub loop-actor-preserved : goal.loop-actor-preserved
loop-actor-preserved c =
    let inv = c.loop-actor.invariant in
    record {
      so_far = count_next c.args.steps.now c.loop-actor.actor-index c.loop-actor.before _ c.loop-actor.count _
          (slice_get-get_or c.args.steps.now c.loop-actor.actor-index _ (search rules)) inv.so_far
          c.change-count.ensures.is;
      few = omega (arith, inv.few, c.change-count.ensures.few);
    }
