-- Why `steps_along` in src/graphs.rt keeps its contract and its loop.
use Rattle.std.proofs.Common.{rules}
use Rattle.std.proofs.lemmas.Option.{slice_get-get_or}
use Rattle.ls_search.proofs.Walking.{along_all, along_more}
use Rattle.ls_search.proofs.graphs.steps_along.Goals as goal

pub loop-edge-preserved : goal.loop-edge-preserved
loop-edge-preserved c =
    along_more c.args.path.now c.loop-edge.edge-index _ c.loop-edge.steps.items c.push_times.new.threads.items
    (slice_get-get_or c.args.path.now c.loop-edge.edge-index _ (search rules)) c.loop-edge.invariant
    c.in_ok-push_times.ensures

pub returns : goal.returns
returns c =
    along_all c.args.path.now c.loop-edge.edge-index c.loop-edge.steps.items c.loop-edge.invariant
    c.loop-edge-test.false
