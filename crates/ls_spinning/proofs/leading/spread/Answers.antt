-- Why `spread` in src/leading.rt keeps its loop `after`.

use Rattle.ls_spinning.proofs.Marking.{heard_more}
use Rattle.ls_spinning.proofs.leading.spread.Goals as goal

pub loop-after-preserved : goal.loop-after-preserved
loop-after-preserved c = λ loud was.
    heard_more loud c.args.edges.now c.loop-after.marks.items c.mark_back.new.marks.items c.edge_before-edge.ensures.0
    c.edge_before-edge.result c.edge_before-edge.ensures.1 c.in_ok-marked.ensures (c.loop-after.invariant loud was)
