-- Why `all_counts` in src/gathering.rt keeps its contract and its loop `part`.

use Rattle.std.proofs.Common.{◌∙◌, map-id, subst, sym}
use Rattle.std.proofs.lemmas.Iterator.Adapters.{YieldsList-from_vec}
use Rattle.std.proofs.lemmas.Iterator.Consumers.{YieldsList-end}
use Rattle.std.specs.declared.alloc.AllocError.{AllocError}
use Rattle.ls_batch.proofs.Batched.{AreSoFar, none_so_far, one_so_far}
use Rattle.ls_batch.proofs.gathering.all_counts.Goals as goal

pub loop-part-init : goal.loop-part-init
loop-part-init c = none_so_far AllocError c.new-all.result c.new-all.ensures

pub loop-part-preserved : goal.loop-part-preserved
loop-part-preserved c = one_so_far _ _ c.loop-part.all c.in_ok-counts.counts c.in_ok-sum.sum c.loop-part.invariant
    c.in_ok-counts.was c.in_ok-sum.ensures

pub returns : goal.returns
returns c =
    let gives = c.into_iter-part-iterator.ensures.into_iter_gives in
    let end = YieldsList-end (YieldsList-from_vec c.args.parts.items gives.0 (gives.1 ∙ c.args.parts.ok.0))
    c.loop-part.yielded c.loop-part.part-iterator c.loop-part.yielded_by c.next.result c.next.new.self
    c.in-None.is c.next.ensures.steps in
    subst (λ parts. AreSoFar parts c.loop-part.all) (sym (map-id c.loop-part.yielded) ∙ end.0) c.loop-part.invariant
