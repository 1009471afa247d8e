-- Why `all_threads` in src/reading.rt keeps its loop `before`.

use Rattle.std.proofs.Common.{◌∙◌, ◌++◌, ◌+◌, ◌∷◌, [], ap, sym}
use Rattle.ls_schedule.proofs.Steps.{range_more}
use Rattle.ls_schedule.proofs.reading.all_threads.Goals as goal

pub loop-before-preserved : goal.loop-before-preserved
loop-before-preserved c =
    c.in_ok-push.ensures.items ∙ ap (λ xs. xs ++ (c.loop-before.before + 1) ∷ []) c.loop-before.invariant ∙
    sym (range_more c.loop-before.before)
