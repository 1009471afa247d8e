-- Why `seeds_from` in src/batching.rt keeps its loop `i`.

use Rattle.std.proofs.Common.{◌+◌, ℕ, List, [], ◌∷◌, ◌++◌, ap, ◌∙◌, sym, arith}
use Rattle.std.proofs.lemmas.List.FromFn.{map-range_with_len_more}
use Rattle.ls_batch.proofs.batching.seeds_from.Goals as goal

pub loop-i-preserved : goal.loop-i-preserved
loop-i-preserved c =
    c.in_ok-push.ensures.items
    ∙ (ap (λ (xs : List ℕ). xs ++ (c.args.first + c.loop-i.i) ∷ []) c.loop-i.invariant ∙
    sym (map-range_with_len_more (λ i. c.args.first + i) 0 c.loop-i.i c.loop-i.i (omega arith)))
