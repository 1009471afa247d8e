-- Why `reach_of` in src/reach.rt keeps its clause `reach`.

use Rattle.std.proofs.Common.{refl}
use Rattle.std.specs.Prelude.{slice_index_or}
use Rattle.ls_choices.specs.Seen.{graph_of}
use Rattle.ls_choices.proofs.Cutting.{all_are_walks, not_both}
use Rattle.ls_choices.proofs.Walking.{walks_up_to}
use Rattle.ls_choices.proofs.reach.reach_of.Goals as goal

pub returns-then-not-leaves_out-clause-reach : goal.returns-then-not-leaves_out-clause-reach
returns-then-not-leaves_out-clause-reach c = λ closed.
    all_are_walks c.args.count (graph_of c.args.choices.now) closed (λ left.
    not_both (c.leaves_out.ensures.1 left) c.if-not-leaves_out.true)

pub returns-then-are_kept-clause-reach : goal.returns-then-are_kept-clause-reach
returns-then-are_kept-clause-reach c = λ closed.
    walks_up_to c.fewest_to_cut-steps.result c.args.count (λ n. slice_index_or c.deref-2.result.now n 0)
    (graph_of c.args.choices.now) (c.if-are_kept.ensures refl)
