-- Why `costs` in src/costs.rt keeps its contract.
use Rattle.std.proofs.Common.{sym, ap, ◌∙◌}
use Rattle.ls_graph.specs.Costs.{costs}
use Rattle.ls_graph.proofs.Changes.{costs_changes, costs_steps}
use Rattle.ls_graph.proofs.costs.costs.Goals as goal

pub returns-in-Changes : goal.returns-in-Changes
returns-in-Changes c =
    c.changes.ensures.is
    ∙ sym (costs_changes 0 c.args.steps.now)
    ∙ ap (λ k. costs k 0 c.args.steps.now) (sym c.in-Changes.is)

pub returns-in-Steps : goal.returns-in-Steps
returns-in-Steps c =
    sym (costs_steps 0 c.args.steps.now) ∙ ap (λ k. costs k 0 c.args.steps.now) (sym c.in-Steps.is)
