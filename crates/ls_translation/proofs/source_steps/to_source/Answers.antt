-- Why `to_source` in src/source_steps.rt keeps its clauses `history` and `alike`.

use Rattle.std.proofs.Common.{ap, ◌∙◌}
use Rattle.ls_code.specs.Machine.{loaded}
use Rattle.ls_translation.specs.Acting.{acting}
use Rattle.ls_translation.proofs.Promises.{back_alike, back_history, is_loaded}
use Rattle.ls_translation.proofs.source_steps.to_source.Goals as goal

pub returns-clause-history : goal.returns-clause-history
returns-clause-history c =
    back_history _ _ c.args.image.now.code c.args.cells c.args.image.now.kept
    (is_loaded c.args.image.now.code c.code.result.now c.args.cells _ _ c.code.ensures c.in_ok-machine.ensures.bad)
    c.args.schedule.now _
    (c.in_ok-acting_steps.ensures ∙ ap (λ m. acting m c.args.schedule.now)
    (c.in_ok-machine.ensures.loaded ∙ ap (λ p. loaded p c.args.cells) c.code.ensures))

pub returns-clause-alike : goal.returns-clause-alike
returns-clause-alike c =
    back_alike _ _ c.args.image.now.code c.args.cells c.args.image.now.kept
    (is_loaded c.args.image.now.code c.code.result.now c.args.cells _ _ c.code.ensures c.in_ok-machine.ensures.bad)
    c.args.schedule.now _
    (c.in_ok-acting_steps.ensures ∙ ap (λ m. acting m c.args.schedule.now)
    (c.in_ok-machine.ensures.loaded ∙ ap (λ p. loaded p c.args.cells) c.code.ensures))
