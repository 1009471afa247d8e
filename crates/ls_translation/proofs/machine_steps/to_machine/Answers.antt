-- Why `to_machine` in src/machine_steps.rt keeps its clauses `history` and `alike`.

use Rattle.std.proofs.Common.{ap, ◌∙◌}
use Rattle.ls_code.specs.Machine.{loaded}
use Rattle.ls_translation.specs.Texts.{file_of, program_of}
use Rattle.ls_translation.proofs.Promises.{if_alike, if_history, is_loaded, on_loaded}
use Rattle.ls_translation.proofs.machine_steps.to_machine.Goals as goal

pub returns-clause-history : goal.returns-clause-history
returns-clause-history c =
    let file = file_of c.args.image.now in
    let program = program_of c.args.image.now in
    if_history file program c.args.image.now.code c.args.cells c.args.schedule.now c.machine_steps.result
    c.args.image.now.kept
    (is_loaded c.args.image.now.code c.code.result.now c.args.cells _ _ c.code.ensures c.in_ok-machine.ensures.bad)
    c.machine_steps.ensures.fits
    (on_loaded file program c.args.image.now.code c.args.cells c.args.schedule.now c.in_ok-machine.machine
    c.machine_steps.result (c.in_ok-machine.ensures.loaded ∙ ap (λ p. loaded p c.args.cells) c.code.ensures)
    c.machine_steps.ensures.steps)

pub returns-clause-alike : goal.returns-clause-alike
returns-clause-alike c =
    let file = file_of c.args.image.now in
    let program = program_of c.args.image.now in
    if_alike file program c.args.image.now.code c.args.cells c.args.schedule.now c.machine_steps.result
    c.args.image.now.kept
    (is_loaded c.args.image.now.code c.code.result.now c.args.cells _ _ c.code.ensures c.in_ok-machine.ensures.bad)
    c.machine_steps.ensures.fits
    (on_loaded file program c.args.image.now.code c.args.cells c.args.schedule.now c.in_ok-machine.machine
    c.machine_steps.result (c.in_ok-machine.ensures.loaded ∙ ap (λ p. loaded p c.args.cells) c.code.ensures)
    c.machine_steps.ensures.steps)
