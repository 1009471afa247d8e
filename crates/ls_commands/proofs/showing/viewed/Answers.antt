-- Why `viewed` in src/showing.rt keeps its contract.

use Rattle.std.proofs.Common.{◌∙◌, ap, refl}
use Rattle.std.proofs.lemmas.Result.{err_from_is_err_and}
use Rattle.ls_labels.specs.Names.{names_of}
use Rattle.ls_commands.specs.Viewed.{shown}
use Rattle.ls_commands.proofs.ViewedLemmas.{schedule_fails, schedule_shows}
use Rattle.ls_commands.proofs.showing.viewed.Goals as goal

pub returns-in_err-schedule : goal.returns-in_err-schedule
returns-in_err-schedule c =
    let p = err_from_is_err_and c.from_residual.result c.from_residual.ensures.1 in
    rw (p.1, p.2) (schedule_fails c.args.view (names_of c.args.names) c.args.names.program.now c.args.schedule.now
    c.in_err-schedule.field-0.0 refl c.in_err-schedule.ensures)

pub returns : goal.returns
returns c =
    schedule_shows c.args.view (names_of c.args.names) c.args.names.program.now c.args.schedule.now _ _ refl
    c.in_ok-schedule.ensures
    (c.in_ok-shown.ensures ∙ ap (shown c.args.view (names_of c.args.names)) c.steps.ensures)
