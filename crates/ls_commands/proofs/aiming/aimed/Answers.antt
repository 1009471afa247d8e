-- Why `aimed` in src/aiming.rt keeps its contract.

use Rattle.std.proofs.Common.{refl}
use Rattle.std.proofs.lemmas.Result.{err_from_is_err_and}
use Rattle.ls_labels.specs.Names.{names_of}
use Rattle.ls_commands.proofs.AimedLemmas.{aim_fails, aim_shows}
use Rattle.ls_commands.proofs.aiming.aimed.Goals as goal

pub returns-in_err-schedule : goal.returns-in_err-schedule
returns-in_err-schedule c =
    let p = err_from_is_err_and c.from_residual.result c.from_residual.ensures.1 in
    rw (p.1, p.2) (aim_fails (names_of c.args.names) c.args.targets.now c.in_err-schedule.field-0.0
    c.in_err-schedule.ensures)

pub returns : goal.returns
returns c =
    aim_shows (names_of c.args.names) c.args.names.program.now c.args.targets.now _ _ refl c.in_ok-schedule.ensures
    c.in_ok-print_schedule.ensures
