-- Why `played` in src/paging.rt keeps its contract.

use Rattle.std.proofs.Common.{refl}
use Rattle.std.proofs.lemmas.Result.{err_from_is_err_and}
use Rattle.ls_labels.specs.Names.{names_of}
use Rattle.ls_commands.specs.Paged.{wanted_of}
use Rattle.ls_commands.proofs.PagedLemmas.{schedule_fails, schedule_plays}
use Rattle.ls_commands.proofs.paging.played.Goals as goal

pub returns-in_err-schedule : goal.returns-in_err-schedule
returns-in_err-schedule c =
    let p = err_from_is_err_and c.from_residual.result c.from_residual.ensures.1 in
    rw (p.1, p.2) (schedule_fails (wanted_of c.args.wanted) (names_of c.args.names) c.args.names.program.now refl
    c.in_err-schedule.field-0.0 c.in_err-schedule.ensures)

pub returns : goal.returns
returns c =
    schedule_plays (wanted_of c.args.wanted) (names_of c.args.names) c.args.names.program.now refl _ c.steps.result.now
    c.told.result
    c.in_ok-schedule.ensures c.steps.ensures c.told.ensures
