-- Why `followed` in src/choosing.rt keeps its contract.

use Rattle.std.proofs.Common.{refl}
use Rattle.std.proofs.lemmas.Result.{err_from_is_err_and}
use Rattle.ls_labels.specs.Names.{names_of}
use Rattle.ls_page.specs.ChoicesData.{reference_of}
use Rattle.ls_choosing.specs.Chosen.{wanted_of}
use Rattle.ls_choosing.proofs.ChosenLemmas.{schedule_fails, schedule_follows}
use Rattle.ls_choosing.proofs.choosing.followed.Goals as goal

pub returns-in_err-read_schedule : goal.returns-in_err-read_schedule
returns-in_err-read_schedule c =
    let p = err_from_is_err_and c.from_residual.result c.from_residual.ensures.1 in
    rw (p.1, p.2) (schedule_fails (wanted_of c.args.wanted) (reference_of c.args.reference) (names_of c.args.names)
    c.args.names.program.now refl c.in_err-read_schedule.field-0.0 c.in_err-read_schedule.ensures)

pub returns : goal.returns
returns c =
    schedule_follows (wanted_of c.args.wanted) (reference_of c.args.reference) (names_of c.args.names)
    c.args.names.program.now refl _ c.shown.result c.in_ok-read_schedule.ensures c.shown.ensures
