-- Why `show` in src/showing.rt keeps its contract.

use Rattle.std.proofs.lemmas.Result.{err_from_is_err_and}
use Rattle.ls_types_checked.specs.CheckedFile.{elaborated_file}
use Rattle.ls_types_elaboration.specs.PlacedStatements.{placed_file}
use Rattle.ls_commands.proofs.ViewedLemmas.{check_fails, checked_runs, text_fails, err_of}
use Rattle.ls_commands.proofs.showing.show.Goals as goal

pub returns-in_err-parsed : goal.returns-in_err-parsed
returns-in_err-parsed c =
    let p = err_from_is_err_and c.from_residual.result c.from_residual.ensures.1 in
    rw (p.1, p.2) (text_fails c.args.view c.args.classes.now c.args.program.now c.args.schedule.now
    c.in_err-parsed.field-0.0 c.in_err-parsed.ensures.refused
    (record {
      may = c.in_err-parsed.ensures.comes;
      long = λ l.
          err_of c.in_err-parsed.field-0.0 (c.in_err-parsed.ensures.long l);
    }))

pub returns-in_err-checked : goal.returns-in_err-checked
returns-in_err-checked c =
    let p = err_from_is_err_and c.from_residual-in_err-checked.result c.from_residual-in_err-checked.ensures.1 in
    rw (p.1, p.2) (check_fails c.args.view c.args.classes.now c.args.program.now c.args.schedule.now
    (placed_file c.in_ok-parsed.parsed) c.in_err-checked.field-0.0 c.in_ok-parsed.ensures.file
    c.in_err-checked.ensures.refused)

pub returns : goal.returns
returns c =
    checked_runs c.source_is_readable.ensures c.args.view c.args.classes.now c.args.program.now c.args.schedule.now
    (placed_file c.in_ok-parsed.parsed) (elaborated_file c.in_ok-checked.checked) c.run.result
    c.in_ok-parsed.ensures.file c.in_ok-checked.ensures.checked c.run.ensures
