-- Why `lived` in src/live_runs.rt keeps its contract.

use Rattle.std.proofs.Common.{◌∙◌, ◌++◌, ap}
use Rattle.std.proofs.lemmas.Result.{err_from_is_err_and}
use Rattle.ls_checked.specs.PlainProgram.{plain_program}
use Rattle.ls_report.specs.Printing.{run_text}
use Rattle.ls_schedule.specs.Printing.{schedule_text}
use Rattle.ls_schedule.specs.Reading.{thread_names}
use Rattle.ls_schedule.specs.Records.{happened, scheduled}
use Rattle.ls_commands.proofs.LivedLemmas.{live_fails, live_runs}
use Rattle.ls_commands.proofs.live_runs.lived.Goals as goal

pub returns-in_err-record : goal.returns-in_err-record
returns-in_err-record g c =
    let p = err_from_is_err_and c.from_residual.result c.from_residual.ensures.1 in
    rw (p.1, p.2) (live_fails c.args.image.now c.args.cells c.args.limit c.in_err-record.field-0.0
    c.in_err-record.ensures.cells c.in_err-record.ensures.limit)

pub returns : goal.returns
returns g c =
    let r = c.in_ok-record.record in
    let said = c.in_ok-record_text.ensures ∙ ap (λ q. schedule_text (thread_names q) (scheduled r) ++
    run_text (plain_program q) (happened r)) c.program.ensures in
    let e = c.in_ok-record.ensures in
    live_runs c.args.image.now c.args.cells c.args.limit r _ e.cells e.limit e.record
    (record { few = e.within; there = e.there; due = e.due; done = e.done }) said
