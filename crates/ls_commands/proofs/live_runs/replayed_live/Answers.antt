-- Why `replayed_live` in src/live_runs.rt keeps its contract.

use Rattle.std.proofs.Common.{◌≡◌, ◌∙◌, ap₂, subst, Ok}
use Rattle.std.proofs.lemmas.Result.{err_from_is_err_and}
use Rattle.ls_checked.specs.PlainProgram.{plain_program}
use Rattle.ls_report.specs.Printing.{run_text}
use Rattle.ls_schedule.specs.Answers.{Fails}
use Rattle.ls_schedule.specs.Reading.{schedule_of, thread_names}
use Rattle.ls_commands.specs.Compiled.{names_of_image, NoSchedule}
use Rattle.ls_commands.specs.Lived.{AsReplayed, ReplayedLive}
use Rattle.ls_faults.proofs.Answering.{unread}
use Rattle.ls_commands.proofs.LivedLemmas.{turns_fail, turns_run}
use Rattle.ls_commands.proofs.live_runs.replayed_live.Goals as goal

pub returns-in_err-schedule : goal.returns-in_err-schedule
returns-in_err-schedule g c =
    let p = err_from_is_err_and c.from_residual.result c.from_residual.ensures.1 in
    let f = c.in_err-schedule.field-0.0 in
    let s = c.args.schedule.now in
    rw (p.1, p.2) (unread (ReplayedLive c.args.image.now c.args.cells) (λ f. AsReplayed _ (NoSchedule f))
    (schedule_of (names_of_image c.args.image.now) s) f
    (subst (λ q. Fails f (schedule_of (thread_names q) s)) c.program.ensures c.in_err-schedule.ensures))

pub returns-in_err-record : goal.returns-in_err-record
returns-in_err-record g c =
    let p = err_from_is_err_and c.from_residual-in_err-record.result c.from_residual-in_err-record.ensures.1 in
    let image = c.args.image.now in
    let s = c.args.schedule.now in
    let steps = c.in_ok-schedule.schedule in
    let read = subst (λ q. schedule_of (thread_names q) s ≡ Ok steps) c.program.ensures c.in_ok-schedule.ensures in
    rw (p.1, p.2) (turns_fail image c.args.cells (schedule_of (names_of_image image) s) steps read
    c.in_err-record.field-0.0 c.in_err-record.ensures.bad c.in_err-record.ensures.spent)

pub returns : goal.returns
returns g c =
    let image = c.args.image.now in
    let s = c.args.schedule.now in
    let steps = c.in_ok-schedule.schedule in
    let read = subst (λ q. schedule_of (thread_names q) s ≡ Ok steps) c.program.ensures c.in_ok-schedule.ensures in
    let said = c.in_ok-print_history.ensures ∙ ap₂ (λ q es. run_text (plain_program q) es) c.program-2.ensures
    c.history.ensures in
    turns_run image c.args.cells (schedule_of (names_of_image image) s) steps read c.in_ok-record.record _
    c.in_ok-record.ensures.bad c.in_ok-record.ensures.record said
