-- Why `translated` in src/translating.rt keeps its contract.

use Rattle.std.proofs.Common.{◌≡◌, ◌∙◌, ap, subst, Ok}
use Rattle.std.proofs.lemmas.Result.{err_from_is_err_and}
use Rattle.ls_schedule.specs.Answers.{Fails}
use Rattle.ls_schedule.specs.Printing.{schedule_text}
use Rattle.ls_schedule.specs.Reading.{schedule_of, thread_names}
use Rattle.ls_commands.specs.Compiled.{names_of_image}
use Rattle.ls_commands.specs.Translated.{NoSchedule, Translated}
use Rattle.ls_faults.proofs.Answering.{unread}
use Rattle.ls_commands.proofs.TranslatedLemmas.{turn_fails, turn_told}
use Rattle.ls_commands.proofs.translating.translated.Goals as goal

pub returns-in_err-schedule : goal.returns-in_err-schedule
returns-in_err-schedule c =
    let p = err_from_is_err_and c.from_residual.result c.from_residual.ensures.1 in
    let f = c.in_err-schedule.field-0.0 in
    let s = c.args.schedule.now in
    rw (p.1, p.2) (unread (Translated c.args.image.now c.args.to c.args.cells) NoSchedule
    (schedule_of (names_of_image c.args.image.now) s) f
    (subst (λ q. Fails f (schedule_of (thread_names q) s)) c.program.ensures c.in_err-schedule.ensures))

pub returns-in_err-steps : goal.returns-in_err-steps
returns-in_err-steps c =
    let p = err_from_is_err_and c.from_residual-in_err-steps.result c.from_residual-in_err-steps.ensures.1 in
    let image = c.args.image.now in
    let s = c.args.schedule.now in
    let steps = c.in_ok-schedule.schedule in
    let read = subst (λ q. schedule_of (thread_names q) s ≡ Ok steps) c.program.ensures c.in_ok-schedule.ensures in
    rw (p.1, p.2) (turn_fails image c.args.cells steps c.args.to (schedule_of (names_of_image image) s) read
    c.in_err-steps.field-0.0 c.in_err-steps.ensures)

pub returns : goal.returns
returns c =
    let image = c.args.image.now in
    let s = c.args.schedule.now in
    let steps = c.in_ok-schedule.schedule in
    let read = subst (λ q. schedule_of (thread_names q) s ≡ Ok steps) c.program.ensures c.in_ok-schedule.ensures in
    let said = c.in_ok-print_schedule.ensures ∙ ap (λ q. schedule_text (thread_names q) c.in_ok-steps.steps)
    c.program-2.ensures in
    turn_told image c.args.cells steps c.args.to (schedule_of (names_of_image image) s) read c.in_ok-steps.steps _
    c.in_ok-steps.ensures said
