-- Why `ordered` in src/serial_ordering.rt keeps its contract.

use Rattle.std.proofs.Common.{◌∙◌, ap, List, map, subst, sym, string_bytes}
use Rattle.std.proofs.lemmas.Result.{err_from_is_err_and}
use Rattle.ls_checked.specs.CheckedTree.{File}
use Rattle.ls_checked.specs.Plain.{plain_file}
use Rattle.ls_checked.specs.PlainProgram.{plain_program}
use Rattle.ls_report.specs.Events.{Event}
use Rattle.ls_report.specs.Plain.{plain_event}
use Rattle.ls_report.specs.Reading.{Says}
use Rattle.ls_events.specs.declared.event.Event.{Event as RunEvent}
use Rattle.ls_serial_orders.specs.Named.{AreNamed, IsRunOf}
use Rattle.ls_serial_orders.specs.Telling.{Tells}
use Rattle.ls_types_checked.specs.CheckedFile.{elaborated_file}
use Rattle.ls_commands.proofs.SerialLemmas.{foreign_fails, history_fails, order_told}
use Rattle.ls_commands.proofs.serial_ordering.ordered.Goals as goal

pub returns-in_err-history-2 : goal.returns-in_err-history-2
returns-in_err-history-2 c =
    let p = err_from_is_err_and c.from_residual-in_err-history-2.result c.from_residual-in_err-history-2.ensures.1 in
    rw (p.1, p.2) (history_fails (elaborated_file c.args.checked.now) (plain_program c.args.program.now)
    c.args.history.now
    c.as_str.result.now c.in_err-history-2.field-0.0 (c.as_str.ensures.value ∙ c.in_ok-history.ensures)
    c.in_err-history-2.ensures.fault)

pub returns-in-Run : goal.returns-in-Run
returns-in-Run c =
    let p = plain_program c.args.program.now in
    let run = c.as_slice.result.now in
    let named = subst (IsRunOf p (map plain_event c.events.result.now)) c.in-Run.is c.in_ok-run.ensures in
    order_told (elaborated_file c.args.checked.now) p c.args.history.now c.as_str.result.now
    (map plain_event c.events.result.now) run (string_bytes c.in_ok-text-in-Run.text)
    (c.as_str.ensures.value ∙ c.in_ok-history.ensures)
    (subst (Says c.as_str.result.now) (sym c.events.ensures) c.in_ok-history-2.ensures.found)
    (subst (λ (rs : List RunEvent). AreNamed p rs (map plain_event c.events.result.now)) (sym c.as_slice.ensures.value)
    named)
    (subst (λ (f : File). (events : List Event) → AreNamed p run events →
    Tells f p run events (string_bytes c.in_ok-text-in-Run.text)) (ap plain_file c.file.ensures)
    c.in_ok-text-in-Run.ensures)

pub returns : goal.returns
returns c =
    let p = plain_program c.args.program.now in
    foreign_fails (elaborated_file c.args.checked.now) p c.args.history.now c.as_str.result.now
    (map plain_event c.events.result.now) c.in-Foreign.at (c.as_str.ensures.value ∙ c.in_ok-history.ensures)
    (subst (Says c.as_str.result.now) (sym c.events.ensures) c.in_ok-history-2.ensures.found)
    (subst (IsRunOf p (map plain_event c.events.result.now)) c.in-Foreign.is c.in_ok-run.ensures)
