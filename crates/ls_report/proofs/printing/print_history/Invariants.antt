-- What the loop `event` of `print_history` in src/printing.rt keeps.

use Rattle.std.proofs.Common.{◌≡◌, ◌++◌, drop, string_bytes}
use Rattle.ls_checked.specs.PlainProgram.{plain_program}
use Rattle.ls_report.specs.Printing.{run_text}
use Rattle.ls_report.proofs.printing.print_history.Given as goal

abbrev pub invariant-loop-event : goal.invariant-loop-event
invariant-loop-event l = string_bytes l.out ++ run_text (plain_program l.program) (drop l.event-index l.events) ≡
    run_text (plain_program l.program) l.events
