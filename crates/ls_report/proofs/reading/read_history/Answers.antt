-- Why `read_history` in src/reading.rt keeps its clause `accepts`.

use Rattle.std.proofs.Common.{◌≡◌, ◌∙◌, ◌<◌, ◌^◌, length, map, true, List, Err}
use Rattle.ls_report.specs.Discipline.{is_history}
use Rattle.ls_report.specs.Events.{Event, Text}
use Rattle.ls_report.specs.Lines.{history_text}
use Rattle.ls_report.specs.Plain.{plain_event}
use Rattle.ls_report.specs.Reading.{Explains, IsReadAs}
use Rattle.ls_report.specs.declared.fault.HistoryFault.{HistoryFault}
use Rattle.ls_report.specs.declared.fault.HistoryFault.TheVariants as faults
use Rattle.ls_report.proofs.Unique.{no_break, one_history}
use Rattle.ls_report.proofs.reading.read_history.Goals as goal

fault_read : (text : Text) (f : HistoryFault) (es : List Event) →
    length text < 2 ^ 64 →
    Explains text f →
    is_history es ≡ true →
    text ≡ history_text es →
    IsReadAs es (Err f)
fault_read text faults.Memory es fits x h e = tt
fault_read text (faults.BadHistory at) es fits x h e = no_break text at es fits h e x

pub returns-in-Ok-clause-accepts : goal.returns-in-Ok-clause-accepts
returns-in-Ok-clause-accepts c = λ es h e.
    c.from_events.ensures ∙ one_history c.args.text.now es (map plain_event c.in-Ok.events.items)
    c.read_events.ensures.fits h e c.in-Ok.ensures.found

pub returns-in-Err-clause-accepts : goal.returns-in-Err-clause-accepts
returns-in-Err-clause-accepts c = λ es h e. fault_read c.args.text.now c.in-Err.fault es c.read_events.ensures.fits
    c.in-Err.ensures.fault h e
