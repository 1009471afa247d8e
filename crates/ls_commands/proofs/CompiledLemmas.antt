-- What `compile` and `replay` may answer.
use Rattle.std.proofs.Common.{◌≡◌, ◌∙◌, ◌↔◌, ap, sym, subst, refl, ℕ, List, Result, Ok, Err}
use Rattle.std.specs.Prelude.{IsErrOf, String}
use Rattle.std.specs.Global.{Global}
use Rattle.ls_checked.specs.PlainProgram.{plain_program}
use Rattle.ls_code.specs.Machine.{machine_history}
use Rattle.ls_machine.specs.Room.{AreBadCells}
use Rattle.ls_machine.specs.declared.fault.LoadFault.{LoadFault}
use Rattle.ls_machine.specs.declared.fault.LoadFault.TheVariants as load
use Rattle.ls_image.specs.Images.{code_of_image, program_of_image}
use Rattle.ls_image.specs.declared.image.Image.{Image}
use Rattle.ls_schedule.specs.Records.{happened, IsRecordOf}
use Rattle.ls_schedule.specs.declared.replaying.Record.{Record}
use Rattle.ls_schedule.specs.declared.fault.ScheduleFault.{ScheduleFault}
use Rattle.ls_report.specs.Events.{Text}
use Rattle.ls_report.specs.Printing.{run_text}
use Rattle.ls_commands.proofs.Answering.{not_refused}
use Rattle.ls_commands.specs.Compiled.{Replayed, Runs, NoCells}
use Rattle.ls_faults.specs.Faults.{lifted_cells}
use Rattle.ls_faults.specs.Given.{GivesText}
use Rattle.ls_faults.specs.declared.fault.ToolFault.{ToolFault}

abbrev Refused : LoadFault → Result Record LoadFault
Refused f = Err f

abbrev Recorded : Record → Result Record LoadFault
Recorded r = Ok r

abbrev Failed : ToolFault → Result (String Global) ToolFault
Failed f = Err f

-- no machine has so many cells, or so few
pub cells_fail : (i : Image) (cells : ℕ) (read : Result (List ℕ) ScheduleFault) (steps : List ℕ) (f : LoadFault) →
    read ≡ Ok steps →
    (IsErrOf (Refused f) load.BadCells ↔ AreBadCells (code_of_image i).names cells) →
    GivesText (Replayed i cells read) (Failed (lifted_cells f))
cells_fail i cells read steps load.Memory e h = tt
cells_fail i cells read steps load.BadCells e h = rw e (NoCells steps (h.0 refl))

pub schedule_runs : (i : Image) (cells : ℕ) (read : Result (List ℕ) ScheduleFault) (steps : List ℕ) (r : Record)
    (t : Text) →
    read ≡ Ok steps →
    (IsErrOf (Recorded r) load.BadCells ↔ AreBadCells (code_of_image i).names cells) →
    IsRecordOf (code_of_image i) cells steps r →
    t ≡ run_text (plain_program (program_of_image i)) (happened r) → Replayed i cells read (Ok t)
schedule_runs i cells read steps r t e h is said =
    let text : t ≡ run_text (plain_program (program_of_image i)) (machine_history (code_of_image i) cells steps) = said
    ∙ ap (run_text (plain_program (program_of_image i))) is.history in
    rw e (subst (λ x. Replayed i cells (Ok steps) (Ok x)) (sym text)
    (Runs steps (not_refused r load.BadCells (AreBadCells (code_of_image i).names cells) h)))
