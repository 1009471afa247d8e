-- What is printed of a run of a program is the text of a history.
use Rattle.std.specs.Prelude.{◌≡◌, ℕ, List, map, Some, Ok}
use Rattle.ls_events.specs.declared.event.Event.{Event as RunEvent}
use Rattle.ls_checked.specs.CheckedProgram.{Program}
use Rattle.ls_checked.specs.PlainProgram.{plain_program}
use Rattle.ls_meaning.specs.Runs.{source_history}
use Rattle.ls_code.specs.Machine.{machine_history}
use Rattle.ls_preservation.specs.Same.{IsCells}
use Rattle.ls_types_elaboration.specs.Trees.{File, Text}
use Rattle.ls_types_elaboration.specs.Elaboration.{ElaboratedFile, elaborated}
use Rattle.ls_types_programs.specs.Programs.{IsTextOf}
use Rattle.ls_image.specs.declared.image.Image.{Image}
use Rattle.ls_image.specs.Images.{Compiles, code_of_image, program_of_image}
use Rattle.ls_report.specs.Events.{Event}
use Rattle.ls_report.specs.Printing.{named, run_text}
use Rattle.ls_report.specs.Reading.{Says}

-- each event has the names of its call, and the text has the lines of a history of the events with these names
pub record IsReadable (p : Program) (history : List RunEvent) : Type 0 where
  pub events : List Event
  pub is_named : map (named p) history ≡ map Some events
  pub says : Says (run_text p history) events

-- each source run of a program text, for a class text's tree that keeps every rule
abbrev pub SourceIsReadable : Type 0
SourceIsReadable =
    (f : File) (o : ElaboratedFile) (text : Text) (p : Program) → elaborated f ≡ Ok o → IsTextOf o p text
    → (schedule : List ℕ) → IsReadable p (source_history o.file p schedule)

-- each run of what two texts are compiled to
abbrev pub CompiledIsReadable : Type 0
CompiledIsReadable =
    (classes text : Text) (image : Image) → Compiles classes text image → (cells : ℕ) →
    IsCells (code_of_image image) cells
    → (schedule : List ℕ) → IsReadable (plain_program (program_of_image image))
    (machine_history (code_of_image image) cells schedule)
