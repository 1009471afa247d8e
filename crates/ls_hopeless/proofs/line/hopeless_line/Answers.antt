-- Why `hopeless_line` in src/line.rt keeps its contract.

use Rattle.std.proofs.Common.{◌≡◌, ◌∙◌, ap}
use Rattle.ls_checked.specs.CheckedProgram.{Program}
use Rattle.ls_checked.specs.CheckedTree.{File}
use Rattle.ls_checked.specs.Plain.{plain_file}
use Rattle.ls_checked.specs.PlainProgram.{plain_program}
use Rattle.ls_meaning.specs.Runs.{source_history}
use Rattle.ls_specification.specs.Specification.{spec_file, spec_program}
use Rattle.ls_translation.specs.Texts.{file_of, program_of}
use Rattle.ls_types_checked.specs.CheckedFile.{elaborated_file}
use Rattle.ls_hopeless.proofs.Lines.{at_run}
use Rattle.ls_hopeless.proofs.line.hopeless_line.Goals as goal

pub returns : goal.returns
returns c =
    let i = c.args.image.now in
    let file : plain_file c.file-file.result.now ≡ file_of i =
    ap plain_file c.file-file.ensures ∙ ap (λ k. (elaborated_file k).file) c.checked.ensures in
    let program : plain_program c.program-program.result.now ≡ program_of i =
    ap plain_program c.program-program.ensures in
    let history : c.as_slice.result.now ≡ source_history (file_of i) (program_of i) c.args.schedule.now =
    c.as_slice.ensures.value ∙ c.in_ok-history.ensures ∙
    ap (λ (f : File). source_history f (plain_program c.program-program.result.now) c.steps.result.now) file ∙
    ap (λ (p : Program). source_history (file_of i) p c.steps.result.now) program ∙
    ap (source_history (file_of i) (program_of i)) c.steps.ensures in
    let read = c.requires in
    at_run (spec_file c.args.specification) (spec_program c.args.specification) c.line_on.result program history
    (c.readable_is_once.ensures (program_of i) _ read.events read.is_named read.says.history) c.line_on.ensures
