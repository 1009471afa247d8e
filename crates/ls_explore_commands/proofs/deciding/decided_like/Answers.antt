-- Why `decided_like` in src/deciding.rt keeps its contract.

use Rattle.std.proofs.Common.{◌≡◌, ◌∙◌, ap}
use Rattle.ls_checked.specs.CheckedTree.{File}
use Rattle.ls_checked.specs.CheckedProgram.{Program}
use Rattle.ls_checked.specs.Plain.{plain_file}
use Rattle.ls_checked.specs.PlainProgram.{plain_program}
use Rattle.ls_faults.specs.Given.{GivesText}
use Rattle.ls_types_checked.specs.CheckedFile.{elaborated_file}
use Rattle.ls_specification.specs.Specification.{spec_file, spec_program}
use Rattle.ls_translation.specs.Texts.{file_of, program_of}
use Rattle.ls_explore_commands.specs.Verdicts.{Decided}
use Rattle.ls_race_reports.proofs.Same.{at_same}
use Rattle.ls_explore_commands.proofs.deciding.decided_like.Goals as goal

pub returns : goal.returns
returns c =
    let s = c.args.like.now in
    let file : spec_file c.own-specification.result ≡ file_of s =
    c.own-specification.ensures.file ∙ ap plain_file c.file.ensures ∙ ap (λ k. (elaborated_file k).file)
    c.checked.ensures
    in
    let program : spec_program c.own-specification.result ≡ program_of s =
    c.own-specification.ensures.program ∙ ap plain_program c.program.ensures in
    at_same (λ (f : File) (p : Program). GivesText (Decided c.args.classes.now f p c.args.image.now c.args.states)
    c.decided.result)
    file program c.decided.ensures
