-- Why `own` in src/specified.rt keeps its contract.

use Rattle.std.proofs.Common.{◌∙◌, ap}
use Rattle.ls_checked.specs.Plain.{plain_file}
use Rattle.ls_checked.specs.PlainProgram.{plain_program}
use Rattle.ls_types_checked.specs.CheckedFile.{elaborated_file}
use Rattle.ls_find.proofs.specified.own.Goals as goal

pub returns-clause-file : goal.returns-clause-file
returns-clause-file c =
    c.own.ensures.file ∙ ap plain_file c.file.ensures ∙ ap (λ k. (elaborated_file k).file) c.checked.ensures

pub returns-clause-program : goal.returns-clause-program
returns-clause-program c = c.own.ensures.program ∙ ap plain_program c.program.ensures
