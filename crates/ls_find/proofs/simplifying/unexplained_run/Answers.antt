-- Why `unexplained_run` in src/simplifying.rt keeps its clauses `bad`, `acts` and `fewest`.

use Rattle.std.proofs.Common.{◌≡◌, ◌∙◌, ap, true}
use Rattle.ls_checked.specs.CheckedTree.{File}
use Rattle.ls_checked.specs.CheckedProgram.{Program}
use Rattle.ls_checked.specs.Plain.{plain_file}
use Rattle.ls_checked.specs.PlainProgram.{plain_program}
use Rattle.ls_types_checked.specs.CheckedFile.{elaborated_file}
use Rattle.ls_explore.specs.Rows.{ActAll}
use Rattle.ls_source_judge.specs.Judged.{IsNotLike, IsSimplestUnlike}
use Rattle.ls_translation.specs.Texts.{file_of, program_of}
use Rattle.ls_find.proofs.Simpler.{at_same, by_same}
use Rattle.ls_find.proofs.simplifying.unexplained_run.Goals as goal

pub returns-clause-bad : goal.returns-clause-bad
returns-clause-bad c =
    let i = c.args.image.now in
    let file : plain_file c.file-file.result.now ≡ file_of i =
    ap plain_file c.file-file.ensures ∙ ap (λ k. (elaborated_file k).file) c.checked.ensures in
    let program : plain_program c.program-program.result.now ≡ program_of i =
    ap plain_program c.program-program.ensures in
    by_same (λ (sf : File) (sp : Program) (f : File) (p : Program). IsNotLike sf sp f p c.args.found.now →
    IsNotLike sf sp f p c.in_ok-run.run'.schedule) c.specification_of-specification.ensures.file
    c.specification_of-specification.ensures.program file program c.in_ok-run.ensures.bad

pub returns-clause-acts : goal.returns-clause-acts
returns-clause-acts c =
    let i = c.args.image.now in
    let file : plain_file c.file-file.result.now ≡ file_of i =
    ap plain_file c.file-file.ensures ∙ ap (λ k. (elaborated_file k).file) c.checked.ensures in
    let program : plain_program c.program-program.result.now ≡ program_of i =
    ap plain_program c.program-program.ensures in
    at_same (λ (f : File) (p : Program). ActAll f p c.args.found.now → ActAll f p c.in_ok-run.run'.schedule) file
    program c.in_ok-run.ensures.acts

pub returns-clause-fewest : goal.returns-clause-fewest
returns-clause-fewest c =
    let i = c.args.image.now in
    let file : plain_file c.file-file.result.now ≡ file_of i =
    ap plain_file c.file-file.ensures ∙ ap (λ k. (elaborated_file k).file) c.checked.ensures in
    let program : plain_program c.program-program.result.now ≡ program_of i =
    ap plain_program c.program-program.ensures in
    by_same (λ (sf : File) (sp : Program) (f : File) (p : Program). c.in_ok-run.run'.fewest ≡ true →
    IsSimplestUnlike sf sp f p c.in_ok-run.run'.schedule) c.specification_of-specification.ensures.file
    c.specification_of-specification.ensures.program file program c.in_ok-run.ensures.fewest
