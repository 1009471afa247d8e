-- Why `followed_by` in src/choosing.rt keeps its contract.

use Rattle.std.proofs.Common.{◌≡◌, ◌∙◌, Some, ap, subst}
use Rattle.std.proofs.lemmas.Result.{err_from_is_err_and}
use Rattle.ls_checked.specs.CheckedProgram.{Program}
use Rattle.ls_checked.specs.CheckedTree.{File}
use Rattle.ls_checked.specs.Plain.{plain_file}
use Rattle.ls_checked.specs.PlainProgram.{plain_program}
use Rattle.ls_faults.proofs.Answering.{fails, wider}
use Rattle.ls_faults.specs.Faults.{lifted_specification}
use Rattle.ls_faults.specs.Given.{GivesText}
use Rattle.ls_labels.specs.Names.{names_of}
use Rattle.ls_report.specs.Events.{Text}
use Rattle.ls_specification.specs.Specification.{spec_file, spec_program}
use Rattle.ls_types_checked.specs.CheckedFile.{elaborated_file}
use Rattle.ls_commands.specs.Compiled.{file_of_image, plain_program_of}
use Rattle.ls_choosing.specs.Chosen.{FollowsLike, FollowsTo, NotSpecified, Specified, referred, wanted_of}
use Rattle.ls_choosing.proofs.choosing.followed_by.Goals as goal

pub returns-in_err-image : goal.returns-in_err-image
returns-in_err-image c =
    let p = err_from_is_err_and c.from_residual.result c.from_residual.ensures.1 in
    let f = c.in_err-image.field-0.0 in
    rw (p.1, p.2) (fails (FollowsLike (wanted_of c.args.wanted) c.args.reference.now (names_of c.args.names))
    (lifted_specification f) (NotSpecified f c.in_err-image.ensures.none))

pub returns : goal.returns
returns c =
    let w = wanted_of c.args.wanted in
    let names = names_of c.args.names in
    let text = c.args.reference.now in
    let s = c.in_ok-image.image in
    let told = c.new-told.result in
    let file : spec_file told.specification ≡ file_of_image s = c.new-told.ensures.file
    ∙ c.own-specification.ensures.file
    ∙ ap plain_file c.file.ensures
    ∙ ap (λ k. (elaborated_file k).file) c.checked.ensures in
    let program : spec_program told.specification ≡ plain_program_of s =
    c.new-told.ensures.program ∙ c.own-specification.ensures.program ∙ ap plain_program c.program.ensures in
    let with_text = subst (λ (t : Text). GivesText (FollowsTo w
    (Some (record { text = t; file = spec_file told.specification; program = spec_program told.specification })) names)
    c.followed.result) c.new-told.ensures.text c.followed.ensures in
    let with_file = subst (λ (f : File). GivesText (FollowsTo w
    (Some (record { text = text; file = f; program = spec_program told.specification })) names)
    c.followed.result) file with_text in
    wider (FollowsTo w (Some (referred text s)) names) (FollowsLike w text names) c.followed.result
    (λ a h. Specified s a c.in_ok-image.ensures.some h)
    (subst (λ (q : Program). GivesText (FollowsTo w
    (Some (record { text = text; file = file_of_image s; program = q })) names) c.followed.result) program with_file)
