-- Why `set_up` in src/setting.rt keeps its clause `steps`.

use Rattle.std.proofs.Common.{◌≡◌, ℕ, List, replicate, ap, ◌∙◌, slice_get}
use Rattle.ls_checked.specs.CheckedTree.{File}
use Rattle.ls_checked.specs.CheckedProgram.{Program}
use Rattle.ls_code.specs.Code.{Code}
use Rattle.ls_code.specs.Machine.{loaded, machine_run, setup_ended}
use Rattle.ls_preservation.specs.Translations.{to_machine, to_source}
use Rattle.ls_translation.specs.RoundTrips.{acting_steps}
use Rattle.ls_translation.specs.Texts.{file_of, program_of}
use Rattle.ls_explore.proofs.Tellings.{is_set_up, same_threads}
use Rattle.ls_explore.proofs.setting.set_up.Goals as goal

pub returns-clause-steps : goal.returns-clause-steps
returns-clause-steps c =
    let file : File = file_of c.args.image.now in
    let program : Program = program_of c.args.image.now in
    let code : Code = c.args.image.now.code in
    let steps : List ℕ = c.in_ok-steps.steps in
    let fits = c.in_ok-steps.ensures.fits in
    let is : steps ≡ to_machine file program code c.args.cells (replicate c.args.count 0) = c.in_ok-steps.ensures.steps
    in
    let acting : to_source code c.args.cells steps ≡ acting_steps file program (replicate c.args.count 0) =
    ap (to_source code c.args.cells) is ∙ c.translates_back.ensures.to_source_again (replicate c.args.count 0) fits in
    let stands = c.sets_up.ensures file program code c.args.cells c.args.count c.requires.cells c.acts_in_time.ensures
    c.ends_in_time.ensures c.has_setup.ensures (same_threads file program code c.args.image.now.kept) fits
    c.requires.ends.ended c.requires.ends.before in
    is_set_up file program code c.args.cells c.args.image.now.kept c.requires.cells c.args.count steps c.requires.ends
    acting
    (ap (λ ts. (machine_run (loaded code c.args.cells) ts).stopped) is ∙ stands.0)
    (ap (λ ts. setup_ended (slice_get (machine_run (loaded code c.args.cells) ts).threads 0)) is ∙ stands.1)
