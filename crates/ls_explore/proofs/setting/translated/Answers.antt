-- Why `translated` in src/setting.rt keeps its clauses `fits`, `steps` and `late`.

use Rattle.std.proofs.Common.{◌∙◌, ap, subst}
use Rattle.std.proofs.lemmas.Result.{err_from_is_err_and}
use Rattle.ls_preservation.specs.Same.{Fits}
use Rattle.ls_preservation.specs.Translations.{to_machine}
use Rattle.ls_translation.specs.Texts.{file_of, program_of}
use Rattle.ls_explore.proofs.Refusals.{late_translation}
use Rattle.ls_explore.proofs.setting.translated.Goals as goal

pub returns-clause-fits : goal.returns-clause-fits
returns-clause-fits c =
    subst (Fits (file_of c.args.image.now) (program_of c.args.image.now) c.args.cells) c.in_ok-source.ensures
    c.in_ok-translation.ensures.fits

pub returns-clause-steps : goal.returns-clause-steps
returns-clause-steps c =
    c.in_ok-translation.ensures.steps
    ∙ ap (to_machine (file_of c.args.image.now) (program_of c.args.image.now) c.args.image.now.code c.args.cells)
    c.in_ok-source.ensures

pub returns-in_err-translation-clause-late : goal.returns-in_err-translation-clause-late
returns-in_err-translation-clause-late c =
    let p = err_from_is_err_and c.from_residual-in_err-translation.result
    c.from_residual-in_err-translation.ensures.1 in
    rw (p.1, p.2)
    (late_translation (file_of c.args.image.now) (program_of c.args.image.now) c.args.image.now.code c.args.cells
    c.args.count c.in_err-translation.field-0.0 c.in_ok-source.source c.in_ok-source.ensures
    c.in_err-translation.ensures.bad c.in_err-translation.ensures.unfit c.in_err-translation.ensures.long)
