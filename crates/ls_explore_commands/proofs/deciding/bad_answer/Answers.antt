-- Why `bad_answer` in src/deciding.rt keeps its contract and what `hopeless_line` requires.

use Rattle.std.proofs.Common.{subst, sym}
use Rattle.std.proofs.lemmas.Result.{err_from_is_err_and}
use Rattle.ls_hopeless.specs.Hopeless.{IsHopelessLine}
use Rattle.ls_meaning.specs.Runs.{source_history}
use Rattle.ls_specification.specs.Specification.{spec_file, spec_program}
use Rattle.ls_translation.specs.Texts.{file_of, program_of}
use Rattle.ls_explore_commands.specs.Reports.{bad_text}
use Rattle.ls_explore_commands.specs.Verdicts.{Bad, IsBad}
use Rattle.ls_explore_commands.proofs.Decisions.{same_text, tells, too_long}
use Rattle.ls_explore_commands.proofs.deciding.bad_answer.Goals as goal

pub returns-in_err-run : goal.returns-in_err-run
returns-in_err-run c = λ classes good extent bad.
    let p = err_from_is_err_and c.from_residual.result c.from_residual.ensures.1 in
    rw (p.1, p.2) (too_long classes (spec_file c.args.specification)
    (spec_program c.args.specification) c.args.image.now c.args.extent.limit c.args.steps.now c.in_err-run.field-0.0
    c.in_err-run.ensures.only good (Bad bad))

pub returns : goal.returns
returns c = λ classes good extent bad.
    let i = c.args.image.now in
    let e = c.args.extent in
    let run = c.in_ok-run.run' in
    let sfile = spec_file c.args.specification in
    let sprogram = spec_program c.args.specification in
    let still = c.in_ok-run.ensures.bad bad in
    let text = same_text (λ names threads. bad_text c.as_str.result.now run.fewest names threads run.schedule e.limit
    e.states e.complete) _ _ _ _ _ c.names_in.ensures.names c.names_in.ensures.program c.in_ok-text.ensures in
    tells classes sfile sprogram i e.limit _ _ text
    (IsBad run.schedule c.as_str.result.now run.fewest e.states e.complete good extent still
    (c.in_ok-run.ensures.reads bad.acts) c.in_ok-run.ensures.fewest
    (subst (IsHopelessLine sfile sprogram (program_of i) (source_history (file_of i) (program_of i) run.schedule))
    (sym c.as_str.ensures.value) (c.in_ok-note.ensures still.bad)))

pub hopeless_line-requires : goal.hopeless_line-requires
hopeless_line-requires c = c.requires.named c.in_ok-run.run'.schedule
