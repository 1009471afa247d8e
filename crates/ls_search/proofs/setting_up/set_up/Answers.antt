-- Why `set_up` in src/setting_up.rt keeps its clause `stands` and its loop `steps`.

use Rattle.std.proofs.Common.{replicate, sym, subst, ◌∙◌}
use Rattle.ls_checked.specs.CheckedTree.{File}
use Rattle.ls_checked.specs.CheckedProgram.{Program}
use Rattle.ls_checked.specs.Plain.{plain_file}
use Rattle.ls_checked.specs.PlainProgram.{plain_program}
use Rattle.ls_source.specs.Progress.{Progress}
use Rattle.ls_source.specs.Stands.{StandsFor}
use Rattle.ls_search.specs.Runs.{progress_at}
use Rattle.ls_search.proofs.Progressing.{gone_up, stayed_up, up_more, up_none}
use Rattle.ls_search.proofs.setting_up.set_up.Goals as goal

pub loop-steps-init : goal.loop-steps-init
loop-steps-init c = record {
  stands = c.in_ok-playing.ensures;
  up = up_none (plain_file c.args.file.now) (plain_program c.args.program.now);
}

pub loop-steps-preserved : goal.loop-steps-preserved
loop-steps-preserved c =
    let file : File = plain_file c.args.file.now in
    let program : Program = plain_program c.args.program.now in
    let p : Progress = progress_at file program (replicate c.loop-steps.steps 0) in
    record {
      stands = subst (λ (q : Progress). StandsFor c.step.new.self q) (gone_up file program c.loop-steps.steps)
          (c.in_ok-did.ensures.run p c.loop-steps.invariant.stands);
      up = up_more file program c.loop-steps.steps c.in_ok-did.did c.loop-steps.invariant.up
          (c.in_ok-did.ensures.did p c.loop-steps.invariant.stands)
          (sym c.has_acted.ensures.is ∙ c.if-not-has_acted.false);
    }

pub returns-then-not-has_acted-clause-stands : goal.returns-then-not-has_acted-clause-stands
returns-then-not-has_acted-clause-stands c =
    let file : File = plain_file c.args.file.now in
    let program : Program = plain_program c.args.program.now in
    let p : Progress = progress_at file program (replicate c.loop-steps.steps 0) in
    subst (λ (q : Progress). StandsFor c.step.new.self q)
    (stayed_up file program c.loop-steps.steps c.in_ok-did.did
    (c.in_ok-did.ensures.did p c.loop-steps.invariant.stands) (sym c.has_acted.ensures.is ∙ c.if-not-has_acted.true))
    (c.in_ok-did.ensures.run p c.loop-steps.invariant.stands)
