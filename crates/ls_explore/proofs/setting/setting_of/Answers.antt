-- Why `setting_of` in src/setting.rt keeps its clause `setting` and its loop `count`.

use Rattle.std.proofs.Common.{◌≡◌, sym, ◌∙◌, subst, arith}
use Rattle.ls_checked.specs.Plain.{plain_file}
use Rattle.ls_checked.specs.PlainProgram.{plain_program}
use Rattle.ls_source.specs.Shown.{progress_of}
use Rattle.ls_explore.specs.Settings.{GoesOnFor}
use Rattle.ls_explore.proofs.Settings.{after_more, goes_all}
use Rattle.ls_explore.proofs.setting.setting_of.Goals as goal

pub loop-count-preserved : goal.loop-count-preserved
loop-count-preserved c =
    after_more (plain_file c.args.file.now) (plain_program c.args.program.now) c.loop-count.count
    (progress_of c.loop-count.run) c.loop-count.invariant
    c.in_ok-has_setup_ended.field-0 c.in_ok-did.did (progress_of c.step.new.self) c.in_ok-has_setup_ended.ensures
    c.if-branch.false c.in_ok-did.ensures.did (sym c.has_acted.ensures.is ∙ c.if-not-has_acted.false)
    c.in_ok-did.ensures.run

pub returns-clause-setting : goal.returns-clause-setting
returns-clause-setting c =
    let all : c.loop-count.count ≡ 100001 = omega arith in
    subst (GoesOnFor (plain_file c.args.file.now) (plain_program c.args.program.now)) all
    (goes_all (plain_file c.args.file.now) (plain_program c.args.program.now) c.loop-count.count
    (progress_of c.loop-count.run) c.loop-count.invariant)
