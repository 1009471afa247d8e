-- Why `check_calls` in src/checking.rt keeps its clause `good` and its loop `i`.

use Rattle.std.proofs.Common.{◌∙◌, ap, arith, subst}
use Rattle.ls_families.specs.Texts.{alone_text}
use Rattle.ls_image.specs.Images.{Compiles}
use Rattle.ls_image.specs.declared.image.Image.{Image}
use Rattle.ls_class_programs.specs.Entries.{program_of_entry}
use Rattle.ls_class_programs.proofs.EntrySteps.{one_more}
use Rattle.ls_class_programs.proofs.checking.check_calls.Goals as goal

pub loop-i-preserved : goal.loop-i-preserved
loop-i-preserved c =
    let i = c.loop-i.i in
    let is = c.as_str.ensures.value ∙ c.in_ok-program.ensures ∙
    ap (alone_text c.args.making.now i) c.calls.ensures in
    one_more (λ k. (image : Image) × Compiles c.args.classes.now
    (program_of_entry c.args.making.now k c.args.entry.now) image) i c.loop-i.invariant (
      c.in_default.field-0,
      subst (λ t. Compiles c.args.classes.now t c.in_default.field-0) is
          c.in_default.ensures.compiled,
    )

pub returns-clause-good : goal.returns-clause-good
returns-clause-good c = λ i within. c.loop-i.invariant i (omega (arith, within, c.loop-i-test.false))
