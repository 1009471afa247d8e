-- Why `has_call` in src/lacking.rt keeps its clauses.

use Rattle.std.proofs.Common.{◌∙◌, inl, inr, refl, subst}
use Rattle.std.proofs.lemmas.Result.{IfOk-weaker, err_from_is_err_and}
use Rattle.ls_checked.specs.PlainProgram.{plain_program}
use Rattle.ls_checked.specs.declared.program.Program.{Program}
use Rattle.ls_families.specs.Texts.{alone_text}
use Rattle.ls_image.specs.Images.{Compiles}
use Rattle.ls_specified.specs.Specified.{IsNoSpecification, Specifies}
use Rattle.ls_find_commands.specs.Lacking.{IsNoReference}
use Rattle.ls_find_commands.proofs.lacking.has_call.Goals as goal

pub returns-in_err-text-clause-refused : goal.returns-in_err-text-clause-refused
returns-in_err-text-clause-refused c =
    let p = err_from_is_err_and c.from_residual.result c.from_residual.ensures.1 in
    rw (p.1, p.2) (inl refl)

pub returns-in_err-image-clause-refused : goal.returns-in_err-image-clause-refused
returns-in_err-image-clause-refused c =
    let p = err_from_is_err_and c.from_residual-in_err-image.result c.from_residual-in_err-image.ensures.1 in
    let is = c.as_str.ensures.value ∙ c.in_ok-text.ensures in
    rw (p.1, p.2) (inr (subst (λ t. IsNoReference c.args.reference.now t c.in_err-image.field-0.0) is
    c.in_err-image.ensures.refused))

pub returns-in-Ok-clause-has : goal.returns-in-Ok-clause-has
returns-in-Ok-clause-has c = λ _.
    let s = c.in_ok-image.image in
    let text = alone_text c.args.making.now 0 c.args.call.now in
    let compiled = subst (λ t. Compiles c.args.reference.now t s) (c.as_str.ensures.value ∙ c.in_ok-text.ensures)
    c.in_ok-image.ensures.compiled in
    let told = subst (λ t. Specifies c.args.classes.now t (plain_program c.program.result.now) c.in-Ok.field-0)
    (c.as_str-2.ensures.value ∙ c.in_ok-text.ensures) c.in-Ok.ensures.some in (
      s,
      compiled,
      (
        c.in-Ok.field-0,
        subst (λ (q : Program). Specifies c.args.classes.now text (plain_program q) c.in-Ok.field-0) c.program.ensures
            told,
      ),
    )

pub returns-clause-lacks : goal.returns-clause-lacks
returns-clause-lacks c =
    let s = c.in_ok-image.image in
    let f = c.in-Err.fault in
    let text = alone_text c.args.making.now 0 c.args.call.now in
    let compiled = subst (λ t. Compiles c.args.reference.now t s) (c.as_str.ensures.value ∙ c.in_ok-text.ensures)
    c.in_ok-image.ensures.compiled in
    let told = subst (λ t. IsNoSpecification c.args.classes.now t (plain_program c.program.result.now) f)
    (c.as_str-2.ensures.value ∙ c.in_ok-text.ensures) c.in-Err.ensures.none in
    let not = subst (λ (q : Program). IsNoSpecification c.args.classes.now text (plain_program q) f)
    c.program.ensures told in
    IfOk-weaker c.is_lacking.result _ _ (λ has h. λ no. (s, compiled, (f, not, h.1))) c.is_lacking.ensures.lacking
