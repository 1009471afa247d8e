-- Why `answers` in src/silent.rt keeps its clauses.

use Rattle.std.proofs.Common.{◌∙◌, ap, inl, subst, sym}
use Rattle.std.specs.Prelude.{IfSome}
use Rattle.ls_checked.specs.PlainProgram.{plain_program}
use Rattle.ls_checked.specs.declared.program.Program.{Program}
use Rattle.ls_find_commands.specs.Entries.{IsEntry}
use Rattle.ls_find_commands.specs.Silent.{setup_answers}
use Rattle.ls_find_commands.proofs.silent.answers.Goals as goal

pub returns-in-Some-clause-none : goal.returns-in-Some-clause-none
returns-in-Some-clause-none c =
    let entry = subst (λ o. IfSome o (IsEntry c.args.classes.now c.args.making.now c.args.calls.now)) c.in-Some.is
    c.in_ok-image.ensures.some in
    let answer = c.setup_answers.ensures ∙
    ap (λ (p : Program). setup_answers (plain_program p)) c.program.ensures in
    λ none. (c.in-Some.image, entry, sym answer ∙ none)

pub returns-in-Some-clause-one : goal.returns-in-Some-clause-one
returns-in-Some-clause-one c =
    let entry = subst (λ o. IfSome o (IsEntry c.args.classes.now c.args.making.now c.args.calls.now)) c.in-Some.is
    c.in_ok-image.ensures.some in
    let answer = c.setup_answers.ensures ∙
    ap (λ (p : Program). setup_answers (plain_program p)) c.program.ensures in
    λ some. inl (c.in-Some.image, entry, sym answer ∙ some)
