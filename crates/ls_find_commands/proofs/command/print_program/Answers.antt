-- Why `print_program` in src/command.rt keeps its contract.

use Rattle.std.proofs.Common.{◌≡◌, ◌∙◌, ◌-◌, ◌≤◌, ap, arith, inl, inr, length, Ok, subst, sym, Some}
use Rattle.std.specs.Prelude.{None, option_map, slice_get, string_bytes}
use Rattle.std.proofs.lemmas.Result.{err_from_is_err_and}
use Rattle.ls_families.specs.Families.{Family, plans}
use Rattle.ls_families.specs.Texts.{plan_text}
use Rattle.ls_family_search.specs.Judged.{Programs, text_of}
use Rattle.ls_items.specs.Cutting.{plain_text}
use Rattle.ls_find_commands.specs.Found.{NoNumber, NoProgram, Prints, PrintsTo}
use Rattle.ls_find_commands.proofs.Ranges.{none_past}
use Rattle.ls_find_commands.proofs.Refusals.{refused}
use Rattle.ls_find_commands.proofs.command.print_program.Goals as goal

pub returns-in_err-made : goal.returns-in_err-made
returns-in_err-made c =
    let menu = option_map plain_text c.args.texts.menu in
    let p = err_from_is_err_and c.from_residual.result c.from_residual.ensures.1 in
    let reference = option_map plain_text c.args.texts.reference in
    rw (p.1, p.2) (refused (PrintsTo c.args.choosing c.args.number reference c.args.texts.classes.now menu)
    c.args.choosing reference c.args.texts.classes.now menu c.in_err-made.field-0.0
    (NoProgram c.in_err-made.field-0.0) c.in_err-made.ensures.refused)

pub returns-then-number-eq0 : goal.returns-then-number-eq0
returns-then-number-eq0 c = NoNumber c.in_ok-made.made c.in_ok-made.ensures.programs (inl c.if-number-eq0.true)

pub returns-in-Some : goal.returns-in-Some
returns-in-Some c =
    let made = c.in_ok-made.made in
    let plan = c.in-Some.plan in
    let family = c.family.ensures ∙ ap (λ (p : Programs). p.family) c.programs-programs.ensures in
    let got : slice_get (plans made.family) (c.args.number - 1) ≡ Some plan =
    ap (λ (f : Family). slice_get (plans f) (c.args.number - 1)) (sym family) ∙ sym c.in_ok-plan.ensures ∙
    c.in-Some.is in
    let text : string_bytes c.in_ok-print_plan-in-Some.field-0 ≡ text_of made plan =
    c.in_ok-print_plan-in-Some.ensures ∙ ap (λ m. plan_text m plan) c.menu.ensures ∙
    ap (λ (p : Programs). text_of p plan) c.programs-programs.ensures in
    subst (λ t. PrintsTo c.args.choosing c.args.number
    (option_map plain_text c.args.texts.reference) c.args.texts.classes.now (option_map plain_text c.args.texts.menu)
    (Ok t)) (sym text)
    (Prints made plan c.in_ok-made.ensures.programs got)

pub returns : goal.returns
returns c =
    let made = c.in_ok-made.made in
    let family = c.family.ensures ∙ ap (λ (p : Programs). p.family) c.programs-programs.ensures in
    let none : slice_get (plans made.family) (c.args.number - 1) ≡ None =
    ap (λ (f : Family). slice_get (plans f) (c.args.number - 1)) (sym family) ∙ sym c.in_ok-plan.ensures ∙
    c.in-None.is in
    let past : length (plans made.family) ≤ c.args.number - 1 =
    none_past (plans made.family) (c.args.number - 1) none in
    NoNumber made c.in_ok-made.ensures.programs (inr (omega (arith, past)))
