-- Why `text_at` in src/faulty.rt keeps its clauses.

use Rattle.std.proofs.Common.{◌∙◌, ap, sym}
use Rattle.std.specs.Prelude.{slice_get}
use Rattle.ls_families.specs.Families.{Family, plans}
use Rattle.ls_families.specs.Texts.{plan_text}
use Rattle.ls_find_commands.proofs.faulty.text_at.Goals as goal

pub returns-in_ok-print_plan-in-Some-clause-some : goal.returns-in_ok-print_plan-in-Some-clause-some
returns-in_ok-print_plan-in-Some-clause-some c = record {
  plan = c.in-Some.plan;
  there = ap (λ (f : Family). slice_get (plans f) c.args.number) (sym c.family.ensures) ∙ sym c.in_ok-plan.ensures ∙
      c.in-Some.is;
  is = c.in_ok-print_plan-in-Some.ensures ∙ ap (λ m. plan_text m c.in-Some.plan) c.menu.ensures;
}

pub returns-in-None-clause-none : goal.returns-in-None-clause-none
returns-in-None-clause-none c = λ none.
    ap (λ (f : Family). slice_get (plans f) c.args.number) (sym c.family.ensures) ∙ sym c.in_ok-plan.ensures ∙
    c.in-None.is
