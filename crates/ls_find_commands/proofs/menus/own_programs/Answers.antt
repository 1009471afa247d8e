-- Why `own_programs` in src/menus.rt keeps its clauses `refused` and `programs`.

use Rattle.std.proofs.Common.{◌≡◌, ◌∙◌, ◌⊎◌, ap, inr, subst}
use Rattle.std.specs.Prelude.{option_map}
use Rattle.std.proofs.lemmas.Result.{err_from_is_err_and}
use Rattle.ls_class_programs.specs.declared.entry_fault.EntryFault.TheVariants.{Memory}
use Rattle.ls_family_search.specs.Judged.{making_of}
use Rattle.ls_items.specs.Cutting.{plain_text}
use Rattle.ls_find_commands.specs.Found.{EntriesFit, IsUnfit, NoPrograms}
use Rattle.ls_find_commands.proofs.Refusals.{unfit}
use Rattle.ls_find_commands.proofs.menus.own_programs.Goals as goal

pub returns-in_err-made-clause-refused : goal.returns-in_err-made-clause-refused
returns-in_err-made-clause-refused c =
    let p = err_from_is_err_and c.from_residual.result c.from_residual.ensures.1 in
    rw (p.1, p.2) (inr (NoPrograms c.in_err-made.field-0.0 c.in_err-made.ensures.refused))

pub returns-in_err-check_menu-clause-refused : goal.returns-in_err-check_menu-clause-refused
returns-in_err-check_menu-clause-refused c =
    let classes = c.args.classes.now in
    let menu = option_map plain_text c.args.menu in
    let o = c.args.choosing in
    let made = c.in_ok-made.made in
    let making = c.making.ensures ∙ ap making_of c.programs-programs.ensures in
    let p = err_from_is_err_and c.from_residual-in_err-check_menu.result
    c.from_residual-in_err-check_menu.ensures.1 in
    rw (p.1, p.2) (unfit o classes menu made c.in_err-check_menu.field-0.0 c.in_ok-made.ensures.programs
    (subst (λ m. (c.in_err-check_menu.field-0.0 ≡ Memory) ⊎ IsUnfit classes m o.bounds.threads menu
    c.in_err-check_menu.field-0.0) making c.in_err-check_menu.ensures.unfit))

pub returns-clause-programs : goal.returns-clause-programs
returns-clause-programs c =
    let making = c.making.ensures ∙ ap making_of c.programs-programs.ensures in
    record {
      programs = c.in_ok-made.ensures.programs;
      fit = subst (λ m. EntriesFit c.args.classes.now m c.args.choosing.bounds.threads
          (option_map plain_text c.args.menu)) making c.in_ok-check_menu.ensures.fit;
    }
