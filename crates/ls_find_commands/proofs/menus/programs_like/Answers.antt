-- Why `programs_like` in src/menus.rt keeps its clauses `refused` and `programs`.

use Rattle.std.proofs.Common.{◌≡◌, ◌⊎◌, inr, subst}
use Rattle.std.proofs.lemmas.Result.{err_from_is_err_and}
use Rattle.ls_family_search.specs.Judged.{Programs}
use Rattle.ls_faults.specs.declared.fault.ToolFault.TheVariants.{Memory}
use Rattle.ls_find_commands.specs.Found.{Lacks, NoneThere, NotCompiled, NotReference}
use Rattle.ls_find_commands.specs.Lacking.{IsFirstFault, LacksNone}
use Rattle.ls_find_commands.proofs.Refusals.{also}
use Rattle.ls_find_commands.proofs.menus.programs_like.Goals as goal

pub returns-in_err-compile-clause-refused : goal.returns-in_err-compile-clause-refused
returns-in_err-compile-clause-refused c =
    let p = err_from_is_err_and c.from_residual.result c.from_residual.ensures.1 in
    rw (p.1, p.2) (inr (NotCompiled c.in_err-compile.field-0.0 c.in_err-compile.ensures.refused))

pub returns-in_err-check_reference-clause-refused : goal.returns-in_err-check_reference-clause-refused
returns-in_err-check_reference-clause-refused c =
    let p = err_from_is_err_and c.from_residual-in_err-check_reference.result
    c.from_residual-in_err-check_reference.ensures.1 in
    rw (p.1, p.2) (inr (NotReference c.in_err-check_reference.field-0.0 c.in_err-check_reference.ensures))

pub returns-in_err-made-clause-refused : goal.returns-in_err-made-clause-refused
returns-in_err-made-clause-refused c =
    let p = err_from_is_err_and c.from_residual-in_err-made.result c.from_residual-in_err-made.ensures.1 in
    rw (p.1, p.2) (also (NoneThere c.in_err-made.field-0.0) c.in_err-made.ensures.refused)

pub returns-in_err-check_calls-clause-refused : goal.returns-in_err-check_calls-clause-refused
returns-in_err-check_calls-clause-refused c =
    let p = err_from_is_err_and c.from_residual-in_err-check_calls.result
    c.from_residual-in_err-check_calls.ensures.1 in
    let f = c.in_err-check_calls.field-0.0 in
    rw (p.1, p.2) (also (Lacks c.in_ok-made.made f c.in_ok-made.ensures.programs)
    (subst (λ (p : Programs). (f ≡ Memory) ⊎ IsFirstFault c.args.choosing c.args.reference.now c.args.classes.now p f)
    c.programs-programs.ensures c.in_err-check_calls.ensures.first))

pub returns-clause-programs : goal.returns-clause-programs
returns-clause-programs c = (
  c.in_ok-made.ensures.programs,
  subst (λ (p : Programs). LacksNone c.args.reference.now c.args.classes.now p) c.programs-programs.ensures
      c.in_ok-check_calls.ensures.none,
)
