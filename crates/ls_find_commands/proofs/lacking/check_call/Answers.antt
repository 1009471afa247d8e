-- Why `check_call` in src/lacking.rt keeps its clauses.

use Rattle.std.proofs.Common.{inl, inr, refl}
use Rattle.std.proofs.lemmas.Result.{err_from_is_err_and}
use Rattle.ls_find_commands.specs.Lacking.{LacksOrIsNone}
use Rattle.ls_find_commands.proofs.Refusals.{also}
use Rattle.ls_find_commands.proofs.lacking.check_call.Goals as goal

pub returns-in_err-has-clause-lacks : goal.returns-in_err-has-clause-lacks
returns-in_err-has-clause-lacks c =
    let p = err_from_is_err_and c.from_residual.result c.from_residual.ensures.1 in
    rw (p.1, p.2) (also {K = LacksOrIsNone c.args.choosing c.args.reference.now c.args.classes.now c.args.making.now
    c.args.call.now c.in_err-has.field-0.0} inr c.in_err-has.ensures.refused)

pub returns-then-has-clause-has : goal.returns-then-has-clause-has
returns-then-has-clause-has c = c.in_ok-has.ensures.has c.if-has.true

pub returns-in_err-place-clause-lacks : goal.returns-in_err-place-clause-lacks
returns-in_err-place-clause-lacks c =
    let p = err_from_is_err_and c.from_residual-in_err-place.result c.from_residual-in_err-place.ensures.1 in
    rw (p.1, p.2) (inl refl)

pub returns-clause-lacks : goal.returns-clause-lacks
returns-clause-lacks c =
    inr (inl (c.in_ok-place.place, c.in_ok-place.ensures, c.in_ok-has.ensures.lacks c.if-has.false, refl))
