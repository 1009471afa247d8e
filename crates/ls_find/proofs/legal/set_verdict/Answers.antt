-- Why `set_verdict` in src/legal.rt keeps its contract.

use Rattle.std.proofs.Common.{inl, subst, sym}
use Rattle.std.proofs.lemmas.Result.{IfOk-weaker}
use Rattle.ls_translation.specs.Texts.{file_of, program_of}
use Rattle.ls_find.specs.Sought.{IsSetVerdict}
use Rattle.ls_find.proofs.Cuts.{fault_cuts, rows_cut}
use Rattle.ls_find.proofs.legal.set_verdict.Goals as goal

pub returns-then-not-found : goal.returns-then-not-found
returns-then-not-found c = λ given.
    let e = c.in-Ok.found in
    let tells = c.in-Ok.ensures.tells in
    inl (rows_cut c.args.states e.setup e.states given (file_of c.args.image.now) (program_of c.args.image.now)
    e.rows.items tells.states (tells.cut c.if-not-found.true))

pub returns-in-Err : goal.returns-in-Err
returns-in-Err c =
    IfOk-weaker c.unknown_by.result _ _
    (λ v said given. subst (IsSetVerdict c.args.states given (file_of c.args.image.now) (program_of c.args.image.now))
    (sym said.0)
    (inl (fault_cuts c.args.states given (file_of c.args.image.now) (program_of c.args.image.now) c.in-Err.fault said.1
    c.in-Err.ensures.only c.in-Err.ensures.states.0 c.in-Err.ensures.endless))) c.unknown_by.ensures
