-- Why `explored_verdict` in src/verdict.rt keeps its contract and what it calls with.

use Rattle.std.proofs.Common.{List, inl, subst, sym}
use Rattle.std.proofs.lemmas.Result.{IfOk-weaker}
use Rattle.ls_explore.specs.Rows.{NoneEnds, Told}
use Rattle.ls_explore.specs.declared.rows.Ending.TheVariants.{OutOfCells}
use Rattle.ls_specification.specs.Specification.{given_of}
use Rattle.ls_translation.specs.Texts.{file_of, program_of}
use Rattle.ls_find.specs.Said.{IsVerdict}
use Rattle.ls_find.proofs.Cuts.{fault_cuts, rows_cut}
use Rattle.ls_find.proofs.verdict.explored_verdict.Goals as goal

pub returns-then-not-found : goal.returns-then-not-found
returns-then-not-found c =
    let e = c.in-Ok.found in
    let tells = c.in-Ok.ensures.tells in
    inl (rows_cut c.args.states e.setup e.states (given_of c.args.given) (file_of c.args.image.now)
    (program_of c.args.image.now) e.rows.items tells.states (tells.cut c.if-not-found.true))

pub whole_verdict-requires-clause-cells : goal.whole_verdict-requires-clause-cells
whole_verdict-requires-clause-cells c =
    subst (λ (rows : List Told). NoneEnds OutOfCells rows) (sym c.as_slice.ensures.value) c.in-Ok.ensures.tells.cells

pub returns-in-Err : goal.returns-in-Err
returns-in-Err c =
    IfOk-weaker c.unknown_by.result _ _
    (λ v said. subst (IsVerdict c.args.states c.args.sought (given_of c.args.given) (file_of c.args.image.now)
    (program_of c.args.image.now))
    (sym said.0)
    (inl (fault_cuts c.args.states (given_of c.args.given) (file_of c.args.image.now) (program_of c.args.image.now)
    c.in-Err.fault said.1
    c.in-Err.ensures.only c.in-Err.ensures.states.0 c.in-Err.ensures.endless))) c.unknown_by.ensures
