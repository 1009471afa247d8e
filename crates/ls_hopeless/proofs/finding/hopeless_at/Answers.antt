-- Why `hopeless_at` in src/finding.rt keeps its clause `first`.

use Rattle.std.proofs.Common.{Option, IfNone, IfSome, inr, subst}
use Rattle.std.proofs.lemmas.Result.{IfOk-weaker}
use Rattle.ls_linearity.specs.Tabled.{IsTableOf, most_states}
use Rattle.ls_linearity.specs.declared.table.SerialTable.{SerialTable}
use Rattle.ls_serial_search.specs.Open.{HasManyOrders}
use Rattle.ls_serial_search.specs.Told.{usual}
use Rattle.ls_specification.specs.Specification.{spec_file, spec_program}
use Rattle.ls_hopeless.proofs.finding.hopeless_at.Goals as goal

pub returns-in-Some-clause-first : goal.returns-in-Some-clause-first
returns-in-Some-clause-first c =
    let sfile = spec_file c.args.specification in
    let sprogram = spec_program c.args.specification in
    let is = subst (λ (o : Option SerialTable). IfSome o (IsTableOf sfile sprogram usual)) c.in-Some.is
    c.in_ok-table.ensures.table in
    IfOk-weaker c.place_by.result _ _ (λ some first. first sfile sprogram is) c.place_by.ensures.first

pub returns-in-None-clause-first : goal.returns-in-None-clause-first
returns-in-None-clause-first c = λ once bad.
    inr (subst (λ (o : Option SerialTable). IfNone o
    (HasManyOrders (spec_file c.args.specification) (spec_program c.args.specification) most_states)) c.in-None.is
    c.in_ok-table.ensures.many)
