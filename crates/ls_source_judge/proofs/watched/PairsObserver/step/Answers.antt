-- Why `PairsObserver::step` in src/observing.rt keeps its contract.

use Rattle.std.proofs.Common.{◌≡◌, IfSome, arith, subst, sym}
use Rattle.ls_linearizable.specs.Judging.{later}
use Rattle.ls_source_judge.specs.Stepped.{IsTabled}
use Rattle.ls_source_judge.specs.Watched.{verdict_of}
use Rattle.ls_source_judge.specs.declared.tabling.Noted.TheVariants.{Known}
use Rattle.ls_source_judge.proofs.Steps.{if_tabled}
use Rattle.ls_source_judge.proofs.watched.PairsObserver.step.Goals as goal

pub returns-then-number-len : goal.returns-then-number-len
returns-then-number-len c =
    subst (λ noted. IfSome c.tabled.result (λ n. verdict_of c.args.self.now (Known n) ≡
    later (verdict_of c.args.self.now noted) c.args.event.now)) (sym c.in-Known.is)
    (if_tabled c.args.self.now.rows.items c.args.self.now.table.known.items c.args.self.now.table.steps.items
    c.in-Known.number c.index.result.now c.args.event.now c.tabled.result c.args.self.now.right
    (let is = c.len.ensures in let lt = c.if-number-len.true in omega (arith, is, lt)) c.index.ensures
    (subst (λ l. IfSome c.tabled.result (λ n. IsTabled l n c.args.event.now)) c.as_slice.ensures.value
    c.tabled.ensures))
