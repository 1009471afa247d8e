-- Why `check_order` in src/judging.rt keeps its clause `legal`.

use Rattle.std.proofs.Common.{◌∙◌, sym}
use Rattle.std.proofs.lemmas.Result.{IfOk-weaker}
use Rattle.ls_orders.proofs.LegalLemmas.{is_legal, legal_is}
use Rattle.ls_orders.proofs.judging.check_order.Goals as goal

pub returns-clause-legal : goal.returns-clause-legal
returns-clause-legal c =
    let history = c.args.history.now in
    let order = c.args.order.now in
    IfOk-weaker c.judged.result _ _ (λ v e. (
      λ k. legal_is history order (sym e ∙ k),
      λ l. e ∙
          is_legal history order l,
    )) c.judged.ensures
