-- Why `find_front` in src/judging.rt keeps its clauses `some` and `none` and what `find_order` requires.

use Rattle.std.proofs.Common.{◌∙◌, sym, ap, subst, map, string_bytes}
use Rattle.std.proofs.lemmas.List.{take-map}
use Rattle.std.proofs.lemmas.Result.{IfOk-weaker}
use Rattle.ls_report.specs.Discipline.{is_history}
use Rattle.ls_report.specs.Plain.{plain_event}
use Rattle.ls_orders.specs.Legal.{IsLegal}
use Rattle.ls_order_search.specs.Answers.{NoneIsLegal}
use Rattle.ls_order_search.proofs.Names.{history_front}
use Rattle.ls_order_search.proofs.Tries.{if_none_more, if_some_more}
use Rattle.ls_order_search.proofs.judging.find_front.Goals as goal

pub find_order-requires : goal.find_order-requires
find_order-requires c =
    ap is_history (sym (take-map plain_event c.args.count c.args.events.now)) ∙
    history_front (map plain_event c.args.events.now) c.args.count c.requires.history

pub returns-clause-some : goal.returns-clause-some
returns-clause-some c =
    IfOk-weaker c.find_order.result _ _ (λ found h. if_some_more found _ _
    (λ order l. subst (λ es. IsLegal es (map string_bytes order.items))
    (sym (take-map plain_event c.args.count c.args.events.now)) l) h) c.find_order.ensures.some

pub returns-clause-none : goal.returns-clause-none
returns-clause-none c =
    IfOk-weaker c.find_order.result _ _ (λ found h. if_none_more found _ _
    (λ n. subst NoneIsLegal (sym (take-map plain_event c.args.count c.args.events.now)) n) h)
    c.find_order.ensures.none
