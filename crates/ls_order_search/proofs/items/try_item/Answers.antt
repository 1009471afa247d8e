-- Why `try_item` in src/items.rt keeps its clause `some` and what `tries` requires.

use Rattle.std.proofs.Common.{◌∙◌, ◌++◌, sym, subst}
use Rattle.std.proofs.lemmas.Result.{IfOk-weaker}
use Rattle.ls_order_search.specs.Search.{Calls, Rising}
use Rattle.ls_order_search.proofs.Settling.{calls_filter}
use Rattle.ls_order_search.proofs.Tries.{if_some_more, on_own}
use Rattle.ls_order_search.proofs.items.try_item.Goals as goal

pub tries-requires : goal.tries-requires
tries-requires c =
    subst (λ (l : Calls). Rising (l ++ c.of_item-own.result.now)) (sym c.new.ensures.items)
    (subst Rising (sym (c.of_item-own.ensures ∙ c.requires.grouped c.args.item.now))
    (calls_filter _ c.args.events c.args.groups.now.calls.now c.requires.calls).rising)

pub returns-clause-some : goal.returns-clause-some
returns-clause-some c =
    IfOk-weaker c.tries.result _ _ (λ found h. if_some_more found _ _
    (λ order k. on_own c.args.events _ _ _ order.items c.new.ensures.items
    (c.of_item-own.ensures ∙ c.requires.grouped c.args.item.now)
    (calls_filter _ c.args.events c.args.groups.now.calls.now c.requires.calls) k)
    h) c.tries.ensures.some
