-- Why `joint` in src/items.rt keeps its clauses `none` and `some` and what `search` requires.

use Rattle.std.proofs.Common.{◌∙◌, sym, subst}
use Rattle.std.proofs.lemmas.Result.{IfOk-weaker}
use Rattle.ls_order_search.specs.Search.{NoPlanOn, Rising, stays}
use Rattle.ls_order_search.proofs.Filters.{rising_filter}
use Rattle.ls_order_search.proofs.Legality.{joint_way}
use Rattle.ls_order_search.proofs.Settling.{none_settled}
use Rattle.ls_order_search.proofs.Tries.{if_none_more, if_some_more}
use Rattle.ls_order_search.proofs.items.joint.Goals as goal

pub search-requires : goal.search-requires
search-requires c = subst Rising (sym (c.as_slice.ensures.value ∙ c.in_ok-chosen.ensures))
    (rising_filter (stays c.args.marks.now) c.args.calls.now c.requires.calls.rising)

pub returns-clause-none : goal.returns-clause-none
returns-clause-none c =
    IfOk-weaker c.search.result _ _ (λ found h. if_none_more found _ _
    (λ n. none_settled c.args.calls.now c.args.marks.now c.requires.settled
    (subst NoPlanOn (c.as_slice.ensures.value ∙ c.in_ok-chosen.ensures) n)) h) c.search.ensures.none

pub returns-clause-some : goal.returns-clause-some
returns-clause-some c =
    IfOk-weaker c.search.result _ _ (λ found h. if_some_more found _ _
    (λ order k. joint_way c.args.marks.now c.args.events c.args.calls.now c.as_slice.result.now order.items
    (c.as_slice.ensures.value ∙ c.in_ok-chosen.ensures) k
    c.requires.calls.within c.requires.calls.lasting) h) c.search.ensures.some
