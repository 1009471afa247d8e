-- Why `next_turn` in src/opening.rt keeps its clauses `none` and `some`.

use Rattle.std.proofs.Common.{◌∙◌, subst, sym, true≢false}
use Rattle.std.specs.Prelude.{◌≡◌, None}
use Rattle.std.specs.BTreeMap.{get}
use Rattle.std.specs.BTreeMap.Range.{IsLeBy}
use Rattle.ls_order_search.specs.declared.pool.Turn.{Turn}
use Rattle.ls_order_search.specs.Pools.{IsFirst, turn_cmp}
use Rattle.ls_order_search.proofs.Firsts.{chosen, none_from, none_of}
use Rattle.ls_order_search.proofs.opening.next_turn.Goals as goal

pub returns-in-None-clause-none : goal.returns-in-None-clause-none
returns-in-None-clause-none c = λ calls h. none_from c.args.item.now c.args.was c.args.pool.now.turns calls h.turns
    (subst (λ (s : Turn). (q : Turn) → IsLeBy turn_cmp s q → get turn_cmp c.args.pool.now.turns q ≡ None)
    c.start_of.ensures c.in-None.ensures.none)

pub returns-then-is_on-clause-some : goal.returns-then-is_on-clause-some
returns-then-is_on-clause-some c = λ calls h.
    let turn = c.in-Some.turn in
    let call = c.in-Some.call in
    let first = subst (λ (s : Turn). IsFirst turn_cmp c.args.pool.now.turns s (turn, call)) c.start_of.ensures
    c.in-Some.ensures.some in
    let on = c.is_on.ensures.0 c.if-is_on.true in
    let is = h.turns.only turn call first.there in
    (is.0, is.1, chosen c.args.item.now c.args.was c.args.pool.now.turns calls h.turns turn call first on.0 on.1)

pub returns-else-is_on-clause-none : goal.returns-else-is_on-clause-none
returns-else-is_on-clause-none c = λ calls h. none_of c.args.item.now c.args.was c.args.pool.now.turns calls h.turns
    c.in-Some.turn c.in-Some.call
    (subst (λ (s : Turn). IsFirst turn_cmp c.args.pool.now.turns s (c.in-Some.turn, c.in-Some.call)) c.start_of.ensures
    c.in-Some.ensures.some) (λ on. true≢false (sym (c.is_on.ensures.1 on) ∙ c.if-is_on.false))
