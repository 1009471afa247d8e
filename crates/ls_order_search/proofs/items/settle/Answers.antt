-- Why `settle` in src/items.rt keeps its clauses `none` and `some` and its loop `at`.

use Rattle.std.proofs.Common.{ap, arith}
use Rattle.std.specs.List.{list_any}
use Rattle.std.specs.BTreeMap.{is_at}
use Rattle.std.specs.Ordering.{int_cmp}
use Rattle.std.proofs.lemmas.Bool.{MatchBool-at_false, MatchBool-at_true}
use Rattle.ls_order_search.specs.Search.{held}
use Rattle.ls_order_search.proofs.Settling.{settled, settling_start}
use Rattle.ls_order_search.proofs.items.settle.Goals as goal

pub loop-at-init : goal.loop-at-init
loop-at-init c =
    settling_start c.args.groups.now.calls.now (held c.new-items.result) c.new-marks.result.items
    (λ z. ap (λ ks. list_any (is_at (int_cmp z)) ks) c.new-items.ensures.empty) c.new-marks.ensures.items

pub loop-at-preserved : goal.loop-at-preserved
loop-at-preserved c = MatchBool-at_true _ _ c.if-not-branch.false c.in_ok-settle_call.ensures

pub returns-then-not-branch-clause-none : goal.returns-then-not-branch-clause-none
returns-then-not-branch-clause-none c = MatchBool-at_false _ _ c.if-not-branch.true c.in_ok-settle_call.ensures

pub returns-clause-some : goal.returns-clause-some
returns-clause-some c = settled c.args.groups.now.calls.now c.loop-at.at (held c.loop-at.items)
    c.loop-at.marks.items (omega arith)
    c.loop-at.invariant
