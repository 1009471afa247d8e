-- Why `pass` in src/searching.rt keeps its contract.

use Rattle.std.proofs.lemmas.Bool.{MatchBool-at_true}
use Rattle.ls_order_search.specs.Pools.{ClosesTo}
use Rattle.ls_order_search.specs.Search.{Stuck, held}
use Rattle.ls_order_search.proofs.Closings.{passed_over}
use Rattle.ls_order_search.proofs.searching.pass.Goals as goal

pub returns : goal.returns
returns c = λ calls h.
    let at = c.args.at in
    let s = held c.args.set.now in
    let t = held c.close.new.set in
    let placed = c.args.placed.now.items in
    let new = c.close.new.placed.items in
    let k = MatchBool-at_true (ClosesTo at s t calls c.close.new.pool placed new) (Stuck at s calls)
    c.if-not-branch.false (c.in_ok-close.ensures calls h) in
    record {
      less = k.less;
      holds = k.holds;
      passed = passed_over at c.args.end c.args.events s t calls k.less placed new c.next_end.result k.closed k.none
          c.next_end.ensures.from c.next_end.ensures.within (c.next_end.ensures.lasts k.less k.holds);
    }
