-- Why `Counts::tally` in src/counting.rt keeps its contract and its loop `key`.

use Rattle.std.proofs.Common.{arith, subst, sym}
use Rattle.ls_batch.specs.Counted.{count_at}
use Rattle.ls_batch.proofs.Taken.{all_taken, AreTaken, ascends, none_taken, not_less, one_taken}
use Rattle.ls_batch.proofs.Tallied.{is_tally, says_moved, times_moved}
use Rattle.ls_batch.proofs.counting.Counts.tally.Goals as goal

pub loop-key-init : goal.loop-key-init
loop-key-init c = subst (AreTaken (count_at c.args.self) (count_at c.args.self)) (sym c.new-entries.ensures.items)
    (none_taken (count_at c.args.self))

pub loop-key-smaller : goal.loop-key-smaller
loop-key-smaller c = c.in-Some.ensures.fewer

pub loop-key-preserved : goal.loop-key-preserved
loop-key-preserved c =
    subst (AreTaken (count_at c.args.self) (count_at c.pop.new.self)) (sym c.in_ok-push.ensures.items)
    (one_taken (count_at c.args.self) (count_at c.loop-key.rest) (count_at c.pop.new.self) c.loop-key.entries.items _
    c.loop-key.invariant c.in-Some.ensures.some c.in-Some.ensures.others)

pub returns : goal.returns
returns c = λ first histories few counts.
    let all = count_at c.args.self in
    let taken = c.loop-key.invariant in
    let moved = c.in_ok-sort.ensures.permutation in
    let old = c.loop-key.entries.items in
    let new = c.sort.new.self.items in
    is_tally all new first histories few counts (says_moved all old new moved taken.says)
    (times_moved all old new moved (all_taken all (count_at c.loop-key.rest) old taken c.in_default.ensures.none))
    (ascends new (λ k d lt. not_less _ _ _ (c.in_ok-sort.ensures.sorted k d (omega arith) lt)))
