-- Why `set_calls` in src/finding.rt keeps its loop `at`.

use Rattle.std.proofs.Common.{◌∙◌, ◌++◌, ◌∷◌, [], ◌<◌, ◌≤◌, ap, arith, length}
use Rattle.ls_orders.specs.Ends.{ended}
use Rattle.ls_orders.specs.SetCalls.{Asked}
use Rattle.ls_orders.proofs.EndLemmas.{call_before, ends_before, no_call_before}
use Rattle.ls_orders.proofs.finding.set_calls.Goals as goal

pub loop-at-preserved : goal.loop-at-preserved
loop-at-preserved c =
    let es = c.args.events.now in
    let i = c.loop-at.at in
    let e = c.index-events-at.result in
    let some : 0 < i = omega arith in
    let le : i ≤ length es = omega arith in
    record {
      ends = ends_before es i e (ended c.loop-at.ends) (ended c.put_event.new.ends) some le c.index-events-at.is
          c.loop-at.invariant.ends c.in_ok-end.ensures.put;
      calls = no_call_before es i e c.loop-at.calls.items some le c.index-events-at.is c.in_default.ensures
          c.loop-at.invariant.calls;
    }

pub loop-at-preserved-in-Continue-branch-2 : goal.loop-at-preserved-in-Continue-branch-2
loop-at-preserved-in-Continue-branch-2 c =
    let es = c.args.events.now in
    let i = c.loop-at.at in
    let e = c.index-events-at.result in
    let asked : Asked = c.in-Some.asked in
    let front = c.loop-at.calls.items in
    let some : 0 < i = omega arith in
    let le : i ≤ length es = omega arith in
    let there = c.in_ok-end.ensures.behind ∙ c.loop-at.invariant.ends e.thread.now e.call in
    record {
      ends = ends_before es i e (ended c.loop-at.ends) (ended c.put_event.new.ends) some le c.index-events-at.is
          c.loop-at.invariant.ends c.in_ok-end.ensures.put;
      calls = call_before es i e asked c.in_ok-end.end front _ some le c.index-events-at.is c.in-Some.ensures there
          (c.in_ok-push.ensures.items ∙ ap (λ x. front ++ x ∷ []) c.set_call.ensures) c.loop-at.invariant.calls;
    }
