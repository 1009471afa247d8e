-- Why `append_again` in src/repeating.rt keeps its contract, its loop and what it calls with.

use Rattle.std.proofs.Common.{◌≡◌, ◌-◌, ◌≤◌, length, drop, arith}
use Rattle.std.proofs.lemmas.Result.{err_from_is_err_and}
use Rattle.ls_schedule.proofs.OnceMore.{appended_again, longer_now, no_group, too_many_again}
use Rattle.ls_schedule.proofs.Steps.{no_threads}
use Rattle.ls_schedule.proofs.repeating.append_again.Goals as goal

pub returns-then-len-eq0-clause-ok : goal.returns-then-len-eq0-clause-ok
returns-then-len-eq0-clause-ok c =
    let none : length c.args.schedule.now - c.args.from ≡ 0 = omega arith in
    no_threads c.args.schedule.now (drop c.args.from c.args.schedule.now) c.args.times
    (no_group c.args.schedule.now c.args.from none)

pub loop-preserved : goal.loop-preserved
loop-preserved c =
    let from : c.args.from ≤ length c.args.schedule.now = omega arith in
    record {
      done = appended_again c.args.schedule.now c.loop.schedule _ c.args.from _ c.loop.counter c.loop.invariant.done
          (omega arith) from c.in_ok-push_again.ensures.ok;
      few = c.in_ok-push_again.ensures.few;
    }

pub push_again-requires-clause-within : goal.push_again-requires-clause-within
push_again-requires-clause-within c =
    let more : length c.args.schedule.now ≤ length c.loop.schedule = longer_now c.args.schedule.now c.loop.schedule _
    c.loop.invariant.done in
    omega arith

pub returns-in_err-push_again-clause-err : goal.returns-in_err-push_again-clause-err
returns-in_err-push_again-clause-err c =
    let p = err_from_is_err_and c.from_residual.result c.from_residual.ensures.1 in
    rw (p.1, p.2) (λ e. too_many_again c.args.schedule.now c.loop.schedule c.args.from _ c.loop.counter c.args.times
    c.loop.invariant.done (omega arith) c.loop-test.true (c.in_err-push_again.ensures.err e))
