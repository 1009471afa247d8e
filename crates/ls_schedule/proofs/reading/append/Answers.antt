-- Why `append` in src/reading.rt keeps its clauses `ok` and `err` and its loop `preserved`.

use Rattle.std.proofs.Common.{◌∙◌, ◌++◌, refl, sym, eqb-true}
use Rattle.std.proofs.lemmas.Result.{err_from_is_err_and}
use Rattle.ls_schedule.proofs.Steps.{appended, no_threads, too_many}
use Rattle.ls_schedule.proofs.reading.append.Goals as goal

pub returns-then-is_empty-clause-ok : goal.returns-then-is_empty-clause-ok
returns-then-is_empty-clause-ok c =
    no_threads _ _ c.args.count (eqb-true _ _ (sym c.is_empty.ensures ∙ c.if-is_empty.true))

pub returns-in_err-push_all-clause-err : goal.returns-in_err-push_all-clause-err
returns-in_err-push_all-clause-err c =
    let p = err_from_is_err_and c.from_residual.result c.from_residual.ensures.1 in
    rw (p.1, p.2) (λ e. too_many c.args.schedule.now c.args.threads.now (c.loop.schedule ++ c.args.threads.now)
    c.loop.counter c.args.count
    (appended c.args.schedule.now c.args.threads.now c.loop.schedule _ c.loop.counter c.loop.invariant.done refl)
    c.loop-test.true (c.in_err-push_all.ensures.err e))

pub loop-preserved : goal.loop-preserved
loop-preserved c = record {
  done = appended _ _ _ _ _ c.loop.invariant.done c.in_ok-push_all.ensures.ok;
  few = c.in_ok-push_all.ensures.few;
}
