-- Why `same_thread_names` in src/exchanges.rt keeps its contract and its loop `i`.

use Rattle.std.proofs.Common.{refl, true, false}
use Rattle.ls_exchanged.proofs.Named.{by_names, name_in}
use Rattle.ls_same_calls.proofs.Same.{apart_at, one_more, same_all}
use Rattle.ls_exchanged.proofs.exchanges.same_thread_names.Goals as goal

pub returns-then-not-same_thread_name : goal.returns-then-not-same_thread_name
returns-then-not-same_thread_name c =
    by_names c.args.first.now c.args.second.now false (apart_at name_in c.args.first.now c.args.second.now c.loop-i.i
    c.index-first-i.result c.index-second-i.result
    c.same_thread_name.result c.same_thread_name.ensures c.if-not-same_thread_name.true c.if-first-second.false
    c.loop-i-test.true c.index-first-i.is
    c.index-second-i.is)

pub loop-i-preserved : goal.loop-i-preserved
loop-i-preserved c =
    one_more name_in c.args.first.now c.args.second.now c.loop-i.i c.index-first-i.result c.index-second-i.result
    c.same_thread_name.result c.same_thread_name.ensures c.if-not-same_thread_name.false c.if-first-second.false
    c.loop-i-test.true c.index-first-i.is
    c.index-second-i.is c.loop-i.invariant

pub returns : goal.returns
returns c =
    by_names c.args.first.now c.args.second.now true (
      (λ e. same_all name_in c.args.first.now c.args.second.now c.loop-i.i
          c.if-first-second.false c.loop-i-test.false c.loop-i.invariant),
      (λ e. refl),
    )
