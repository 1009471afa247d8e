-- Why `same_calls` in src/calls.rt keeps its contract and its loop `i`.

use Rattle.ls_checked.specs.PlainProgram.{plain_call}
use Rattle.ls_same_calls.proofs.Same.{apart_at, one_more}
use Rattle.ls_same_calls.proofs.calls.same_calls.Goals as goal

pub returns-then-not-same_call : goal.returns-then-not-same_call
returns-then-not-same_call c =
    apart_at plain_call c.args.first.now c.args.second.now c.loop-i.i c.index-first-i.result c.index-second-i.result
    c.same_call.result c.same_call.ensures c.if-not-same_call.true c.if-first-second.false c.loop-i-test.true
    c.index-first-i.is
    c.index-second-i.is

pub loop-i-preserved : goal.loop-i-preserved
loop-i-preserved c =
    one_more plain_call c.args.first.now c.args.second.now c.loop-i.i c.index-first-i.result c.index-second-i.result
    c.same_call.result c.same_call.ensures c.if-not-same_call.false c.if-first-second.false c.loop-i-test.true
    c.index-first-i.is
    c.index-second-i.is c.loop-i.invariant
