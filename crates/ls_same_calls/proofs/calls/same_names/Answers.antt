-- Why `same_names` in src/calls.rt keeps its contract and its loop `i`.

use Rattle.ls_checked.specs.PlainProgram.{plain_name}
use Rattle.ls_same_calls.proofs.Same.{apart_at, one_more}
use Rattle.ls_same_calls.proofs.calls.same_names.Goals as goal

pub returns-then-not-same_name : goal.returns-then-not-same_name
returns-then-not-same_name c =
    apart_at plain_name c.args.first.now c.args.second.now c.loop-i.i c.index-first-i.result c.index-second-i.result
    c.same_name.result c.same_name.ensures c.if-not-same_name.true c.if-first-second.false c.loop-i-test.true
    c.index-first-i.is
    c.index-second-i.is

pub loop-i-preserved : goal.loop-i-preserved
loop-i-preserved c =
    one_more plain_name c.args.first.now c.args.second.now c.loop-i.i c.index-first-i.result c.index-second-i.result
    c.same_name.result c.same_name.ensures c.if-not-same_name.false c.if-first-second.false c.loop-i-test.true
    c.index-first-i.is
    c.index-second-i.is c.loop-i.invariant
