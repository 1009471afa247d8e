-- Why `names_of` in src/naming.rt keeps its loop `i` and what `put_call` requires.

use Rattle.std.proofs.Common.{◌-◌, ◌<◌, ◌≤◌, arith, length, map}
use Rattle.ls_report.specs.Plain.{plain_event}
use Rattle.ls_orders.proofs.NameLemmas.{called_there, named_before}
use Rattle.ls_orders.proofs.naming.names_of.Goals as goal

pub put_call-requires : goal.put_call-requires
put_call-requires c =
    let calls = c.args.calls.now in
    let i = c.loop-i.i in
    let some : 0 < i = omega arith in
    let le : i ≤ length calls = omega arith in
    called_there c.args.events.now calls i c.requires some le

pub loop-i-preserved : goal.loop-i-preserved
loop-i-preserved c =
    let calls = c.args.calls.now in
    let i = c.loop-i.i in
    let some : 0 < i = omega arith in
    let le : i ≤ length calls = omega arith in
    let p = c.in_ok-put_call.ensures in
    named_before (map plain_event c.args.events.now) calls i some le p.0 p.1 p.2 p.3 c.loop-i.names
    c.put_call.new.names p.4
    c.loop-i.invariant
