-- Why `event_of` in src/naming.rt keeps its clause `none` and its loop `number`.

use Rattle.std.proofs.Common.{◌≡◌, ap, arith, length, map, slice_get, subst, Some}
use Rattle.std.proofs.lemmas.List.{length-map}
use Rattle.ls_checked.specs.PlainProgram.{plain_program, plain_thread}
use Rattle.ls_report.specs.Plain.{plain_event}
use Rattle.ls_serial_orders.proofs.NameLemmas.{foreign_all, foreign_more, get_map}
use Rattle.ls_serial_orders.proofs.naming.event_of.Goals as goal

pub loop-number-preserved : goal.loop-number-preserved
loop-number-preserved c =
    foreign_more (plain_program c.args.program.now) c.loop-number.number (plain_thread c.index-threads-number.result)
    (plain_event c.args.event.now)
    (subst (λ ts. slice_get (map plain_thread ts) c.loop-number.number ≡
    Some (plain_thread c.index-threads-number.result))
    c.as_slice-threads.ensures.value
    (get_map plain_thread c.as_slice-threads.result.now c.loop-number.number c.index-threads-number.result
    c.loop-number-test.true c.index-threads-number.is))
    c.in_default.ensures.none c.loop-number.invariant

pub returns-clause-none : goal.returns-clause-none
returns-clause-none c =
    let same = ap length c.as_slice-threads.ensures.value in
    let plain = length-map c.args.program.now.threads.items plain_thread in
    foreign_all (plain_program c.args.program.now) c.loop-number.number (plain_event c.args.event.now)
    (omega (arith, c.loop-number-test.false, same, plain)) c.loop-number.invariant
