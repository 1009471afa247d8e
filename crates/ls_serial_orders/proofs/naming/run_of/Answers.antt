-- Why `run_of` in src/naming.rt keeps its contract and its loop `event`.

use Rattle.std.proofs.Common.{◌+◌, ◌<◌, ◌∙◌, ◌++◌, ◌∷◌, [], ap, arith, length, map, subst, sym, take}
use Rattle.ls_checked.specs.PlainProgram.{plain_program}
use Rattle.ls_report.specs.Plain.{plain_event}
use Rattle.ls_report.specs.Printing.{run_text}
use Rattle.ls_serial_orders.specs.Named.{AreNamed}
use Rattle.ls_serial_orders.proofs.NameLemmas.{get_map, named_more, same_text, take_one}
use Rattle.ls_serial_orders.proofs.naming.run_of.Goals as goal

pub returns-in_default : goal.returns-in_default
returns-in_default c =
    let p = plain_program c.args.program.now in
    let i = c.loop-event.event-index in
    let lt : i < length c.args.events.now = omega arith in
    record {
      count = i;
      event = plain_event c.event-item.result;
      there = get_map plain_event c.args.events.now i c.event-item.result lt c.event-item.is;
      foreign = c.in_default.ensures.none;
      run = c.loop-event.run.items;
      before = c.loop-event.invariant;
      place = c.in_ok-at.ensures ∙ ap length (ap (run_text p) c.as_slice.ensures.value ∙
          same_text p c.loop-event.run.items (take i (map plain_event c.args.events.now)) c.loop-event.invariant);
    }

pub loop-event-preserved : goal.loop-event-preserved
loop-event-preserved c =
    let p = plain_program c.args.program.now in
    let i = c.loop-event.event-index in
    let es = map plain_event c.args.events.now in
    let e = plain_event c.event-item.result in
    let lt : i < length c.args.events.now = omega arith in
    let there = get_map plain_event c.args.events.now i c.event-item.result lt c.event-item.is in
    let run = c.loop-event.run.items ++ c.in-Some.known ∷ [] in
    subst (λ rs. AreNamed p rs (take (i + 1) es)) (sym c.in_ok-push.ensures.items)
    (subst (AreNamed p run) (sym (take_one es i e there))
    (named_more p c.loop-event.run.items c.in-Some.known (take i es) e c.loop-event.invariant c.in-Some.ensures.some))
