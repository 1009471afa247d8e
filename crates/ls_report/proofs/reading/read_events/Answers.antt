-- Why `read_events` in src/reading.rt keeps its clause `fault` and its loop `line`.

use Rattle.std.proofs.Common.{◌≡◌, ◌∙◌, ◌++◌, ◌<◌, ◌+◌, ◌^◌, ◌-◌, ap, sym, arith, rules, length, map}
use Rattle.std.proofs.lemmas.Bool.Decides.{nat_tests}
use Rattle.std.proofs.lemmas.List.{length-append, length-map, map_push}
use Rattle.ls_report.specs.Discipline.{is_history}
use Rattle.ls_report.specs.Lines.{history_text}
use Rattle.ls_report.specs.Plain.{plain_event}
use Rattle.ls_report.proofs.Values.{cut_shorter}
use Rattle.ls_report.proofs.Histories.{breaks, history_push, lines_push, no_feed, no_line}
use Rattle.ls_report.proofs.reading.read_events.Goals as goal

pub returns-in_default-2-clause-fault : goal.returns-in_default-2-clause-fault
returns-in_default-2-clause-fault c =
    let text = c.args.text.now in
    let rest = c.loop-line.rest.now in
    let es = map plain_event c.loop-line.front.events.items in
    let inv = c.loop-line.invariant in
    let shorter = cut_shorter 10 rest c.in-Some.line.now c.in-Some.after.now c.in-Some.ensures in
    let small : length es < 2 ^ 63 = omega (arith, length-map c.loop-line.front.events.items plain_event) in
    let place : c.args.length - length rest + length rest ≡ length text = omega
    (arith, ap length inv.lines, length-append (history_text es) rest) in
    let none = rw c.in_default-2.is at c.in_ok-event.ensures.none in
    breaks text rest _ es inv.history inv.lines place (omega arith)
    (no_line rest c.in-Some.line.now c.in-Some.after.now es inv.history small c.in-Some.ensures
    none)

pub loop-line-smaller : goal.loop-line-smaller
loop-line-smaller c = omega (
  arith,
  cut_shorter 10 c.loop-line.rest.now c.in-Some.line.now c.in-Some.after.now
      c.in-Some.ensures,
)

pub loop-line-preserved : goal.loop-line-preserved
loop-line-preserved c =
    let rest = c.loop-line.rest.now in
    let after = c.in-Some.after.now in
    let events = c.loop-line.front.events.items in
    let es = map plain_event events in
    let event = plain_event c.in-Some-2.event in
    let inv = c.loop-line.invariant in
    let found = rw c.in-Some-2.is at c.in_ok-event.ensures.some in
    let more = ap (map plain_event) c.in_ok-push.ensures.events ∙ map_push plain_event events c.in-Some-2.event in
    record {
      text = search rules;
      indexed = c.in_ok-push.ensures.indexed;
      history = ap is_history more ∙ history_push es event inv.history found.0;
      lines = lines_push c.args.text.now rest c.in-Some.line.now after es event inv.lines c.in-Some.ensures found.1 ∙
          ap (λ xs. history_text xs ++ after) (sym more);
    }

pub returns-then-not-is_empty-clause-fault : goal.returns-then-not-is_empty-clause-fault
returns-then-not-is_empty-clause-fault c =
    let text = c.args.text.now in
    let rest = c.loop-line.rest.now in
    let es = map plain_event c.loop-line.front.events.items in
    let inv = c.loop-line.invariant in
    let small : length es < 2 ^ 63 = omega (arith, length-map c.loop-line.front.events.items plain_event) in
    let some : 0 < length rest = grind (arith, nat_tests) in
    let place : c.args.length - length rest + length rest ≡ length text = omega
    (arith, ap length inv.lines, length-append (history_text es) rest) in
    breaks text rest _ es inv.history inv.lines place some (no_feed rest es inv.history small c.in_default.ensures)
