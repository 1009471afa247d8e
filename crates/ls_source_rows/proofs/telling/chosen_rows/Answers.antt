-- Why `chosen_rows` in src/telling.rt keeps its contract, its loop and what it calls with.

use Rattle.std.proofs.Common.{◌<◌, ◌∙◌, ℕ, List, Some, length, map, ap, arith}
use Rattle.ls_events.specs.declared.event.Event.{Event}
use Rattle.ls_history_numbers.proofs.Lists.{below}
use Rattle.ls_source_rows.proofs.Choosing.{rows_more, some_holds}
use Rattle.ls_source_rows.proofs.telling.chosen_rows.Goals as goal

pub add_row-requires-clause-at : goal.add_row-requires-clause-at
add_row-requires-clause-at c =
    some_holds (λ (at : ℕ). at < length c.args.found.now.nodes.now) c.choice_at.result
    (λ at is. c.requires.at c.loop-number.number at (c.choice_at.ensures ∙ ap Some is))

pub loop-number-preserved : goal.loop-number-preserved
loop-number-preserved c =
    let histories : List (List Event) = map (λ v. v.items) c.args.found.now.histories.now in
    rows_more histories c.args.found.now.nodes.now c.args.found.now.seen.now c.args.choices.now c.requires.apart
    c.loop-number.rows.items c.loop-number.number c.loop-number.invariant c.add_row.new.rows.items c.choice_at.result
    c.choice_at.ensures c.in_ok-add_row.ensures.none c.in_ok-add_row.ensures.some

pub returns-clause-own : goal.returns-clause-own
returns-clause-own c = λ r there. let o = c.loop-number.invariant.own r there in (o.0, o.1, o.3, o.4)

pub returns-clause-made : goal.returns-clause-made
returns-clause-made c = λ n at chosen.
    let within : n < length c.args.choices.now = below c.args.choices.now n (Some at) chosen in
    c.loop-number.invariant.made n at (omega (arith, within)) chosen
