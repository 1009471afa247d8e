-- Why `number_states` in src/telling.rt keeps its clauses `many` and `each` and its loop `at`.

use Rattle.std.proofs.Common.{◌≡◌, ◌<◌, ◌∷◌, [], length, arith, ap, ◌∙◌, length-append}
use Rattle.ls_history_numbers.proofs.Lists.{below}
use Rattle.ls_source_rows.proofs.Pushing.{HasNumber, told_more}
use Rattle.ls_source_rows.proofs.telling.number_states.Goals as goal

pub loop-at-preserved : goal.loop-at-preserved
loop-at-preserved c = record {
  many = omega (
    arith,
    ap length c.in_ok-push.ensures.items,
    length-append c.loop-at.each.items (c.number_at.result ∷ []),
    c.loop-at.invariant.many,
  );
  each = told_more (HasNumber c.args.numbers.now c.args.nodes.now) c.loop-at.each.items c.push.new.self.items
      c.loop-at.at c.number_at.result c.loop-at.invariant.many c.in_ok-push.ensures.items
      (λ y p. c.number_at.ensures p.0 y p.1 p.2) c.loop-at.invariant.each;
}

pub returns-clause-many : goal.returns-clause-many
returns-clause-many c =
    let whole : c.loop-at.at ≡ length c.args.nodes.now = omega arith in
    c.loop-at.invariant.many ∙ whole

pub returns-clause-each : goal.returns-clause-each
returns-clause-each c = λ at n number here told.
    let within : at < length c.args.nodes.now = below c.args.nodes.now at n here in
    c.loop-at.invariant.each at number (omega (arith, within)) (n, here, told)
