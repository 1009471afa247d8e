-- Why `ends_of` in src/telling.rt keeps its clauses `many` and `each` and its loop `at`.

use Rattle.std.proofs.Common.{◌≡◌, ◌<◌, ◌∷◌, [], length, not, arith, ap, sym, refl, ◌∙◌, length-append}
use Rattle.ls_history_numbers.proofs.Lists.{below}
use Rattle.ls_source_rows.proofs.Pushing.{HasEnd, told_more}
use Rattle.ls_source_rows.proofs.telling.ends_of.Goals as goal

pub loop-at-preserved : goal.loop-at-preserved
loop-at-preserved c = record {
  many = omega (
    arith,
    ap length c.in_ok-push.ensures.items,
    length-append c.loop-at.ends.items (c.ends_at.result ∷ []),
    c.loop-at.invariant.many,
  );
  each = told_more (HasEnd c.args.seen.now) c.loop-at.ends.items c.push.new.self.items c.loop-at.at c.ends_at.result
      c.loop-at.invariant.many c.in_ok-push.ensures.items (λ y p. c.ends_at.ensures p.0 p.1 ∙ sym p.2)
      c.loop-at.invariant.each;
}

pub returns-clause-many : goal.returns-clause-many
returns-clause-many c =
    let whole : c.loop-at.at ≡ length c.args.seen.now = omega arith in
    c.loop-at.invariant.many ∙ whole

pub returns-clause-each : goal.returns-clause-each
returns-clause-each c = λ at s here.
    let within : at < length c.args.seen.now = below c.args.seen.now at s here in
    c.loop-at.invariant.each at (not s.acts) (omega (arith, within)) (s, here, refl)
