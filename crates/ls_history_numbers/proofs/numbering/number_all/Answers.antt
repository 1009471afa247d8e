-- Why `number_all` in src/numbering.rt keeps its loop `at`.

use Rattle.std.proofs.Common.{◌∷◌, [], length, map, ap, arith, length-append}
use Rattle.ls_history_numbers.proofs.Longer.{numbers_more, numbers_none}
use Rattle.ls_history_numbers.proofs.numbering.number_all.Goals as goal

pub loop-at-init : goal.loop-at-init
loop-at-init c = record {
  numbered = c.requires;
  many = ap length c.new-numbers.ensures.items;
  each = numbers_none c.args.all.now.items c.new-numbers.result.items (map (λ w. w.items) c.args.histories.now)
      c.new-numbers.ensures.items;
}

pub loop-at-preserved : goal.loop-at-preserved
loop-at-preserved c = record {
  numbered = c.in_ok-number.ensures.numbered;
  many = omega (
    arith,
    ap length c.in_ok-push.ensures.items,
    length-append c.loop-at.numbers.items (c.in_ok-number.number ∷ []),
    c.loop-at.invariant.many,
  );
  each = numbers_more c.loop-at.all.items c.number_of.new.all.items c.loop-at.numbers.items c.push.new.self.items
      (map (λ w. w.items) c.args.histories.now) c.loop-at.at c.in_ok-number.number c.history_at.result.now
      c.loop-at.invariant.many c.in_ok-push.ensures.items c.in_ok-number.ensures.keeps c.in_ok-number.ensures.is
      c.history_at.ensures c.loop-at.invariant.each;
}
