-- Why `first_ends` in src/choosing.rt keeps its loop `back`.

use Rattle.std.proofs.Common.{◌≡◌, ◌+◌, ◌-◌, ◌∙◌, length, sym, subst, arith}
use Rattle.ls_history_numbers.specs.Choices.{TellFirsts}
use Rattle.ls_history_numbers.proofs.choosing.first_ends.Goals as goal

pub loop-back-preserved : goal.loop-back-preserved
loop-back-preserved c = record {
  many = c.note_end.ensures.many ∙ c.loop-back.invariant.many;
  firsts = λ from e.
      let at_is : length c.args.ends.now - 1 - c.loop-back.back ≡ from = omega (arith, e) in
      let before = c.loop-back.invariant.firsts (from + 1) (omega (arith, e)) in
      subst (λ a. TellFirsts c.args.numbers.now c.args.ends.now c.note_end.new.firsts.items c.args.count a) at_is
      (subst (λ n. TellFirsts c.args.numbers.now c.args.ends.now c.note_end.new.firsts.items n
      (length c.args.ends.now - 1 - c.loop-back.back)) c.loop-back.invariant.many
      (c.note_end.ensures.firsts (from + 1) (omega (arith, at_is))
      (subst (λ n. TellFirsts c.args.numbers.now c.args.ends.now c.loop-back.firsts.items n (from + 1))
      (sym c.loop-back.invariant.many) before)));
}
