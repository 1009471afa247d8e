-- Why `begun_of` in src/choosing.rt keeps its loop `back`.

use Rattle.std.proofs.Common.{◌≡◌, ◌+◌, ◌-◌, ◌∙◌, length, subst, arith}
use Rattle.ls_history_numbers.specs.Choices.{TellBegun}
use Rattle.ls_history_numbers.proofs.choosing.begun_of.Goals as goal

pub loop-back-preserved : goal.loop-back-preserved
loop-back-preserved c = record {
  many = c.note_begun.ensures.many ∙ c.loop-back.invariant.many;
  begun = λ from e.
      let at_is : length c.args.all.now - 1 - c.loop-back.back ≡ from = omega (arith, e) in
      subst (λ a. TellBegun c.args.all.now c.args.numbers.now c.note_begun.new.begun.items a) at_is
      (c.note_begun.ensures.begun c.args.numbers.now (from + 1) (omega (arith, at_is)) c.requires.lasts
      (c.loop-back.invariant.begun (from + 1) (omega (arith, e))));
}
