-- Why `last_places` in src/choosing.rt keeps its loop `at`.

use Rattle.std.proofs.Common.{◌+◌, ◌∙◌, sym, subst}
use Rattle.ls_history_numbers.specs.Choices.{TellLasts}
use Rattle.ls_history_numbers.proofs.choosing.last_places.Goals as goal

pub loop-at-preserved : goal.loop-at-preserved
loop-at-preserved c = record {
  many = c.note_place.ensures.many ∙ c.loop-at.invariant.many;
  lasts =
      subst (λ n. TellLasts c.args.numbers.now c.note_place.new.lasts.items n (c.loop-at.at + 1))
      c.loop-at.invariant.many
      (c.note_place.ensures.lasts
      (subst (λ n. TellLasts c.args.numbers.now c.loop-at.lasts.items n c.loop-at.at) (sym c.loop-at.invariant.many)
      c.loop-at.invariant.lasts));
}
