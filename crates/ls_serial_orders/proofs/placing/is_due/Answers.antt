-- Why `is_due` in src/placing.rt keeps its contract and its loop `i`.

use Rattle.std.proofs.Common.{◌≡◌, Some, true, false, arith, below_more, refl, slice_get, take}
use Rattle.ls_serial.specs.Serial.{AreEnded}
use Rattle.ls_serial.proofs.Lists.{get_within}
use Rattle.ls_automaton.proofs.Entries.{not_both}
use Rattle.ls_serial_orders.proofs.placing.is_due.Goals as goal

apart : false ≡ true → ⊥
apart h = cc

pub loop-i-preserved : goal.loop-i-preserved
loop-i-preserved c =
    below_more (λ k. slice_get c.args.history.now k ≡ Some c.args.call.now →
    AreEnded (take k c.args.history.now) c.args.ends.now) c.loop-i.i c.loop-i.invariant
    (c.is_due_at.ensures.0 c.if-not-is_due_at.false)

pub returns-then-not-is_due_at : goal.returns-then-not-is_due_at
returns-then-not-is_due_at c = (
  λ found. absurd (apart found),
  λ due. absurd (not_both (c.is_due_at.ensures.1 (due c.loop-i.i)) c.if-not-is_due_at.true),
)

pub returns : goal.returns
returns c = (
  λ found. λ k at. let within = get_within c.args.history.now k c.args.call.now at in
      c.loop-i.invariant k (omega (arith, within, c.loop-i-test.false)) at,
  λ due. refl,
)
