-- Why `are_ended` in src/placing.rt keeps its contract and its loop `i`.

use Rattle.std.proofs.Common.{◌≡◌, true, false, arith, refl, subst, take_all}
use Rattle.ls_serial.specs.Serial.{AreEnded}
use Rattle.ls_serial.proofs.Lists.{get_contains, is_get}
use Rattle.ls_serial.proofs.Steps.{ended_more}
use Rattle.ls_serial_orders.proofs.placing.are_ended.Goals as goal

apart : false ≡ true → ⊥
apart h = cc

pub loop-i-preserved : goal.loop-i-preserved
loop-i-preserved c =
    ended_more c.args.events.now c.args.ends.now c.loop-i.i _
    (is_get c.args.events.now c.loop-i.i _ c.loop-i-test.true) c.loop-i.invariant
    (λ ends. c.if-is_missing.ensures ends)

pub returns-then-is_missing : goal.returns-then-is_missing
returns-then-is_missing c = (
  λ found. absurd (apart found),
  λ are. absurd (c.if-is_missing.ensures.1 (are _ (get_contains c.args.events.now c.loop-i.i _
      (is_get c.args.events.now c.loop-i.i _ c.loop-i-test.true)) c.if-is_missing.ensures.0)),
)

pub returns : goal.returns
returns c = (
  λ found. subst (λ l. AreEnded l c.args.ends.now) (take_all c.loop-i.i c.args.events.now
      (omega (arith, c.loop-i-test.false))) c.loop-i.invariant,
  λ are. refl,
)
