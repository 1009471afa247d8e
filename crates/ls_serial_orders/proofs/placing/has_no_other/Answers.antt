-- Why `has_no_other` in src/placing.rt keeps its contract and its loop `i`.

use Rattle.std.proofs.Common.{◌≡◌, true, false, refl}
use Rattle.ls_serial.proofs.Lists.{get_contains, is_get}
use Rattle.ls_automaton.proofs.Entries.{not_both}
use Rattle.ls_serial_orders.specs.Placing.{Agrees}
use Rattle.ls_serial_orders.proofs.Firsts.{first_all, first_more}
use Rattle.ls_serial_orders.proofs.placing.has_no_other.Goals as goal

apart : false ≡ true → ⊥
apart h = cc

pub loop-i-preserved : goal.loop-i-preserved
loop-i-preserved c =
    first_more (Agrees c.args.end.now) c.args.history.now c.loop-i.i _
    (is_get c.args.history.now c.loop-i.i _ c.loop-i-test.true) (c.agrees.ensures.0 c.if-not-agrees.false)
    c.loop-i.invariant

pub returns-then-not-agrees : goal.returns-then-not-agrees
returns-then-not-agrees c = (
  λ found. absurd (apart found),
  λ all. absurd (not_both (c.agrees.ensures.1 (all _ (get_contains c.args.history.now c.loop-i.i _
      (is_get c.args.history.now c.loop-i.i _ c.loop-i-test.true)))) c.if-not-agrees.true),
)

pub returns : goal.returns
returns c = (
  λ found. λ f there. first_all (Agrees c.args.end.now) c.args.history.now c.loop-i.i c.loop-i-test.false
      c.loop-i.invariant f there,
  λ all. refl,
)
