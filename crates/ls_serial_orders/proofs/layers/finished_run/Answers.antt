-- Why `finished_run` in src/layers.rt keeps its contract and its loop `i`.

use Rattle.std.proofs.Common.{◌∙◌, ap, slice_index_or, subst, sym}
use Rattle.ls_serial.specs.Serial.{AreEnded}
use Rattle.ls_serial.proofs.Lists.{get_contains, is_get}
use Rattle.ls_automaton.proofs.Entries.{not_both}
use Rattle.ls_serial_orders.specs.declared.placing.Placed.{Placed}
use Rattle.ls_serial_orders.specs.Placing.{run_of}
use Rattle.ls_serial_orders.proofs.Firsts.{first_all, first_more}
use Rattle.ls_serial_orders.proofs.layers.finished_run.Goals as goal

pub loop-i-preserved : goal.loop-i-preserved
loop-i-preserved c =
    first_more (λ (p : Placed). AreEnded c.args.history.now p.ends.items → ⊥) c.args.layer.now c.loop-i.i _
    (is_get c.args.layer.now c.loop-i.i c.index-layer-i.result c.loop-i-test.true)
    (λ are. not_both (c.are_ended.ensures.1 (subst (AreEnded c.args.history.now) (sym c.as_slice-ends.ensures.value)
    are)) c.if-are_ended.false)
    c.loop-i.invariant

pub returns-then-are_ended-clause-some : goal.returns-then-are_ended-clause-some
returns-then-are_ended-clause-some c = record {
  placed = slice_index_or c.args.layer.now c.loop-i.i c.index-layer-i.result;
  there = get_contains c.args.layer.now c.loop-i.i _
      (is_get c.args.layer.now c.loop-i.i c.index-layer-i.result c.loop-i-test.true);
  ended = subst (AreEnded c.args.history.now) c.as_slice-ends.ensures.value
      (c.are_ended.ensures.0 c.if-are_ended.true);
  is = c.in_ok-run.ensures ∙ ap run_of c.as_slice-ends.ensures.value;
}

pub returns-clause-none : goal.returns-clause-none
returns-clause-none c = λ p there.
    first_all (λ (q : Placed). AreEnded c.args.history.now q.ends.items → ⊥) c.args.layer.now c.loop-i.i
    c.loop-i-test.false c.loop-i.invariant p there
