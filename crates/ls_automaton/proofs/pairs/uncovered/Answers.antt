-- Why `uncovered` in src/pairs.rt keeps its contract and its loop `i`.

use Rattle.std.proofs.Common.{◌+◌, subst, sym}
use Rattle.std.specs.declared.alloc.Global.{Global}
use Rattle.std.specs.declared.vec.Vec.{Vec}
use Rattle.ls_automaton.specs.declared.pairs.Pair.{Pair}
use Rattle.ls_automaton.proofs.Dropped.{AreLeft, left_all, left_covered, left_on}
use Rattle.ls_automaton.proofs.Entries.{not_both}
use Rattle.ls_automaton.proofs.pairs.uncovered.Goals as goal
use Rattle.ls_automaton.proofs.pairs.uncovered.Goals.{
  then-not-is_covered+in_ok-copied+in_ok-push,
  else-not-is_covered,
}

pub loop-i-preserved : goal.loop-i-preserved
loop-i-preserved c = elim c.if-not-is_covered.branch [
  | then-not-is_covered+in_ok-copied+in_ok-push w ↦
      subst (λ (v : Vec Pair Global). AreLeft c.args.rows.now c.args.pairs.now v.items (c.loop-i.i + 1)) (sym w.left-is)
      (left_on c.args.rows.now c.args.pairs.now c.loop-i.left.items c.loop-i.i c.loop-i.invariant c.index-pairs-i.result
      c.loop-i-test.true c.index-pairs-i.is w.in_ok-copied.field-0 w.in_ok-copied.ensures
      (λ covered. absurd (not_both (c.is_covered.ensures.1 covered) w.if-not-is_covered.true))
      w.push.new.self.items w.in_ok-push.ensures.items)
  | else-not-is_covered w ↦
      subst (λ (v : Vec Pair Global). AreLeft c.args.rows.now c.args.pairs.now v.items (c.loop-i.i + 1)) (sym w.left-is)
      (left_covered c.args.rows.now c.args.pairs.now c.loop-i.left.items c.loop-i.i c.loop-i.invariant
      c.index-pairs-i.result c.loop-i-test.true c.index-pairs-i.is
      (c.is_covered.ensures.0 w.if-not-is_covered.false))
]

pub returns-clause-none_lost : goal.returns-clause-none_lost
returns-clause-none_lost c =
    left_all c.args.rows.now c.args.pairs.now c.loop-i.left.items c.loop-i.i c.loop-i-test.false c.loop-i.invariant
