-- Why `next_layer` in src/pairs.rt keeps its contract and its loop `i`.

use Rattle.std.proofs.Common.{◌∙◌, [], ap, map, subst, sym}
use Rattle.ls_automaton.specs.Held.{held_of, helds_of}
use Rattle.ls_automaton.specs.Layers.{IsLayered}
use Rattle.ls_automaton.proofs.Layers.{layered_all, layered_first, layered_on}
use Rattle.ls_automaton.proofs.pairs.next_layer.Goals as goal

pub loop-i-init : goal.loop-i-init
loop-i-init c =
    subst (λ l. IsLayered c.args.rows.now c.args.end.now [] [] (helds_of c.args.found.now.items) (helds_of l)
    (helds_of c.args.found.now.items)) (sym c.new-next.ensures.items)
    (layered_first c.args.rows.now c.args.end.now (helds_of c.args.found.now.items))

pub loop-i-preserved : goal.loop-i-preserved
loop-i-preserved c =
    layered_on c.args.rows.now c.args.end.now c.args.layer.now c.loop-i.i c.index-layer-i.result
    (helds_of c.loop-i.next.items) (helds_of c.add_by_effect.new.next.items) (helds_of c.loop-i.found.items)
    (helds_of c.add_by_effect.new.found.items) (helds_of c.args.found.now.items) c.loop-i-test.true c.index-layer-i.is
    c.loop-i.invariant c.in_ok-add_by_effect.ensures

pub returns : goal.returns
returns c =
    layered_all c.args.rows.now c.args.end.now c.args.layer.now c.loop-i.i (helds_of c.loop-i.next.items)
    (helds_of c.loop-i.found.items) (helds_of c.args.found.now.items) c.loop-i-test.false c.loop-i.invariant
