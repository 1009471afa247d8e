-- Why `all_ended` in src/pairs.rt keeps its contract and its loop `left`.

use Rattle.std.proofs.Common.{◌≡◌, ◌++◌, ◌+◌, ◌∙◌, List, [], ap, arith, subst, suc, sym, zero}
use Rattle.std.specs.List.{flat_map}
use Rattle.ls_automaton.specs.Held.{AreSame, ends, helds_of, kept}
use Rattle.ls_automaton.specs.Layers.{IsLayered}
use Rattle.ls_automaton.specs.declared.pairs.Pair.{Pair}
use Rattle.ls_automaton.proofs.Layers.{all_effects, ends_more, same_along, same_as}
use Rattle.ls_automaton.proofs.pairs.all_ended.Goals as goal

pub loop-left-init : goal.loop-left-init
loop-left-init c =
    let rows = c.args.rows.now in
    let e = c.args.end.now in
    let m = c.most_pending-most.result in
    let one : suc m ≡ m + 1 = omega arith in
    let layered = subst (λ (l : List Pair). IsLayered rows e (helds_of c.args.pairs.now) [] (helds_of l)
    (helds_of c.in_ok-layer.layer.items) (helds_of c.next_layer.new.found.items)) c.new-found.ensures.items
    c.in_ok-layer.ensures in
    subst (λ n. AreSame (helds_of c.next_layer.new.found.items ++ flat_map (ends rows m e)
    (helds_of c.in_ok-layer.layer.items)) (flat_map (ends rows n e) (helds_of c.args.pairs.now))) one (layered m)

pub loop-left-preserved : goal.loop-left-preserved
loop-left-preserved c =
    ends_more c.args.rows.now c.args.end.now _ c.loop-left.left (helds_of c.loop-left.layer.items)
    (helds_of c.in_ok-layer-2.layer.items) (helds_of c.loop-left.found.items)
    (helds_of c.next_layer-in-loop-left.new.found.items) _ (omega (arith, c.loop-left-test.true)) c.loop-left.invariant
    (subst (λ (l : List Pair). IsLayered c.args.rows.now c.args.end.now (helds_of l) []
    (helds_of c.loop-left.found.items) (helds_of c.in_ok-layer-2.layer.items)
    (helds_of c.next_layer-in-loop-left.new.found.items)) c.as_slice.ensures.value c.in_ok-layer-2.ensures)

pub returns : goal.returns
returns c =
    let rows = c.args.rows.now in
    let e = c.args.end.now in
    let m = c.most_pending-most.result in
    let none : c.loop-left.left ≡ zero = omega (arith, c.loop-left-test.false) in
    let one : m + 1 ≡ suc m = omega arith in
    same_along (helds_of c.add_all_kept.new.found.items)
    (helds_of c.loop-left.found.items ++ flat_map (kept e) (helds_of c.loop-left.layer.items)) _
    (same_as _ _ (c.in_ok-add_all_kept.ensures
    ∙ ap (λ l. helds_of c.loop-left.found.items ++ flat_map (kept e) (helds_of l)) c.as_slice-2.ensures.value))
    (same_along (helds_of c.loop-left.found.items ++ flat_map (kept e) (helds_of c.loop-left.layer.items))
    (flat_map (ends rows (suc m) e) (helds_of c.args.pairs.now)) _
    (subst (λ n. AreSame (helds_of c.loop-left.found.items ++ flat_map (kept e) (helds_of c.loop-left.layer.items))
    (flat_map (ends rows n e) (helds_of c.args.pairs.now))) one
    (subst (λ n. AreSame (helds_of c.loop-left.found.items ++ flat_map (ends rows n e)
    (helds_of c.loop-left.layer.items)) (flat_map (ends rows (m + 1) e) (helds_of c.args.pairs.now)))
    none c.loop-left.invariant))
    (all_effects rows e m (helds_of c.args.pairs.now) c.requires c.most_pending-most.ensures))
