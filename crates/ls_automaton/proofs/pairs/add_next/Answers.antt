-- Why `add_next` in src/pairs.rt keeps its contract and its loop `i`.

use Rattle.std.proofs.Common.{◌++◌, ◌∷◌, [], subst}
use Rattle.std.specs.List.{flat_map}
use Rattle.ls_automaton.specs.Held.{AreSame, further, held_of, helds_of}
use Rattle.ls_automaton.proofs.Layers.{gone_all, gone_at, gone_first}
use Rattle.ls_automaton.proofs.pairs.add_next.Goals as goal

pub loop-i-init : goal.loop-i-init
loop-i-init c = gone_first (further (λ q. q ∷ []) (held_of c.args.pair.now)) c.row_at-row.result.now
    (helds_of c.args.next.now.items)

pub loop-i-preserved : goal.loop-i-preserved
loop-i-preserved c = gone_at (further (λ q. q ∷ []) (held_of c.args.pair.now)) c.row_at-row.result.now c.loop-i.i _
    (helds_of c.loop-i.next.items) (helds_of c.add_taking.new.next.items) _ c.loop-i-test.true
    c.in_ok-add_taking.ensures c.loop-i.invariant

pub returns : goal.returns
returns c =
    subst (λ row. AreSame (helds_of c.loop-i.next.items)
    (helds_of c.args.next.now.items ++ flat_map (further (λ q. q ∷ []) (held_of c.args.pair.now)) row))
    c.row_at-row.ensures
    (gone_all (further (λ q. q ∷ []) (held_of c.args.pair.now)) c.row_at-row.result.now c.loop-i.i
    (helds_of c.loop-i.next.items) _ c.loop-i-test.false c.loop-i.invariant)
