-- Why `push_new` in src/pairs.rt keeps its contract.

use Rattle.std.proofs.Common.{Contains, subst}
use Rattle.ls_automaton.specs.Held.{held_of, helds_of}
use Rattle.ls_automaton.proofs.Layers.{pushed_same, same_known}
use Rattle.ls_automaton.proofs.pairs.push_new.Goals as goal

pub returns-then-has_pair : goal.returns-then-has_pair
returns-then-has_pair c =
    same_known (helds_of c.args.pairs.now.items) (held_of c.args.pair)
    (subst (λ l. Contains (helds_of l) (held_of c.args.pair)) c.as_slice.ensures.value
    (c.has_pair.ensures c.if-has_pair.true))

pub returns : goal.returns
returns c = pushed_same c.args.pairs.now.items c.push.new.self.items c.args.pair c.in_ok-push.ensures.items
