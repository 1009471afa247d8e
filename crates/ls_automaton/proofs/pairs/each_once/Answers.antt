-- Why `each_once` in src/pairs.rt keeps its clause `none_lost` and its loop `pair`.

use Rattle.std.proofs.Common.{◌≡◌, ◌∷◌, ◌++◌, [], Contains, rules, subst}
use Rattle.ls_automaton.specs.Held.{held_of, helds_of}
use Rattle.ls_automaton.proofs.Ending.{split_all, split_known, split_new}
use Rattle.ls_automaton.proofs.pairs.each_once.Goals as goal

pub loop-pair-preserved-in-Continue-1 : goal.loop-pair-preserved-in-Continue-1
loop-pair-preserved-in-Continue-1 c =
    let is : c.loop-pair.rest.items ≡ c.pop.new.self.items ++ c.in-Some.pair ∷ [] = search rules in
    split_new c.args.pairs.items c.loop-pair.rest.items c.pop.new.self.items c.loop-pair.once.items c.in-Some.pair is
    c.loop-pair.invariant c.push.new.self.items c.in_ok-push.ensures.items

pub loop-pair-preserved : goal.loop-pair-preserved
loop-pair-preserved c =
    let is : c.loop-pair.rest.items ≡ c.pop.new.self.items ++ c.in-Some.pair ∷ [] = search rules in
    split_known c.args.pairs.items c.loop-pair.rest.items c.pop.new.self.items c.loop-pair.once.items c.in-Some.pair is
    c.loop-pair.invariant
    (subst (λ l. Contains (helds_of l) (held_of c.in-Some.pair)) c.as_slice.ensures.value
    (c.has_pair.ensures c.if-not-has_pair.false))

pub returns-clause-none_lost : goal.returns-clause-none_lost
returns-clause-none_lost c =
    let none : c.loop-pair.rest.items ≡ [] = search rules in
    split_all c.args.pairs.items c.loop-pair.rest.items c.loop-pair.once.items none c.loop-pair.invariant
