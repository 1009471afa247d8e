-- Why `add_taking` in src/pairs.rt keeps its contract.

use Rattle.std.proofs.Common.{◌++◌, ◌∷◌, ◌∙◌, [], ap, append-nil, if◌then◌else◌, sym}
use Rattle.ls_automaton.specs.Held.{Held, held_of, helds_of, taking}
use Rattle.ls_automaton.proofs.Layers.{same_along, same_as}
use Rattle.ls_automaton.proofs.pairs.add_taking.Goals as goal

pub returns-then-not-may_take : goal.returns-then-not-may_take
returns-then-not-may_take c =
    same_as _ _ (sym (ap (λ b. helds_of c.args.next.now.items ++
    (if b then taking (held_of c.args.pair.now) c.args.outcome.now ∷ [] else []))
    (sym c.may_take.ensures ∙ c.if-not-may_take.true) ∙ append-nil (helds_of c.args.next.now.items)))

pub returns : goal.returns
returns c =
    same_along (helds_of c.push_new.new.pairs.items)
    (helds_of c.args.next.now.items ++ held_of c.in_ok-taking.taking ∷ []) _ c.in_ok-push_new.ensures
    (same_as _ _ (ap (λ (q : Held). helds_of c.args.next.now.items ++ q ∷ []) c.in_ok-taking.ensures
    ∙ sym (ap (λ b. helds_of c.args.next.now.items ++
    (if b then taking (held_of c.args.pair.now) c.args.outcome.now ∷ [] else []))
    (sym c.may_take.ensures ∙ c.if-not-may_take.false))))
