-- Why `pairs_after` in src/pairs.rt keeps its contract.

use Rattle.std.proofs.Common.{◌⊎◌, ◌∙◌, Contains, subst}
use Rattle.std.specs.List.{flat_map}
use Rattle.ls_automaton.specs.Held.{AreAmong, Held, IsCovered, helds_of, moved}
use Rattle.ls_automaton.proofs.Covering.{covered_judge, none_among}
use Rattle.ls_automaton.proofs.Ending.{moved_judge, same_judge}
use Rattle.ls_automaton.proofs.pairs.pairs_after.Goals as goal

pub returns-clause-left : goal.returns-clause-left
returns-clause-left c =
    covered_judge c.args.rows.now (helds_of c.in_ok-once.once.items) (helds_of c.in_ok-left.left.items)
    (subst (λ l. AreAmong (helds_of c.in_ok-left.left.items) (helds_of l)) c.as_slice.ensures.value
    c.in_ok-left.ensures.none_new)
    (subst (λ l. (q : Held) → Contains (helds_of l) q → Contains (helds_of c.in_ok-left.left.items) q
    ⊎ IsCovered c.args.rows.now (helds_of l) q) c.as_slice.ensures.value c.in_ok-left.ensures.none_lost)
    ∙ same_judge c.args.rows.now (helds_of c.in_ok-once.once.items) (helds_of c.in_ok-found.found.items)
    c.in_ok-once.ensures.none_new c.in_ok-once.ensures.none_lost
    ∙ same_judge c.args.rows.now (helds_of c.in_ok-found.found.items)
    (flat_map (moved c.args.rows.now c.args.event.now) (helds_of c.args.pairs.now)) c.in_ok-found.ensures.0
    c.in_ok-found.ensures.1
    ∙ moved_judge c.args.rows.now (helds_of c.args.pairs.now) c.args.event.now

pub returns-clause-none_covered : goal.returns-clause-none_covered
returns-clause-none_covered c =
    none_among c.args.rows.now (helds_of c.as_slice.result.now) (helds_of c.in_ok-left.left.items)
    c.in_ok-left.ensures.none_new c.in_ok-left.ensures.none_covered
