-- Why `known_pairs` in src/tabling.rt keeps its clause `is`.

use Rattle.std.proofs.Common.{◌∙◌, Some, ap, arith, sym}
use Rattle.ls_automaton.specs.Held.{helds_of, leaves_none}
use Rattle.ls_serial.proofs.Lists.{is_get}
use Rattle.ls_source_judge.specs.Stepped.{pairs_in}
use Rattle.ls_source_judge.specs.declared.tabling.Pairs.{Pairs}
use Rattle.ls_source_judge.proofs.tabling.known_pairs.Goals as goal

pub returns-then-are_same_pairs-clause-is : goal.returns-then-are_same_pairs-clause-is
returns-then-are_same_pairs-clause-is c = λ rows.
    ap (λ o. leaves_none rows (pairs_in o))
    (is_get c.args.known.now c.in_ok-place.place c.index-known-place.result (omega (arith, c.if-place-known.false))
    ∙ ap Some (sym c.index-known-place.is))
    ∙ ap (λ (p : Pairs). leaves_none rows (helds_of p.pairs.items)) c.index-known-place.is
    ∙ ap (λ l. leaves_none rows (helds_of l)) (sym c.as_slice.ensures.value)
    ∙ c.are_same_pairs.ensures c.if-are_same_pairs.true rows
