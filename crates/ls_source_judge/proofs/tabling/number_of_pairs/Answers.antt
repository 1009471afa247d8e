-- Why `number_of_pairs` in src/tabling.rt keeps its contract.

use Rattle.std.proofs.Common.{◌≡◌, ◌<◌, ap, arith, length, subst, ◌∙◌}
use Rattle.ls_automaton.specs.Held.{helds_of, leaves_none}
use Rattle.ls_source_judge.specs.Stepped.{verdict_in}
use Rattle.ls_source_judge.proofs.Steps.{known_again, known_new}
use Rattle.ls_source_judge.proofs.tabling.number_of_pairs.Goals as goal

pub returns-in-Some : goal.returns-in-Some
returns-in-Some c =
    known_again c.args.known.now.items c.in-Some.number c.args.pairs.items
    (subst (λ l. c.in-Some.number < length l) c.as_slice-2.ensures.value c.in-Some.ensures.below)
    (λ rows. subst (λ l. verdict_in rows l c.in-Some.number ≡ leaves_none rows (helds_of c.args.pairs.items))
    c.as_slice-2.ensures.value (c.in-Some.ensures.is rows
    ∙ ap (λ l. leaves_none rows (helds_of l)) c.as_slice-4.ensures.value))

pub returns : goal.returns
returns c =
    known_new c.args.known.now.items c.push-2.new.self.items c.len-number.result (record { pairs = c.args.pairs })
    c.in_ok-push-2.ensures.items (omega arith)
