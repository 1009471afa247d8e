-- Why `step_then` in src/tabling.rt keeps its clause `leads`.

use Rattle.std.proofs.Common.{◌≡◌, subst}
use Rattle.ls_automaton.specs.Held.{helds_of, leaves_none}
use Rattle.ls_linearizable.specs.Judging.{later}
use Rattle.ls_source_judge.proofs.Steps.{leads_by}
use Rattle.ls_source_judge.proofs.tabling.step_then.Goals as goal

pub returns-clause-leads : goal.returns-clause-leads
returns-clause-leads c =
    leads_by c.args.rows.now c.args.known.now.items c.number_of_pairs.new.known.items c.args.at c.in_ok-after.after
    c.in_ok-pairs.pairs.items c.index.result.now c.args.event.now c.requires c.index.ensures c.in_ok-after.ensures
    (subst (λ l. leaves_none c.args.rows.now (helds_of c.in_ok-pairs.pairs.items)
    ≡ later (leaves_none c.args.rows.now (helds_of l)) c.args.event.now) c.as_slice.ensures.value
    c.in_ok-pairs.ensures.left)
