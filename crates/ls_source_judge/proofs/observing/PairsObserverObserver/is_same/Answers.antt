-- Why `PairsObserverObserver::is_same` in src/observing.rt keeps its contract.

use Rattle.std.proofs.Common.{◌∙◌, ap, sym}
use Rattle.ls_automaton.specs.Held.{leaves_none}
use Rattle.ls_source_judge.proofs.observing.PairsObserverObserver.is_same.Goals as goal

pub returns-else-have_same_number : goal.returns-else-have_same_number
returns-else-have_same_number c = λ same.
    ap (leaves_none c.args.self.now.rows.items) (sym c.pairs.ensures)
    ∙ c.are_same_pairs.ensures same c.args.self.now.rows.items
    ∙ ap (leaves_none c.args.self.now.rows.items) c.pairs-else-have_same_number.ensures
