-- Why `Transitions::next` in src/transitions.rt keeps its clause `made`.

use Rattle.std.proofs.Common.{sym, ap, ◌∙◌}
use Rattle.std.specs.Prelude.{slice_get}
use Rattle.ls_transitions.specs.SeenTables.{tables_of}
use Rattle.ls_transitions.proofs.Knowing.{known_move}
use Rattle.ls_transitions.proofs.transitions.Transitions.next.Goals as goal

pub returns-in-Some-clause-made : goal.returns-in-Some-clause-made
returns-in-Some-clause-made c =
    known_move (tables_of c.args.self.now.tables) c.args.self.now.rows.items c.in-Some.ensures.0 c.args.thread
    c.args.store c.args.work c.in-Some.made c.args.self.now.known
    (ap (λ l. slice_get l c.in-Some.ensures.0) (sym c.deref.ensures.value) ∙ c.in-Some.ensures.1)
