-- Why `Transitions::work_number` in src/transitions.rt keeps its contract.

use Rattle.ls_transitions.specs.SeenTables.{tables_of}
use Rattle.ls_transitions.proofs.Knowing.{still_known}
use Rattle.ls_transitions.proofs.transitions.Transitions.work_number.Goals as goal

pub invariant_of-self : goal.invariant_of-self
invariant_of-self c = record {
  known = still_known (tables_of c.args.self.now.tables) (tables_of c.keep_work.new.self) c.args.self.now.rows.items
      c.keep_work.ensures.grows c.args.self.now.known;
}
