-- Why `Transitions::store_number` in src/transitions.rt keeps its contract.

use Rattle.ls_transitions.specs.SeenTables.{tables_of}
use Rattle.ls_transitions.proofs.Knowing.{still_known}
use Rattle.ls_transitions.proofs.transitions.Transitions.store_number.Goals as goal

pub invariant_of-self : goal.invariant_of-self
invariant_of-self c = record {
  known = still_known (tables_of c.args.self.now.tables) (tables_of c.keep_store.new.self) c.args.self.now.rows.items
      c.keep_store.ensures.grows c.args.self.now.known;
}
