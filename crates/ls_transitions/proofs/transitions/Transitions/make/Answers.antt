-- Why `Transitions::make` in src/transitions.rt keeps what `keep` requires.

use Rattle.ls_transitions.specs.SeenTables.{tables_of}
use Rattle.ls_transitions.proofs.Knowing.{still_known, known_now}
use Rattle.ls_transitions.proofs.transitions.Transitions.make.Goals as goal

pub invariant_of-self : goal.invariant_of-self
invariant_of-self c = record {
  known = still_known (tables_of c.args.self.now.tables) (tables_of c.make.new.self) c.args.self.now.rows.items
      c.make.ensures.grows c.args.self.now.known;
}

pub keep-requires : goal.keep-requires
keep-requires c =
    known_now (tables_of c.args.self.now.tables) (tables_of c.make.new.self) c.args.thread c.args.store c.args.work
    c.in_ok-made.made c.make.ensures.grows c.requires.store c.requires.work c.in_ok-made.ensures.made
