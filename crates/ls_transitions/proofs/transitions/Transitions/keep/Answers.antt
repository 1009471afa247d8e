-- Why `Transitions::keep` in src/transitions.rt keeps its contract.

use Rattle.std.proofs.Common.{[], ◌∷◌, ◌++◌, sym, ap, subst, ◌∙◌}
use Rattle.ls_transitions.specs.SeenTables.{tables_of}
use Rattle.ls_transitions.specs.Known.{AreKnown}
use Rattle.ls_transitions.proofs.Knowing.{one_known}
use Rattle.ls_transitions.proofs.transitions.Transitions.keep.Goals as goal

pub invariant_of-self : goal.invariant_of-self
invariant_of-self c = record {
  known = subst (AreKnown (tables_of c.args.self.now.tables)) (sym c.reserve.ensures.items) c.args.self.now.known;
}

pub invariant_of-self-in-Break-branch-2 : goal.invariant_of-self-in-Break-branch-2
invariant_of-self-in-Break-branch-2 c = record {
  known = subst (AreKnown (tables_of c.args.self.now.tables)) (sym c.reserve.ensures.items) c.args.self.now.known;
}

pub invariant_of-self-2 : goal.invariant_of-self-2
invariant_of-self-2 c = record {
  known = one_known (tables_of c.args.self.now.tables) c.args.self.now.rows.items c.push_reserved.new.self.items
      c.args.row (c.push_reserved.ensures.items ∙ ap (λ l. l ++ c.args.row ∷ []) c.reserve.ensures.items)
      c.args.self.now.known c.requires;
}
