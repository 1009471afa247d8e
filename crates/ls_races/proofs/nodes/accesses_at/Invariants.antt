-- What the loop `thread` of `accesses_at` in src/nodes.rt keeps.
use Rattle.std.proofs.Common.{map}
use Rattle.ls_search_laws.specs.Configuration.{stride}
use Rattle.ls_transitions.specs.Seen.{table_of}
use Rattle.ls_transitions.specs.Tables.{Grows}
use Rattle.ls_search.specs.Places.{configuration_of}
use Rattle.ls_races.specs.Met.{AreNext}
use Rattle.ls_races.specs.Volatile.{volatile_by}
use Rattle.ls_races.proofs.nodes.accesses_at.Given as goal

abbrev pub invariant-loop-thread : goal.invariant-loop-thread
invariant-loop-thread l = record {
  grows : Grows (table_of l.fn.transitions) (table_of l.transitions);
  next : AreNext (volatile_by (map (λ v. v.items) l.classes))
      (configuration_of (table_of l.fn.transitions) l.place).store
      (λ u. (stride (table_of l.fn.transitions).file (configuration_of (table_of l.fn.transitions) l.place) u).did)
      l.thread l.accesses.items;
}
