-- Why `is_quiet` in src/one_graph.rt keeps its clause `quiet`.
use Rattle.std.proofs.Common.{map, subst}
use Rattle.std.specs.Prelude.{IfOk, IsTrue}
use Rattle.ls_transitions.specs.Seen.{table_of}
use Rattle.ls_races.specs.Sought.{AreQuiet}
use Rattle.ls_races.specs.Volatile.{volatile_by}
use Rattle.ls_races.proofs.one_graph.is_quiet.Goals as goal

pub returns-clause-quiet : goal.returns-clause-quiet
returns-clause-quiet c =
    subst (λ nodes. IfOk c.are_quiet.result (λ b. IsTrue b →
    AreQuiet (volatile_by (map (λ v. v.items) c.args.scope.classes.now)) (table_of c.args.led.now.tables.transitions)
    nodes)) c.deref.ensures.value c.are_quiet.ensures
