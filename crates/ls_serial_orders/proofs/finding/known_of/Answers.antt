-- Why `known_of` in src/finding.rt keeps its contract.

use Rattle.std.proofs.Common.{◌≡◌, Option, Some, None, true, refl, subst}
use Rattle.std.specs.Prelude.{IfNone, IfSome}
use Rattle.ls_checked.specs.CheckedTree.{File}
use Rattle.ls_checked.specs.CheckedProgram.{Program}
use Rattle.ls_checked.specs.Plain.{plain_file}
use Rattle.ls_checked.specs.PlainProgram.{plain_program}
use Rattle.ls_serial_search.specs.Open.{HasLongCall, HasManyOrders}
use Rattle.ls_serial_search.specs.Told.{usual}
use Rattle.ls_serial_search.specs.declared.telling.Bounds.{Bounds}
use Rattle.ls_automaton.specs.Tables.{AreOutcomes}
use Rattle.ls_automaton.specs.declared.table.Table.{Table}
use Rattle.ls_serial_orders.specs.Known.{IsTable, most_states}
use Rattle.ls_serial_orders.proofs.finding.known_of.Goals as goal

is_table : (file : File) (program : Program) (b : Bounds) (o : Option Table) → b ≡ usual →
    IfSome o (λ t. AreOutcomes file program b.steps t.goes_on t.rows.items) →
    IfSome o (λ t. t.goes_on ≡ true → HasLongCall file program b.steps) →
    IfNone o (HasManyOrders file program most_states) →
    IsTable file program o
is_table file program b None is outcomes long many = many
is_table file program b (Some t) is outcomes long many = record {
  are = subst (λ (z : Bounds). AreOutcomes file program z.steps t.goes_on t.rows.items) is outcomes;
  long = subst (λ (z : Bounds). t.goes_on ≡ true → HasLongCall file program z.steps) is long;
}

pub returns : goal.returns
returns c = record {
  known = is_table (plain_file c.args.file.now) (plain_program c.args.program.now) c.usual-bounds.result
      c.in_ok-table.table c.usual-bounds.ensures c.in_ok-table.ensures.outcomes c.in_ok-table.ensures.long
      c.in_ok-table.ensures.many;
  file = refl;
  program = refl;
}
