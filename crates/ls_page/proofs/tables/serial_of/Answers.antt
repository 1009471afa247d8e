-- Why `serial_of` in src/tables.rt keeps its contract.

use Rattle.std.proofs.Common.{Option, None, Some, IfNone, IfSome, subst}
use Rattle.ls_checked.specs.CheckedProgram.{Program}
use Rattle.ls_checked.specs.CheckedTree.{File}
use Rattle.ls_labels.specs.Names.{names_of}
use Rattle.ls_linearity.specs.Tabled.{IsTableOf, most_states}
use Rattle.ls_linearity.specs.declared.table.SerialTable.{SerialTable}
use Rattle.ls_serial_search.specs.Open.{HasManyOrders}
use Rattle.ls_serial_search.specs.Told.{usual}
use Rattle.ls_specification.specs.Specification.{spec_file, spec_program}
use Rattle.ls_page.specs.ChoicesData.{IsSerialTable, reference_of, serial_program}
use Rattle.ls_page.proofs.tables.serial_of.Goals as goal

is_table : (file : File) (program : Program) (o : Option SerialTable) →
    IfSome o (IsTableOf file program usual) → IfNone o (HasManyOrders file program most_states) →
    IsSerialTable file program o
is_table file program None table many = many
is_table file program (Some t) table many = table

pub returns : goal.returns
returns c =
    let sfile = spec_file c.specification_in-specification.result in
    let sprogram = spec_program c.specification_in-specification.result in
    let found = c.in_ok-found.found in
    subst (λ (f : File). IsSerialTable f (serial_program (reference_of c.args.reference) (names_of c.args.names)) found)
    c.specification_in-specification.ensures.file
    (subst (λ (p : Program). IsSerialTable sfile p found) c.specification_in-specification.ensures.program
    (is_table sfile sprogram found c.in_ok-found.ensures.table c.in_ok-found.ensures.many))
