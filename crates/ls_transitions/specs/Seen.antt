-- The table that transitions stand for.
use Rattle.ls_transitions.specs.declared.transitions.Transitions.{Transitions}
use Rattle.ls_transitions.specs.Tables.{Table}
use Rattle.ls_transitions.specs.SeenTables.{tables_of}

abbrev pub table_of : Transitions → Table
table_of t = tables_of t.tables
