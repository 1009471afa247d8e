-- What the stores and the works that the code keeps stand for.
use Rattle.std.specs.Prelude.{[], map}
use Rattle.ls_checked.specs.CheckedTree.{File}
use Rattle.ls_checked.specs.CheckedProgram.{Program}
use Rattle.ls_checked.specs.Plain.{plain_file}
use Rattle.ls_checked.specs.PlainProgram.{plain_program}
use Rattle.ls_source_store.specs.SeenStore.{store_of}
use Rattle.ls_source.specs.SeenThread.{thread_of}
use Rattle.ls_transitions.specs.declared.tables.Tables.{Tables}
use Rattle.ls_transitions.specs.Tables.{Table}

abbrev pub tables_of : Tables → Table
tables_of t = record {
  file = plain_file t.file.now;
  program = plain_program t.program.now;
  stores = map store_of t.stores.items;
  works = map thread_of t.works.items;
}

-- a table without stores and works
abbrev pub no_table : File → Program → Table
no_table file program = record { file = file; program = program; stores = []; works = [] }
