-- What contracts see of the declarations that are read so far.
use Rattle.std.specs.Prelude.{map}
use Rattle.ls_types_elaboration.specs.Signs as signs
use Rattle.ls_types_tables.specs.ByName.{field_entries_of, method_entries_of, class_entry_of}
use Rattle.ls_types_files.specs.declared.signs.Met.{Met}
use Rattle.ls_types_files.specs.declared.signs.Classes.{Classes}

abbrev pub met_of : Met → signs.Met
met_of m = record {
  fields = field_entries_of m.fields;
  methods = method_entries_of m.methods;
  constructor = m.constructor;
  parameters = m.parameters.items;
  next = m.next;
}

abbrev pub classes_of : Classes → signs.Classes
classes_of c = record { signs = map class_entry_of c.tables.items; next = c.next }
