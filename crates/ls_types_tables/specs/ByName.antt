-- What contracts see of tables by name: lists by number.
use Rattle.std.specs.Global.{Global}
use Rattle.std.specs.Prelude.{List, map, String, string_bytes}
use Rattle.indexmap.specs.IndexMap.{IndexMap}
use Rattle.indexmap.specs.IndexSet.{IndexSet}
use Rattle.ls_events.specs.declared.value.ValueType.{ValueType}
use Rattle.ls_types_elaboration.specs.Trees.{Text}
use Rattle.ls_types_elaboration.specs.Known as known
use Rattle.ls_types_tables.specs.declared.tables.MethodEntry.{MethodEntry}
use Rattle.ls_types_tables.specs.declared.tables.ClassTables.{ClassTables}
use Rattle.ls_types_tables.specs.declared.known.Known.{Known}

-- the names in a set
abbrev pub keys_of : {S : Type 0} → IndexSet (String Global) S → List Text
keys_of names = map string_bytes names.keys

abbrev pub field_entry : Text → ValueType → known.FieldSign
field_entry name t = record { name = name; type = t }

abbrev pub field_entries_of : {S : Type 0} → IndexMap (String Global) ValueType S → List known.FieldSign
field_entries_of fields = map (λ f. field_entry (string_bytes f.0) f.1) fields.entries

abbrev pub method_entry : Text → MethodEntry → known.MethodSign
method_entry name m = record { name = name; number = m.number; parameters = m.parameters.items; result = m.result }

abbrev pub method_entries_of : {S : Type 0} → IndexMap (String Global) MethodEntry S → List known.MethodSign
method_entries_of methods = map (λ m. method_entry (string_bytes m.0) m.1) methods.entries

-- what a class declares
abbrev pub class_entry_of : ClassTables → known.ClassSign
class_entry_of c = record {
  fields = field_entries_of c.fields;
  methods = method_entries_of c.methods;
  constructor = c.constructor;
  parameters = c.parameters.items;
}

abbrev pub known_of : Known → known.Known
known_of k = record { names = keys_of k.names.now; classes = map class_entry_of k.classes.now; own = k.own }
