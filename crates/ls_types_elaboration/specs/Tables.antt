-- What contracts see of what a text declares.
use Rattle.std.specs.Global.{Global}
use Rattle.std.specs.Prelude.{List, map, String, string_bytes}
use Rattle.ls_types_elaboration.specs.Trees.{Text}
use Rattle.ls_types_elaboration.specs.Known as known
use Rattle.ls_types_elaboration.specs.declared.known.Local.{Local}
use Rattle.ls_types_elaboration.specs.declared.known.FieldSign.{FieldSign}
use Rattle.ls_types_elaboration.specs.declared.known.MethodSign.{MethodSign}
use Rattle.ls_types_elaboration.specs.declared.known.ClassSign.{ClassSign}

abbrev pub local_of : Local → known.Local
local_of l = record { name = l.name.now; type = l.value_type; slot = l.slot }

-- names by their numbers
abbrev pub texts_of : List (String Global) → List Text
texts_of names = map string_bytes names

abbrev pub field_sign_of : FieldSign → known.FieldSign
field_sign_of f = record { name = string_bytes f.name; type = f.value_type }

abbrev pub method_sign_of : MethodSign → known.MethodSign
method_sign_of m = record {
  name = string_bytes m.name;
  number = m.number;
  parameters = m.parameters.items;
  result = m.result;
}

-- what a class declares: fields by their numbers
abbrev pub class_sign_of : ClassSign → known.ClassSign
class_sign_of c = record {
  fields = map field_sign_of c.fields.items;
  methods = map method_sign_of c.methods.items;
  constructor = c.constructor;
  parameters = c.parameters.items;
}
