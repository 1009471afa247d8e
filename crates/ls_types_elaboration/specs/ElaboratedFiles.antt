-- What contracts see of a file's elaboration.
use Rattle.std.specs.Prelude.{map}
use Rattle.ls_checked.specs.Plain.{plain_file}
use Rattle.ls_types_elaboration.specs.declared.elaborated_file.ElaboratedFile.{ElaboratedFile}
use Rattle.ls_types_elaboration.specs.Elaboration as elaboration
use Rattle.ls_types_elaboration.specs.Tables.{texts_of, class_sign_of}

abbrev pub elaborated_file : ElaboratedFile → elaboration.ElaboratedFile
elaborated_file o = record {
  names = texts_of o.names.items;
  signs = map class_sign_of o.signs.items;
  file = plain_file o.file;
}
