-- What a checked file shows.
use Rattle.std.specs.Prelude.{List, map}
use Rattle.ls_checked.specs.Plain.{plain_file}
use Rattle.ls_checked.specs.declared.tree.File.{File}
use Rattle.ls_types_elaboration.specs.Trees.{Text}
use Rattle.ls_types_elaboration.specs.Known.{ClassSign}
use Rattle.ls_types_elaboration.specs.Elaboration.{ElaboratedFile}
use Rattle.ls_types_elaboration.specs.Tables.{texts_of, class_sign_of}
use Rattle.ls_types_checked.specs.declared.checked.Checked.{Checked}

abbrev pub file_of : Checked → File
file_of c = c.file

-- the names of the classes, and what they declare
abbrev pub names_of : Checked → List Text
names_of c = texts_of c.names.items

abbrev pub signs_of : Checked → List ClassSign
signs_of c = map class_sign_of c.signs.items

-- what elaboration answers for the file
abbrev pub elaborated_file : Checked → ElaboratedFile
elaborated_file c = record { names = names_of c; signs = signs_of c; file = plain_file (file_of c) }
