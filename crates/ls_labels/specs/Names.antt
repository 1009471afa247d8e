-- The names of classes, fields and methods.
use Rattle.std.specs.Prelude.{ℕ, nat_eq, List, [], ◌∷◌, ◌++◌, Option, Some, None, slice_get, slice_index_or, find, map}
use Rattle.std.specs.Prelude.{option_map, codes}
use Rattle.std.specs.Option.{option_map_or}
use Rattle.ls_checked.specs.CheckedTree.{File}
use Rattle.ls_checked.specs.CheckedProgram.{Program}
use Rattle.ls_checked.specs.Plain.{plain_file}
use Rattle.ls_checked.specs.PlainProgram.{plain_program}
use Rattle.ls_types_elaboration.specs.Known.{ClassSign, MethodSign}
use Rattle.ls_types_elaboration.specs.Tables.{texts_of, class_sign_of}
use Rattle.ls_report.specs.Events.{Text}
use Rattle.ls_labels.specs.declared.names.Names.{Names as GivenNames}

-- the names of the classes and what they declare, by their numbers, the checked file, and the program that is run
pub record Names : Type 0 where
  pub classes : List Text
  pub signs : List ClassSign
  pub file : File
  pub program : Program

abbrev pub names_of : GivenNames → Names
names_of n = record {
  classes = texts_of n.classes.now;
  signs = map class_sign_of n.signs.now;
  file = plain_file n.file.now;
  program = plain_program n.program.now;
}

abbrev pub class_name : Names → ℕ → Text
class_name names class = slice_index_or names.classes class []

-- a field of a class, by its number
abbrev pub field_in : ℕ → ClassSign → Text
field_in field sign = option_map_or (λ f. f.name) (slice_get sign.fields field) []

abbrev pub field_name : Names → ℕ → ℕ → Text
field_name names class field = option_map_or (field_in field) (slice_get names.signs class) []

-- the name of the method that has a number in the file, among those of its class
abbrev pub method_found : List MethodSign → ℕ → Option Text
method_found methods number = option_map (λ m. m.name) (find (λ m. nat_eq m.number number) methods)

-- as `SetList.add`; what isn't among the methods of its class is its constructor, as `new SetList`
abbrev pub member_name : Text → Option Text → Text
member_name class (Some name) = class ++ (46 ∷ name)
member_name class None = codes "new " ++ class

abbrev pub member_in : Names → ℕ → ℕ → Text
member_in names class number =
    option_map_or (λ sign. member_name (class_name names class) (method_found sign.methods number))
    (slice_get names.signs class) []

-- a method or constructor of the file, by its number
abbrev pub method_name : Names → ℕ → Text
method_name names number = option_map_or (λ m. member_in names m.class number) (slice_get names.file.methods number) []
