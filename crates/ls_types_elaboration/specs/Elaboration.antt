-- The checked file of a text's tree, or the first broken rule and its place.
use Rattle.std.specs.Prelude.{ℕ, ◌+◌, List, [], map, Ok}
use Rattle.ls_checked.specs.CheckedTree as checked
use Rattle.ls_types_elaboration.specs.Trees.{Text, ClassTree, File}
use Rattle.ls_types_elaboration.specs.Elaborated.{Elaborated, with_ok, each}
use Rattle.ls_types_elaboration.specs.Known.{ClassSign}
use Rattle.ls_types_elaboration.specs.TypedMethods.{class_methods}
use Rattle.ls_types_elaboration.specs.Signs.{class_names, class_signs}

-- the methods so far, and the number of the next class
pub record Bodies : Type 0 where
  pub methods : List checked.Method
  pub own : ℕ

abbrev pub one_body : List Text → List ClassSign → Bodies → ClassTree → Elaborated Bodies
one_body names signs bodies c =
    with_ok (class_methods (record { names = names; classes = signs; own = bodies.own }) bodies.methods c.members)
    (λ ms.
    Ok (record { methods = ms; own = bodies.own + 1 }))

abbrev pub file_methods : List Text → List ClassSign → List ClassTree → Elaborated Bodies
file_methods names signs classes = each (one_body names signs) (record { methods = []; own = 0 }) classes

abbrev pub checked_class : ClassSign → checked.Class
checked_class s = record { fields = map (λ f. f.type) s.fields; constructor = s.constructor }

-- the names of the classes, what they declare, and the checked file
pub record ElaboratedFile : Type 0 where
  pub names : List Text
  pub signs : List ClassSign
  pub file : checked.File

-- the declarations of all classes come first, since a body may use those that come after it (JLS 6.3, 8.3.3)
abbrev pub elaborated : File → Elaborated ElaboratedFile
elaborated file =
    with_ok (class_names file.classes) (λ names.
    with_ok (class_signs names file.classes) (λ classes.
    with_ok (file_methods names classes.signs file.classes) (λ bodies.
    Ok (record {
      names = names;
      signs = classes.signs;
      file = record { classes = map checked_class classes.signs; methods = bodies.methods };
    }))))
