-- The variables of a kind.
use Rattle.std.specs.Prelude.{ℕ, ◌+◌, Bool, true, false, List, [], ◌∷◌, ◌++◌, codes, length, nat_eq}
use Rattle.std.specs.Prelude.{if◌then◌else◌}
use Rattle.ls_report.specs.Events.{Text}
use Rattle.ls_labels.specs.Names.{Names, class_name, field_name}
use Rattle.ls_race_laws.specs.declared.access.Kind.{Kind}
use Rattle.ls_race_laws.specs.declared.access.Kind.TheVariants.{Field, Element}

-- as `Node.next`
abbrev pub field_text : Names → ℕ → ℕ → Text
field_text names class field = class_name names class ++ (46 ∷ field_name names class field)

abbrev pub or_text : Bool → Text
or_text true = codes " or "
or_text false = []

-- The field of this number of each class with so many fields, from a class on, as `Node.next or Pair.right`. Another
-- may come before it.
abbrev pub fields_text : Names → ℕ → ℕ → ℕ → Bool → List (List Bool) → Text
fields_text names fields field class after [] = []
fields_text names fields field class after (flags ∷ classes) =
    if nat_eq (length flags) fields
    then or_text after ++ (field_text names class field ++ fields_text names fields field (class + 1) true classes)
    else fields_text names fields field (class + 1) after classes

-- the variables of a kind, as `Node.next`
abbrev pub kind_text : Names → List (List Bool) → Kind → Text
kind_text names classes Element = codes "an element of boolean[]"
kind_text names classes (Field fields field) = fields_text names fields field 0 false classes
