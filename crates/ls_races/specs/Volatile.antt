-- Which fields are volatile, by the flags of each class's fields.
use Rattle.std.specs.Prelude.{ℕ, Bool, true, false, ◌&&◌, not, nat_eq, List, [], ◌∷◌, length, slice_index_or}
use Rattle.std.specs.Prelude.{if◌then◌else◌}
use Rattle.ls_race_laws.specs.Accesses.{Volatile}
use Rattle.ls_race_laws.specs.declared.access.Kind.{Kind}
use Rattle.ls_race_laws.specs.declared.access.Kind.TheVariants.{Field, Element}

-- A field of an object with so many fields is volatile if each class with as many declares it so. Objects of classes
-- with as many fields aren't told apart, so this holds of a field only if it is volatile whatever the class.
abbrev pub volatile_by : List (List Bool) → Volatile
volatile_by [] n f = true
volatile_by (flags ∷ classes) n f =
    if nat_eq (length flags) n && not (slice_index_or flags f false) then false else volatile_by classes n f

-- whether a class with so many fields declares it volatile
abbrev pub is_any_volatile : List (List Bool) → ℕ → ℕ → Bool
is_any_volatile [] n f = false
is_any_volatile (flags ∷ classes) n f =
    if nat_eq (length flags) n && slice_index_or flags f false then true else is_any_volatile classes n f

-- whether it isn't known of a variable of this kind that isn't volatile in each class, since it is in one
abbrev pub is_unsure : List (List Bool) → Kind → Bool
is_unsure classes (Field fields field) = is_any_volatile classes fields field
is_unsure classes Element = false
