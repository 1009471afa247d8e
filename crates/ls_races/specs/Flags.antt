-- Which fields a class text declares volatile.
use Rattle.std.specs.Prelude.{Bool, true, false, List, [], ◌∷◌, map}
use Rattle.std.specs.List.{flat_map, list_any}
use Rattle.ls_tree.specs.Trees as trees
use Rattle.ls_tree.specs.Trees.{ClassTree, Declaration, Member, Modifier}

abbrev pub is_volatile : Modifier → Bool
is_volatile trees.Volatile = true
is_volatile trees.Public = false
is_volatile trees.Protected = false
is_volatile trees.Private = false
is_volatile trees.Final = false
is_volatile (trees.Annotation name) = false

-- the same flag for each declarator
abbrev pub declared_flags : Bool → Declaration → List Bool
declared_flags flag d = flag ∷ map (λ more. flag) d.more

-- a flag for each field that a member declares
abbrev pub member_flags : Member → List Bool
member_flags (trees.Fields d) = declared_flags (list_any is_volatile d.modifiers) d
member_flags (trees.Method modifiers locked result name parameters body) = []
member_flags (trees.Constructor modifiers name parameters body) = []

abbrev pub class_flags : ClassTree → List Bool
class_flags class = flat_map member_flags class.members

-- for each class whether its fields are volatile, in the order in which they are declared
abbrev pub flags_of : List ClassTree → List (List Bool)
flags_of classes = map class_flags classes
