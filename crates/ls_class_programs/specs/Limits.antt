-- Menus that are too large.
use Rattle.std.specs.Prelude.{ℕ, ◌<◌, List, [], Contains, length, take}
use Rattle.ls_tree.specs.Trees as trees
use Rattle.ls_tree.specs.Trees.{ClassTree, Member, Parameter, Text}
use Rattle.ls_class_programs.specs.Menus.{all_arguments, firsts_of, is_numbered, up_to, with_arguments}

-- with arguments for some first ones of these parameters there are more than 1,000 lists
abbrev pub HaveTooMany : List Text → List Text → List Parameter → Type 0
HaveTooMany ints begun parameters = (k : ℕ) × (1000 < length (with_arguments ints begun (take k parameters)))

-- some first ones of these parameters have more than 1,000 lists of arguments
abbrev pub AreTooMany : List Text → List Text → List Parameter → Type 0
AreTooMany firsts ints parameters = (k : ℕ) × (1000 < length (all_arguments firsts ints (take k parameters)))

abbrev pub HasTooMany : ℕ → Member → Type 0
HasTooMany most (trees.Fields declaration) = AreTooMany (up_to most) (up_to most) []
HasTooMany most (trees.Method modifiers locked result name parameters body) =
    AreTooMany (firsts_of (is_numbered modifiers locked) (up_to most)) (up_to most) parameters
HasTooMany most (trees.Constructor modifiers name parameters body) =
    AreTooMany (up_to most) (up_to most) parameters

-- so have those of a member of the class
abbrev pub ClassHasTooMany : ℕ → ClassTree → Type 0
ClassHasTooMany most c = (m : Member) × Contains c.members m × HasTooMany most m
