-- The calls that a program makes on an object of a class, and how it makes the object.
use Rattle.std.specs.Prelude.{ℕ, ◌-◌, Bool, true, false, ◌&&◌, ◌||◌, not, List, [], ◌∷◌, ◌++◌, bytes_eq, codes, map}
use Rattle.std.specs.Prelude.{drop, take}
use Rattle.std.specs.Prelude.{Option}
use Rattle.std.specs.Prelude.{Some}
use Rattle.std.specs.Prelude.{None}
use Rattle.std.specs.List.{flat_map, list_any}
use Rattle.ls_class_programs.specs.declared.arguments.Integers.{Integers}
use Rattle.ls_tree.specs.Trees as trees
use Rattle.ls_tree.specs.Trees.{ClassTree, Member, Modifier, Parameter, Text, TypeName}

abbrev pub integers : List Text
integers =
    codes "1" ∷ codes "2" ∷ codes "3" ∷ codes "4" ∷ codes "5" ∷ codes "6" ∷ codes "7" ∷ codes "8" ∷ codes "9" ∷ []

abbrev pub booleans : List Text
booleans = codes "false" ∷ codes "true" ∷ []

-- the first so many integers, and those from one to another
abbrev pub up_to : ℕ → List Text
up_to most = take most integers

abbrev pub from_to : Integers → List Text
from_to is = drop (is.first - 1) (up_to is.last)

-- what an argument of a type may be: one of these integers, or a boolean; a reference may not be given
abbrev pub arguments_of : List Text → TypeName → List Text
arguments_of ints trees.Int = ints
arguments_of ints trees.Boolean = booleans
arguments_of ints trees.BooleanArray = []
arguments_of ints (trees.Class name) = []
arguments_of ints (trees.Markable name) = []

-- one more argument: there is a comma before it, but for the first
abbrev pub and_then : Text → Text → Text
and_then [] argument = argument
and_then (c ∷ begun) argument = (c ∷ begun) ++ (codes ", " ++ argument)

-- each of these lists of arguments with each of those arguments after it: the last argument changes first
abbrev pub with_argument : List Text → List Text → List Text
with_argument begun more = flat_map (λ b. map (and_then b) more) begun

-- these lists of arguments, with arguments for more parameters
abbrev pub with_arguments : List Text → List Text → List Parameter → List Text
with_arguments ints begun [] = begun
with_arguments ints begun (p ∷ more) = with_arguments ints (with_argument begun (arguments_of ints p.type_name)) more

-- all lists of arguments for these parameters, none if one of them is a reference; an int of the first parameter is one
-- of the first integers
abbrev pub all_arguments : List Text → List Text → List Parameter → List Text
all_arguments firsts ints [] = [] ∷ []
all_arguments firsts ints (p ∷ more) =
    with_arguments ints (with_argument ([] ∷ []) (arguments_of firsts p.type_name)) more

-- ---- calls

abbrev pub is_private : Modifier → Bool
is_private trees.Private = true
is_private trees.Public = false
is_private trees.Protected = false
is_private trees.Final = false
is_private trees.Volatile = false
is_private (trees.Annotation name) = false

-- nothing, an int or a boolean
abbrev pub is_plain : Option TypeName → Bool
is_plain None = true
is_plain (Some trees.Int) = true
is_plain (Some trees.Boolean) = true
is_plain (Some trees.BooleanArray) = false
is_plain (Some (trees.Class name)) = false
is_plain (Some (trees.Markable name)) = false

-- whether a method may be called: none of its modifiers is `private`, and it answers no reference
abbrev pub is_callable : List Modifier → List (List Modifier) → Option TypeName → Bool
is_callable modifiers locked result =
    not (list_any is_private modifiers) && (not (list_any (list_any is_private) locked) && is_plain result)

-- the annotation `@ThreadNumber` of a method says that its first int is the number of the thread that calls it
abbrev pub is_of_number : Modifier → Bool
is_of_number trees.Private = false
is_of_number trees.Public = false
is_of_number trees.Protected = false
is_of_number trees.Final = false
is_of_number trees.Volatile = false
is_of_number (trees.Annotation name) = bytes_eq name (codes "ThreadNumber")

-- whether a method has the annotation
abbrev pub is_numbered : List Modifier → List (List Modifier) → Bool
is_numbered modifiers locked = list_any is_of_number modifiers || list_any (list_any is_of_number) locked

-- what its first int may be: the number of the thread, or one of these integers
abbrev pub firsts_of : Bool → List Text → List Text
firsts_of true ints = codes "#" ∷ []
firsts_of false ints = ints

-- as `s.add(1);`
abbrev pub call_text : Text → Text → Text
call_text name arguments = codes "s." ++ (name ++ (codes "(" ++ (arguments ++ codes ");")))

abbrev pub calls_if : Bool → Bool → ℕ → Text → List Parameter → List Text
calls_if true numbered most name parameters =
    map (call_text name) (all_arguments (firsts_of numbered (up_to most)) (up_to most) parameters)
calls_if false numbered most name parameters = []

abbrev pub member_calls : ℕ → Member → List Text
member_calls most (trees.Fields declaration) = []
member_calls most (trees.Method modifiers locked result name parameters body) =
    calls_if (is_callable modifiers locked result) (is_numbered modifiers locked) most name parameters
member_calls most (trees.Constructor modifiers name parameters body) = []

-- the calls of a class: of each method that may be called, with all its arguments
abbrev pub class_calls : ℕ → ClassTree → List Text
class_calls most c = flat_map (member_calls most) c.members

-- ---- the making

-- those of the first constructor; a class without one has no parameters
abbrev pub constructor_parameters : List Member → List Parameter
constructor_parameters [] = []
constructor_parameters (trees.Constructor modifiers name parameters body ∷ more) = parameters
constructor_parameters (trees.Method modifiers locked result name parameters body ∷ more) = constructor_parameters more
constructor_parameters (trees.Fields declaration ∷ more) = constructor_parameters more

-- as `s = new C(1);`
abbrev pub making_text : Text → Text → Text
making_text name arguments = codes "s = new " ++ (name ++ (codes "(" ++ (arguments ++ codes ");")))

-- all ways to make an object of a class whose constructor is given these integers
abbrev pub makings : Integers → ClassTree → List Text
makings given c =
    map (making_text c.name) (all_arguments (from_to given) (from_to given) (constructor_parameters c.members))
