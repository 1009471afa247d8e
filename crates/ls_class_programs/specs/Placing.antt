-- Where a class text has the method of a call.
use Rattle.std.specs.Prelude.{◌≡◌, ◌==◌, ℕ, Bool, List, [], ◌∷◌, ◌++◌, Some, cond, codes, slice_get}
use Rattle.std.specs.List.{starts_with}
use Rattle.ls_lexer.specs.declared.token.Span.{Span}
use Rattle.ls_tree.specs.Trees.{File, Text}
use Rattle.ls_tree.specs.PlacedTrees as placed
use Rattle.ls_parser_spelling.specs.Files.{IsFileOf}
use Rattle.ls_parser_spelling.specs.Spelling.{spell}
use Rattle.ls_parser_spelling.specs.Spells.{TextSpells}
use Rattle.ls_class_programs.specs.Chosen.{chosen}
use Rattle.ls_class_programs.specs.declared.choosing.Choosing.{Choosing}

-- a call of the method of a name, as `s.add(1);`, begins so
abbrev pub begun : Text → Text
begun name = codes "s." ++ (name ++ codes "(")

abbrev pub is_call_of : Text → Text → Bool
is_call_of name call = starts_with ◌==◌ call (begun name)

-- the name of the first method of these whose call it is; else this place
abbrev pub place_among : Text → Span → List placed.Member → Span
place_among call other [] = other
place_among call other (placed.Fields declaration ∷ more) = place_among call other more
place_among call other (placed.Method locked result name parameters body ∷ more) =
    cond (is_call_of name.text call) name.span (place_among call other more)
place_among call other (placed.Constructor name parameters body ∷ more) = place_among call other more

-- of a call that is none of a method, as the empty one, the name of the class
abbrev pub place_in : Text → placed.ClassTree → Span
place_in call c = place_among call c.name.span c.members

-- The class text is a file with these places, a class of it is chosen, and this is the call's place in that class.
pub record IsPlaceOf (o : Choosing) (classes call : Text) (span : Span) : Type 0 where
  pub file : placed.File
  pub is_file : IsFileOf classes file
  pub tree : File
  pub spelled : TextSpells tree classes
  pub at : ℕ
  pub chosen : chosen o.class (spell tree) tree.classes ≡ Some at
  pub class : placed.ClassTree
  pub there : slice_get file.classes at ≡ Some class
  pub is : span ≡ place_in call class
