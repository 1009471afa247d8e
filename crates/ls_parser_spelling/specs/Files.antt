-- Which file a text is.
use Rattle.std.specs.Prelude.{◌≡◌, ℕ, List}
use Rattle.ls_tree.specs.Trees as bare
use Rattle.ls_tree.specs.PlacedTrees.{File}
use Rattle.ls_parser_spelling.specs.Spells.{TextSpells}
use Rattle.ls_parser_spelling.specs.FilePlaces.{PlacedIn}
use Rattle.ls_parser_spelling.specs.Unplaced.{unplaced_file}
use Rattle.ls_parser_spelling.specs.Outlines.{file_tree}

-- The text spells a file with its package, imports and modifiers (JLS 7.3). `f` is that file with the places of its
-- tokens in the text, and without package, imports and modifiers.
pub record IsFileOf (text : List ℕ) (f : File) : Type 0 where
  pub tree : bare.File
  pub spelled : TextSpells tree text
  pub placed : PlacedIn f text
  pub forgotten : unplaced_file f ≡ file_tree tree
