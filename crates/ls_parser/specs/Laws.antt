-- The laws of the grammar.
use Rattle.std.specs.Prelude.{◌≡◌, ℕ, List}
use Rattle.ls_tree.specs.Trees.{File}
use Rattle.ls_parser_spelling.specs.Spelling.{spell}
use Rattle.ls_tree.specs.WellFormed.{WellFormedFile}
use Rattle.ls_parser_spelling.specs.Spells.{TextSpells}

-- no list of tokens spells two files
abbrev pub OneTree : Type 0
OneTree = (f g : File) → WellFormedFile f → WellFormedFile g → spell f ≡ spell g → f ≡ g

-- no text spells two files
abbrev pub OneFile : Type 0
OneFile = (f g : File) (text : List ℕ) → TextSpells f text → TextSpells g text → f ≡ g
