-- Which tokens, and which text, spell a file.
use Rattle.std.specs.Prelude.{◌≡◌, ℕ, ◌≤◌, List, length, Some}
use Rattle.ls_lexer.specs.Lexemes.{Lexeme}
use Rattle.ls_lexer.specs.Places.{text_limit}
use Rattle.ls_lexer.specs.Tokens.{tokens_of}
use Rattle.ls_tree.specs.Trees.{File}
use Rattle.ls_parser_spelling.specs.Spelling.{spell}
use Rattle.ls_tree.specs.WellFormed.{WellFormedFile}

-- The tokens are those of the file, which is one of the grammar.
pub record Spells (f : File) (ks : List Lexeme) : Type 0 where
  pub spelled : ks ≡ spell f
  pub formed : WellFormedFile f

-- The text is not too long, its tokens are those of the file, and the file is one of the grammar.
pub record TextSpells (f : File) (text : List ℕ) : Type 0 where
  pub short : length text ≤ text_limit
  pub tokens : tokens_of text ≡ Some (spell f)
  pub formed : WellFormedFile f
