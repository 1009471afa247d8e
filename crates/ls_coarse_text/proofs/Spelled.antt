-- The class text spells its tree.
use Rattle.std.proofs.Common.{◌≡◌, refl, Some, arith}
use Rattle.ls_lexer.specs.Tokens.{lexed, tokens_of}
use Rattle.ls_tree.specs.WellFormed.{WellFormedFile}
use Rattle.ls_parser_spelling.specs.Spelling.{spell}
use Rattle.ls_coarse_text.specs.ClassText.{class_text}
use Rattle.ls_coarse_text.proofs.Tree.{tree}

-- the tokens of the text are those of the tree, by computation
pub tokens : tokens_of class_text ≡ Some (spell tree)
unfolding lexed
tokens = refl

-- the tree is one of the grammar
pub formed : WellFormedFile tree
formed = grind arith
