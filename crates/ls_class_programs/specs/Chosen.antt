-- Which class of a text is chosen.
use Rattle.std.specs.Prelude.{ℕ, zero, suc, nat_lt, cond, List, Option, Some, None, length}
use Rattle.ls_lexer.specs.Lexemes.{Lexeme}
use Rattle.ls_tree.specs.Trees.{ClassTree}
use Rattle.ls_class_programs.specs.Meant.{meant}

-- the place of the class of a number, from 1, among so many
abbrev pub numbered : ℕ → ℕ → Option ℕ
numbered zero count = None
numbered (suc i) count = cond (nat_lt i count) (Some i) None

-- the class of that number, or the one that is meant where none is asked for
abbrev pub chosen : Option ℕ → List Lexeme → List ClassTree → Option ℕ
chosen None ks classes = meant ks classes
chosen (Some n) ks classes = numbered n (length classes)
