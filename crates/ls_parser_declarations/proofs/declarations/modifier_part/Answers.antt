-- Why `modifier_part` in src/declarations.rt keeps its clause `places`.

use Rattle.std.proofs.Common.{ap}
use Rattle.ls_lexer.specs.Lexemes.{lexeme_of}
use Rattle.ls_parser_declarations.proofs.Places.{modifier_first}
use Rattle.ls_parser_declarations.proofs.declarations.modifier_part.Goals as goal

pub returns-in_ok-tree-in-Word-clause-places : goal.returns-in_ok-tree-in-Word-clause-places
returns-in_ok-tree-in-Word-clause-places c =
    modifier_first _ c.args.tokens.now _ c.in_ok-tree-in-Word.ensures.spelled c.in-len1-up.len_at_least
    (ap lexeme_of c.in-Word.is)
