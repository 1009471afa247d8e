-- Why `word_part` in src/tokens.rt keeps its clause `placed`.

use Rattle.std.proofs.Common.{◌≡◌, ap, ◌∙◌}
use Rattle.ls_lexer.specs.Lexemes.{Reserved, lexeme_of}
use Rattle.ls_parser_tokens.proofs.Places.{first_spot, same_word}
use Rattle.ls_parser_tokens.proofs.tokens.word_part.Goals as goal

pub returns-in-Word-clause-placed : goal.returns-in-Word-clause-placed
returns-in-Word-clause-placed c =
    let e : c.in-Word.word ≡ c.args.wanted = same_word c.in-Word.word c.args.wanted (cc (c.eq.ensures, c.if-eq.true)) in
    first_spot c.args.tokens.now _ (Reserved c.args.wanted) c.in-len1-up.len_at_least (ap lexeme_of c.in-Word.is ∙
    ap Reserved e)
