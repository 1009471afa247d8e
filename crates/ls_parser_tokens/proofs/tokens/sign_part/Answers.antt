-- Why `sign_part` in src/tokens.rt keeps its clause `placed`.

use Rattle.std.proofs.Common.{◌≡◌, ap, ◌∙◌}
use Rattle.ls_lexer.specs.Lexemes.{Marked, lexeme_of}
use Rattle.ls_parser_tokens.proofs.Places.{first_spot, same_sign}
use Rattle.ls_parser_tokens.proofs.tokens.sign_part.Goals as goal

pub returns-in-Sign-clause-placed : goal.returns-in-Sign-clause-placed
returns-in-Sign-clause-placed c =
    let e : c.in-Sign.sign ≡ c.args.wanted = same_sign c.in-Sign.sign c.args.wanted (cc (c.eq.ensures, c.if-eq.true)) in
    first_spot c.args.tokens.now _ (Marked c.args.wanted) c.in-len1-up.len_at_least (ap lexeme_of c.in-Sign.is ∙
    ap Marked e)
