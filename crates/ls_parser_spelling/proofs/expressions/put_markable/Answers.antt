-- Why `put_markable` in src/expressions.rt keeps its contract.

use Rattle.std.proofs.Common.{◌∷◌, []}
use Rattle.std.specs.Prelude.{codes}
use Rattle.ls_lexer.specs.Lexemes.{Named, Marked}
use Rattle.ls_lexer.specs.declared.sign.Sign.TheVariants as signs
use Rattle.ls_parser_spelling.specs.Kinds.{lexemes_of}
use Rattle.ls_tree.specs.Views.{name_text}
use Rattle.ls_parser_spelling.proofs.MoreKinds.{first_and_more}
use Rattle.ls_parser_spelling.proofs.expressions.put_markable.Goals as goal

pub returns : goal.returns
returns c =
    first_and_more (lexemes_of c.args.out.now.items) (lexemes_of c.put_text.new.out.items)
    (lexemes_of c.put_in_angles.new.out.items)
    (Marked signs.Less ∷ Named (name_text c.args.class.now) ∷ Marked signs.Greater ∷ [])
    (Named (codes "AtomicMarkableReference")) c.in_ok-put_text.ensures c.in_ok-put_in_angles.ensures
