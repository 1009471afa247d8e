-- What the loop `parameter` of `put_more_parameters` in src/classes.rt keeps.

use Rattle.std.proofs.Common.{◌≡◌, ◌++◌, ◌∷◌, drop, map}
use Rattle.std.specs.List.{flat_map}
use Rattle.ls_lexer.specs.Lexemes.{Marked}
use Rattle.ls_lexer.specs.declared.sign.Sign.TheVariants as signs
use Rattle.ls_parser_spelling.specs.Kinds.{lexemes_of}
use Rattle.ls_parser_spelling.specs.Spelling.{spell_parameter}
use Rattle.ls_tree.specs.Views.{bare_parameter}
use Rattle.ls_parser_spelling.proofs.classes.put_more_parameters.Given as goal

abbrev pub invariant-loop-parameter : goal.invariant-loop-parameter
invariant-loop-parameter l =
    lexemes_of l.out.items ++
    flat_map (λ p. Marked signs.Comma ∷ spell_parameter p) (map bare_parameter (drop l.parameter-index l.more)) ≡
    lexemes_of l.initial.out.items ++ flat_map (λ p. Marked signs.Comma ∷ spell_parameter p) (map bare_parameter l.more)
