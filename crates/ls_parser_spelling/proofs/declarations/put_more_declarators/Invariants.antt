-- What the loop `declarator` of `put_more_declarators` in src/declarations.rt keeps.

use Rattle.std.proofs.Common.{◌≡◌, ◌++◌, ◌∷◌, drop, map}
use Rattle.std.specs.List.{flat_map}
use Rattle.ls_lexer.specs.Lexemes.{Marked}
use Rattle.ls_lexer.specs.declared.sign.Sign.TheVariants as signs
use Rattle.ls_parser_spelling.specs.Kinds.{lexemes_of}
use Rattle.ls_parser_spelling.specs.Spelling.{spell_declarator}
use Rattle.ls_tree.specs.Views.{bare_declarator}
use Rattle.ls_parser_spelling.proofs.declarations.put_more_declarators.Given as goal

abbrev pub invariant-loop-declarator : goal.invariant-loop-declarator
invariant-loop-declarator l =
    lexemes_of l.out.items ++
    flat_map (λ d. Marked signs.Comma ∷ spell_declarator d) (map bare_declarator (drop l.declarator-index l.more)) ≡
    lexemes_of l.initial.out.items ++
    flat_map (λ d. Marked signs.Comma ∷ spell_declarator d) (map bare_declarator l.more)
