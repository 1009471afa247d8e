-- What the loop `simple` of `put_more_simples` in src/simples.rt keeps.

use Rattle.std.proofs.Common.{◌≡◌, ◌++◌, ◌∷◌, drop, map}
use Rattle.std.specs.List.{flat_map}
use Rattle.ls_lexer.specs.Lexemes.{Marked}
use Rattle.ls_lexer.specs.declared.sign.Sign.TheVariants as signs
use Rattle.ls_parser_spelling.specs.Kinds.{lexemes_of}
use Rattle.ls_parser_spelling.specs.Spelling.{spell_simple}
use Rattle.ls_tree.specs.Views.{bare_simple}
use Rattle.ls_parser_spelling.proofs.simples.put_more_simples.Given as goal

abbrev pub invariant-loop-simple : goal.invariant-loop-simple
invariant-loop-simple l =
    lexemes_of l.out.items ++
    flat_map (λ s. Marked signs.Comma ∷ spell_simple s) (map bare_simple (drop l.simple-index l.more)) ≡
    lexemes_of l.initial.out.items ++ flat_map (λ s. Marked signs.Comma ∷ spell_simple s) (map bare_simple l.more)
