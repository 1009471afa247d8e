-- What the loop `part` of `put_parts` in src/classes.rt keeps.

use Rattle.std.proofs.Common.{◌≡◌, ◌++◌, ◌∷◌, [], drop, map}
use Rattle.std.specs.List.{flat_map}
use Rattle.ls_lexer.specs.Lexemes.{Named, Marked}
use Rattle.ls_lexer.specs.declared.sign.Sign.TheVariants as signs
use Rattle.ls_parser_spelling.specs.Kinds.{lexemes_of}
use Rattle.ls_tree.specs.Views.{name_text}
use Rattle.ls_parser_spelling.proofs.classes.put_parts.Given as goal

abbrev pub invariant-loop-part : goal.invariant-loop-part
invariant-loop-part l =
    lexemes_of l.out.items ++
    flat_map (λ name. Marked signs.Dot ∷ Named name ∷ []) (map name_text (drop l.part-index l.parts)) ≡
    lexemes_of l.initial.out.items ++ flat_map (λ name. Marked signs.Dot ∷ Named name ∷ []) (map name_text l.parts)
