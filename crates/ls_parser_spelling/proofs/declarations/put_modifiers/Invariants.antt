-- What the loop `modifier` of `put_modifiers` in src/declarations.rt keeps.

use Rattle.std.proofs.Common.{◌≡◌, ◌++◌, drop, map}
use Rattle.std.specs.List.{flat_map}
use Rattle.ls_parser_spelling.specs.Kinds.{lexemes_of}
use Rattle.ls_parser_spelling.specs.Spelling.{spell_modifier}
use Rattle.ls_tree.specs.Views.{bare_modifier}
use Rattle.ls_parser_spelling.proofs.declarations.put_modifiers.Given as goal

abbrev pub invariant-loop-modifier : goal.invariant-loop-modifier
invariant-loop-modifier l =
    lexemes_of l.out.items ++ flat_map spell_modifier (map bare_modifier (drop l.modifier-index l.modifiers)) ≡
    lexemes_of l.initial.out.items ++ flat_map spell_modifier (map bare_modifier l.modifiers)
