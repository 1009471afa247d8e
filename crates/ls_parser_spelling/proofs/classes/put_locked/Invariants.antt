-- What the loop `modifiers` of `put_locked` in src/classes.rt keeps.

use Rattle.std.proofs.Common.{◌≡◌, ◌++◌, drop, map}
use Rattle.std.specs.List.{flat_map}
use Rattle.ls_parser_spelling.specs.Kinds.{lexemes_of}
use Rattle.ls_parser_spelling.specs.Spelling.{spell_locked}
use Rattle.ls_tree.specs.Views.{bare_modifiers}
use Rattle.ls_parser_spelling.proofs.classes.put_locked.Given as goal

abbrev pub invariant-loop-modifiers : goal.invariant-loop-modifiers
invariant-loop-modifiers l =
    lexemes_of l.out.items ++ flat_map spell_locked (map bare_modifiers (drop l.modifiers-index l.locked)) ≡
    lexemes_of l.initial.out.items ++ flat_map spell_locked (map bare_modifiers l.locked)
