-- What the loop `class` of `put_classes` in src/classes.rt keeps.

use Rattle.std.proofs.Common.{◌≡◌, ◌++◌, drop, map}
use Rattle.std.specs.List.{flat_map}
use Rattle.ls_parser_spelling.specs.Kinds.{lexemes_of}
use Rattle.ls_parser_spelling.specs.Spelling.{spell_class}
use Rattle.ls_tree.specs.Views.{bare_class}
use Rattle.ls_parser_spelling.proofs.classes.put_classes.Given as goal

abbrev pub invariant-loop-class : goal.invariant-loop-class
invariant-loop-class l = lexemes_of l.out.items ++ flat_map spell_class (map bare_class (drop l.class-index l.classes))
    ≡ lexemes_of l.initial.out.items ++ flat_map spell_class (map bare_class l.classes)
