-- What the loop `i` of `meant` in src/class_meant.rt keeps.

use Rattle.std.proofs.Common.{◌≡◌, ◌++◌, map}
use Rattle.ls_lexer.specs.Lexemes.{lexemes}
use Rattle.ls_tree.specs.Views.{bare_class}
use Rattle.ls_class_programs.specs.Meant.{meant, only}
use Rattle.ls_class_programs.proofs.Choices.{frees_from, listed}
use Rattle.ls_class_programs.proofs.class_meant.meant.Given as goal

abbrev pub invariant-loop-i : goal.invariant-loop-i
invariant-loop-i l =
    only (listed l.found ++ frees_from l.tokens l.i l.classes) ≡ meant (lexemes l.tokens) (map bare_class l.classes)
