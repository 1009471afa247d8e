-- What the loop `token` of `class_name` in src/classes.rt keeps.

use Rattle.std.proofs.Common.{◌≡◌, drop}
use Rattle.ls_lexer.specs.Lexemes.{lexemes}
use Rattle.ls_explanations.specs.Mismatches.{class_name, name_from}
use Rattle.ls_explanations.proofs.classes.class_name.Given as goal

abbrev pub invariant-loop-token : goal.invariant-loop-token
invariant-loop-token l = name_from l.search.is_class (lexemes (drop l.token-index l.tokens)) l.search.left ≡
    class_name (lexemes l.tokens) l.number
