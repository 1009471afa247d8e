-- What the loop `token` of `is_named` in src/class_meant.rt keeps.

use Rattle.std.proofs.Common.{◌≡◌, ◌≤◌, drop}
use Rattle.ls_lexer.specs.Lexemes.{lexemes}
use Rattle.ls_class_programs.specs.Meant.{is_named}
use Rattle.ls_class_programs.proofs.class_meant.is_named.Given as goal

abbrev pub invariant-loop-token : goal.invariant-loop-token
invariant-loop-token l = record {
  rest : is_named l.class l.name l.at (lexemes (drop l.token-index l.tokens)) ≡
      is_named l.class l.name 0 (lexemes l.tokens);
  few : l.at ≤ l.token-index;
}
