-- What the loop `token` of `before_end` in src/nearby.rt keeps.

use Rattle.std.proofs.Common.{◌≡◌, drop}
use Rattle.ls_lexer.specs.Lexemes.{lexemes}
use Rattle.ls_explanations.specs.Around.{no_tokens, passed}
use Rattle.ls_explanations.proofs.nearby.before_end.Given as goal

abbrev pub invariant-loop-token : goal.invariant-loop-token
invariant-loop-token l = passed l.before (lexemes (drop l.token-index l.tokens)) ≡ passed no_tokens (lexemes l.tokens)
