-- What the loop of `stand_behind` in src/placed.rt keeps.

use Rattle.std.proofs.Common.{ℕ, ◌≡◌, ◌<◌, slice_index_or}
use Rattle.ls_lexer.specs.declared.token.Token.{Token}
use Rattle.ls_java_output.specs.Lines.{ends_before}
use Rattle.ls_java_output.proofs.placed.stand_behind.Given as goal

abbrev pub invariant-loop-word : goal.invariant-loop-word
invariant-loop-word l = record {
  behind : (k : ℕ) (d : Token) → k < l.word-index → l.last < ends_before (slice_index_or l.words k d).span.start l.text;
  ends : l.ends ≡ ends_before l.at l.text;
}
