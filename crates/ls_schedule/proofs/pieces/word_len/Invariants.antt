-- What the loop `b` of `word_len` in src/pieces.rt keeps.

use Rattle.std.proofs.Common.{◌≡◌, ◌+◌, drop}
use Rattle.ls_schedule.specs.Passing.{word_len}
use Rattle.ls_schedule.proofs.pieces.word_len.Given as goal

abbrev pub invariant-loop-b : goal.invariant-loop-b
invariant-loop-b l = record {
  count : l.len ≡ l.b-index;
  all : l.len + word_len (drop l.b-index l.text) ≡ word_len l.text;
}
