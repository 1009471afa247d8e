-- What the loop `b` of `word_len` in src/texts.rt keeps.

use Rattle.std.proofs.Common.{◌≡◌, ◌+◌, false, drop}
use Rattle.ls_aim.specs.Texts.{word_len}
use Rattle.ls_aim.proofs.texts.word_len.Given as goal

abbrev pub invariant-loop-b : goal.invariant-loop-b
invariant-loop-b l = record {
  count : l.len ≡ l.b-index;
  all : l.len + word_len l.quoted (drop l.b-index l.text) ≡ word_len false l.text;
}
