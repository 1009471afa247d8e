-- What `word_at` in src/words.rt keeps.

use Rattle.std.proofs.Common.{◌≡◌, ◌-◌}
use denote.Text.{Utf8}
use denote.Shadow.{shadow}
use Rattle.ls_find_reports.specs.Words.{rest_at}
use Rattle.ls_find_reports.proofs.words.word_at.Given as goal

abbrev pub invariant-loop : goal.invariant-loop
invariant-loop l = record {
  text : shadow (Utf8 l.rest);
  rest : rest_at l.place l.line ≡ rest_at (l.place - l.counter) l.rest;
}
