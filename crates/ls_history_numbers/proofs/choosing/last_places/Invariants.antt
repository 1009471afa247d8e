-- What the loop `at` of `last_places` in src/choosing.rt keeps.

use Rattle.std.proofs.Common.{◌≡◌, length}
use Rattle.ls_history_numbers.specs.Choices.{TellLasts}
use Rattle.ls_history_numbers.proofs.choosing.last_places.Given as goal

abbrev pub invariant-loop-at : goal.invariant-loop-at
invariant-loop-at l = record {
  many : length l.lasts.items ≡ l.count;
  lasts : TellLasts l.numbers l.lasts.items l.count l.at;
}
