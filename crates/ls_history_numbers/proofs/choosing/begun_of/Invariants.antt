-- What the loop `back` of `begun_of` in src/choosing.rt keeps.

use Rattle.std.proofs.Common.{◌≡◌, ◌+◌, ℕ, length}
use Rattle.ls_history_numbers.specs.Choices.{TellBegun}
use Rattle.ls_history_numbers.proofs.choosing.begun_of.Given as goal

abbrev pub invariant-loop-back : goal.invariant-loop-back
invariant-loop-back l = record {
  many : length l.begun.items ≡ length l.all;
  begun : (from : ℕ) → from + l.back ≡ length l.all → TellBegun l.all l.numbers l.begun.items from;
}
