-- What the loop `back` of `first_ends` in src/choosing.rt keeps.

use Rattle.std.proofs.Common.{◌≡◌, ◌+◌, ℕ, length}
use Rattle.ls_history_numbers.specs.Choices.{TellFirsts}
use Rattle.ls_history_numbers.proofs.choosing.first_ends.Given as goal

abbrev pub invariant-loop-back : goal.invariant-loop-back
invariant-loop-back l = record {
  many : length l.firsts.items ≡ l.count;
  firsts : (from : ℕ) → from + l.back ≡ length l.ends → TellFirsts l.numbers l.ends l.firsts.items l.count from;
}
