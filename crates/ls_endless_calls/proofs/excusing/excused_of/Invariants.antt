-- What the loop `at` of `excused_of` in src/excusing.rt keeps.

use Rattle.std.proofs.Common.{◌≡◌, length}
use Rattle.ls_serial_search.specs.Histories.{lists_of}
use Rattle.ls_endless_calls.proofs.Excused.{AreMarked}
use Rattle.ls_endless_calls.proofs.excusing.excused_of.Given as goal

abbrev pub invariant-loop-at : goal.invariant-loop-at
invariant-loop-at l = record {
  many : length l.excused.items ≡ l.at;
  marked : AreMarked (lists_of l.runs) l.histories l.excused.items;
}
