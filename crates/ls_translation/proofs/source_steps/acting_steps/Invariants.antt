-- What the loop `thread` of `acting_steps` in src/source_steps.rt keeps.

use Rattle.std.proofs.Common.{◌≡◌, ◌≤◌, ◌++◌, drop, length}
use Rattle.ls_translation.specs.Acting.{acting}
use Rattle.ls_translation.proofs.source_steps.acting_steps.Given as goal

abbrev pub invariant-loop-thread : goal.invariant-loop-thread
invariant-loop-thread l = record {
  whole : l.acting ++ acting l.machine (drop l.thread-index l.thread-items) ≡ acting l.initial.machine l.thread-items;
  few : length l.acting ≤ l.thread-index;
}
