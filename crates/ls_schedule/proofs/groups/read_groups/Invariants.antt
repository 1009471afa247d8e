-- What `read_groups` in src/groups.rt keeps, and why it ends.

use Rattle.ls_events.specs.Limits.{most_steps}
use Rattle.std.proofs.Common.{◌≡◌, ◌+◌, ◌≤◌, length, map, drop}
use Rattle.ls_schedule.specs.Passing.{going}
use Rattle.ls_schedule.specs.Pieces.{pieces}
use Rattle.ls_schedule.specs.Reading.{group_schedule, thread_name}
use Rattle.ls_schedule.proofs.groups.read_groups.Given as goal

abbrev pub invariant-pieces : goal.invariant-pieces
invariant-pieces l = record {
  place : l.at + length l.rest ≡ length l.text;
  few : length l.reader.schedule ≤ most_steps;
  read : going (map thread_name l.threads) l.reader (pieces l.at l.rest) ≡ group_schedule (map thread_name l.threads)
      (pieces l.start (drop l.start l.text));
}

abbrev pub decreases-pieces : goal.decreases-pieces
decreases-pieces l = length l.rest
