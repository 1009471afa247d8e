-- What the loop `all` of `read_steps` in src/reading.rt keeps, and why the loop ends.

use Rattle.ls_events.specs.Limits.{most_steps}
use Rattle.std.proofs.Common.{◌≡◌, ◌+◌, ◌≤◌, length, map}
use Rattle.ls_schedule.specs.Answers.{capped_schedule, capped_turns, so_far}
use Rattle.ls_items.specs.Items.{items}
use Rattle.ls_schedule.specs.Reading.{each, thread_name}
use Rattle.ls_schedule.proofs.Steps.{goes_to}
use Rattle.ls_schedule.proofs.reading.read_steps.Given as goal

abbrev pub invariant-loop-all : goal.invariant-loop-all
invariant-loop-all l = record {
  place : l.at + length l.rest ≡ length l.text;
  few : length l.schedule ≤ most_steps;
  read : goes_to (so_far l.fits l.schedule) (each (capped_turns (map thread_name l.threads)) (items l.at l.rest)) ≡
      capped_schedule (map thread_name l.threads) l.text;
}

abbrev pub decreases-loop-all : goal.decreases-loop-all
decreases-loop-all l = length l.rest
