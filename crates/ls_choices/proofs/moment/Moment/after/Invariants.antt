-- What the loop `thread` of `Moment::after` in src/moment.rt keeps.

use Rattle.std.proofs.Common.{take}
use Rattle.ls_labels.specs.Names.{names_of}
use Rattle.ls_choices.specs.Schedules.{told_after}
use Rattle.ls_choices.specs.Seen.{IsAt}
use Rattle.ls_choices.proofs.moment.Moment.after.Given as goal

abbrev pub invariant-loop-thread : goal.invariant-loop-thread
invariant-loop-thread l =
    IsAt (names_of l.fn.names) l.moment (told_after (names_of l.fn.names) (take l.thread-index l.steps))
