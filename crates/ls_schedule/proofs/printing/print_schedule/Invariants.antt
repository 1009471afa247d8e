-- What `print_schedule` in src/printing.rt keeps, and why it ends.

use Rattle.std.proofs.Common.{◌≡◌, ◌++◌, length, map, string_bytes, codes}
use Rattle.ls_schedule.specs.Reading.{thread_name}
use Rattle.ls_schedule.specs.Printing.{more_text, runs_of}
use Rattle.ls_schedule.proofs.printing.print_schedule.Given as goal

abbrev pub invariant-items : goal.invariant-items
invariant-items l =
    string_bytes l.out ++ more_text (map thread_name l.threads) (runs_of l.rest) ≡ codes "@2" ++
    more_text (map thread_name l.threads) (runs_of l.schedule)

abbrev pub decreases-items : goal.decreases-items
decreases-items l = length l.rest
