-- What the loop `entry` of `print_part` in src/printing.rt keeps.

use Rattle.std.proofs.Common.{◌≡◌, ◌++◌, drop, map, string_bytes}
use Rattle.ls_checked.specs.PlainProgram.{plain_program}
use Rattle.ls_batch.specs.Printing.{tally_text}
use Rattle.ls_batch.specs.Rows.{entry_row}
use Rattle.ls_batch.proofs.printing.print_part.Given as goal

abbrev pub invariant-loop-entry : goal.invariant-loop-entry
invariant-loop-entry l =
    string_bytes l.out ++ tally_text (plain_program l.program) (map entry_row (drop l.entry-index l.part)) ≡ tally_text
    (plain_program l.program) (map entry_row l.part)
