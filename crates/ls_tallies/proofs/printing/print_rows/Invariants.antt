-- What the loop `row` of `print_rows` in src/printing.rt keeps.

use Rattle.std.proofs.Common.{◌≡◌, ◌++◌, drop, map, string_bytes}
use Rattle.ls_tallies.specs.Plain.{plain_row}
use Rattle.ls_tallies.specs.Printing.{rows_text}
use Rattle.ls_tallies.proofs.printing.print_rows.Given as goal

abbrev pub invariant-loop-row : goal.invariant-loop-row
invariant-loop-row l = string_bytes l.out ++ rows_text (map plain_row (drop l.row-index l.rows)) ≡ rows_text
    (map plain_row l.rows)
