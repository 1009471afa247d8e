-- What the loop `line` of `file_line` in src/lines.rt keeps, and why the loop ends.

use Rattle.std.proofs.Common.{◌≡◌, ◌+◌, ◌≤◌, length}
use Rattle.ls_items.specs.Parts.{lines_of}
use Rattle.ls_files.specs.Files.{file_line, last_line_from}
use Rattle.ls_files.proofs.lines.file_line.Given as goal

abbrev pub invariant-loop-line : goal.invariant-loop-line
invariant-loop-line l = record {
  place : last_line_from l.here (lines_of l.rest) ≡ file_line l.input l.at;
  first : 1 ≤ l.here.line;
  room : l.here.file + l.here.line + length l.rest ≤ length l.input + 1;
}

abbrev pub decreases-loop-line : goal.decreases-loop-line
decreases-loop-line l = length l.rest
