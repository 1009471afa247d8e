-- What the loop `line` of `first_end` in src/lines.rt keeps, and why the loop ends.

use Rattle.std.proofs.Common.{◌≡◌, ◌+◌, ◌≤◌, length}
use Rattle.ls_items.specs.Parts.{lines_of}
use Rattle.ls_files.specs.Files.{end_in, first_end}
use Rattle.ls_files.proofs.lines.first_end.Given as goal

abbrev pub invariant-loop-line : goal.invariant-loop-line
invariant-loop-line l = record {
  place : end_in l.at (lines_of l.rest) ≡ first_end l.input;
  room : l.at + length l.rest ≤ length l.input;
}

abbrev pub decreases-loop-line : goal.decreases-loop-line
decreases-loop-line l = length l.rest
