-- What the loop `left` of `part_start` in src/lines.rt keeps, and why the loop ends.

use Rattle.std.proofs.Common.{◌≡◌, ◌+◌, ◌≤◌, length}
use Rattle.ls_items.specs.Parts.{lines_of}
use Rattle.ls_files.specs.Files.{part_start, start_in}
use Rattle.ls_files.proofs.lines.part_start.Given as goal

abbrev pub invariant-loop-left : goal.invariant-loop-left
invariant-loop-left l = record {
  place : start_in l.left l.at (lines_of l.rest) ≡ part_start l.input l.number;
  room : l.at + length l.rest ≤ length l.input;
}

abbrev pub decreases-loop-left : goal.decreases-loop-left
decreases-loop-left l = length l.rest
