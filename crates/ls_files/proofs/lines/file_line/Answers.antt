-- Why `file_line` in src/lines.rt keeps its loop `line`.

use Rattle.std.proofs.Common.{◌∙◌, ap, sym, arith}
use Rattle.ls_items.specs.Parts.{lines_of}
use Rattle.ls_files.specs.Files.{last_line_from}
use Rattle.ls_files.proofs.FileLines.{moves_on, next_room}
use Rattle.ls_files.proofs.lines.file_line.Goals as goal

pub loop-line-preserved : goal.loop-line-preserved
loop-line-preserved c =
    let here = c.loop-line.here in
    let line = c.in-Some.line.now in
    let after = c.in-Some.after.now in
    let cut = c.in-Some.ensures.some in
    let room = next_room here line c.loop-line.invariant.first in
    let is = c.next_line-here.ensures in
    record {
      place = ap (λ h. last_line_from h (lines_of after)) is
          ∙ sym (moves_on here c.loop-line.rest.now line after cut.0) ∙ c.loop-line.invariant.place;
      first = rw is room.0;
      room = rw is (omega (arith, room.1, cut.1, c.loop-line.invariant.room));
    }
