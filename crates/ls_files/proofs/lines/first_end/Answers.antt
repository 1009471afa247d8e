-- Why `first_end` in src/lines.rt keeps its contract and its loop `line`.

use Rattle.std.proofs.Common.{◌≡◌, ◌∙◌, ◌+◌, ap, sym, arith, length}
use Rattle.ls_items.specs.Parts.{lines_of}
use Rattle.ls_files.specs.Files.{end_in}
use Rattle.ls_files.proofs.FileLines.{end_goes_on, end_here}
use Rattle.ls_files.proofs.lines.first_end.Goals as goal

pub loop-line-preserved : goal.loop-line-preserved
loop-line-preserved c =
    let line = c.in-Some.line.now in
    let after = c.in-Some.after.now in
    let at = c.loop-line.at in
    let cut = c.in-Some.ensures.some in
    let there : at + (length line + 1) ≡ at + length line + 1 = omega arith in
    record {
      place = ap (λ m. end_in m (lines_of after)) there
          ∙ sym (end_goes_on at c.loop-line.rest.now line (lines_of after) cut.0
          (sym c.ends_part.ensures ∙ c.if-ends_part.false))
          ∙ c.loop-line.invariant.place;
      room = omega (arith, cut.1, c.loop-line.invariant.room);
    }
