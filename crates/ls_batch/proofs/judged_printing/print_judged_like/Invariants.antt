-- What the loop `row` of `print_judged_like` in src/judged_printing.rt keeps.

use Rattle.std.proofs.Common.{drop, map, string_bytes}
use Rattle.ls_checked.specs.PlainProgram.{plain_program}
use Rattle.ls_linearity.specs.Judges.{Judges}
use Rattle.ls_batch.specs.Judged.{IsJudgementLike}
use Rattle.ls_batch.specs.Rows.{entry_row}
use Rattle.ls_specification.specs.Specification.{spec_file, spec_program}
use Rattle.ls_batch.proofs.Judged.{Begins}
use Rattle.ls_batch.proofs.judged_printing.print_judged_like.Given as goal

abbrev pub invariant-loop-row : goal.invariant-loop-row
invariant-loop-row l = record {
  judges : Judges (spec_file l.specification) (spec_program l.specification) l.judge;
  begun : Begins (IsJudgementLike (spec_file l.specification) (spec_program l.specification)) (plain_program l.program)
      l.tally (map entry_row (drop l.row-index l.row-items)) (string_bytes l.out);
}
