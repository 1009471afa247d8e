-- What the loop `entry` of `print_judged` in src/judged_printing.rt keeps.

use Rattle.std.proofs.Common.{drop, map, string_bytes}
use Rattle.ls_checked.specs.Plain.{plain_file}
use Rattle.ls_checked.specs.PlainProgram.{plain_program}
use Rattle.ls_linearity.specs.Judges.{Judges}
use Rattle.ls_batch.specs.Judged.{IsJudgement}
use Rattle.ls_batch.specs.Rows.{entry_row}
use Rattle.ls_batch.proofs.Judged.{Begins}
use Rattle.ls_batch.proofs.judged_printing.print_judged.Given as goal

abbrev pub invariant-loop-entry : goal.invariant-loop-entry
invariant-loop-entry l = record {
  judges : Judges (plain_file l.file) (plain_program l.program) l.judge;
  begun : Begins (IsJudgement (plain_file l.file) (plain_program l.program)) (plain_program l.program) l.tally
      (map entry_row (drop l.entry-index l.entry-items)) (string_bytes l.out);
}
