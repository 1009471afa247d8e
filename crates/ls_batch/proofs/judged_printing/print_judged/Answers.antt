-- Why `print_judged` in src/judged_printing.rt keeps its contract, its loop `entry` and what `judgement_on` requires.

use Rattle.std.proofs.Common.{◌∙◌, string_bytes}
use Rattle.ls_checked.specs.CheckedTree.{File}
use Rattle.ls_checked.specs.CheckedProgram.{Program}
use Rattle.ls_checked.specs.Plain.{plain_file}
use Rattle.ls_checked.specs.PlainProgram.{plain_program}
use Rattle.ls_batch.specs.Judged.{IsJudgement}
use Rattle.ls_batch.specs.Rows.{entry_row}
use Rattle.ls_batch.proofs.Judged.{all_told, row_named, row_told}
use Rattle.ls_batch.proofs.judged_printing.print_judged.Goals as goal

pub judgement_on-requires : goal.judgement_on-requires
judgement_on-requires c =
    row_named (IsJudgement (plain_file c.args.file.now) (plain_program c.args.program.now))
    (plain_program c.args.program.now) c.args.tally.now entry_row
    c.entries-entry-items.result.now
    c.loop-entry.entry-index c.entry-item.result
    c.as_slice.result.now c.entries-entry-items.ensures c.requires c.loop-entry-test.true c.entry-item.is
    (c.as_slice.ensures.value ∙ c.in_ok-history.ensures)

pub loop-entry-preserved : goal.loop-entry-preserved
loop-entry-preserved c =
    let file : File = plain_file c.args.file.now in
    let program : Program = plain_program c.args.program.now in
    record {
      judges = c.loop-entry.invariant.judges;
      begun = row_told (IsJudgement file program)
          program c.args.tally.now entry_row
          c.entries-entry-items.result.now
          c.loop-entry.entry-index c.entry-item.result
          c.as_slice.result.now c.in_ok-said.said (string_bytes c.loop-entry.out) (string_bytes c.push_judged.new.out)
          c.loop-entry-test.true c.entry-item.is
          (c.as_slice.ensures.value ∙ c.in_ok-history.ensures) c.loop-entry.invariant.begun
          (c.in_ok-said.ensures file c.loop-entry.invariant.judges)
          c.in_ok-push_judged.ensures;
    }

pub returns : goal.returns
returns c =
    all_told (IsJudgement (plain_file c.args.file.now) (plain_program c.args.program.now))
    (plain_program c.args.program.now) c.args.tally.now entry_row
    c.entries-entry-items.result.now
    c.loop-entry.entry-index (string_bytes c.loop-entry.out)
    c.loop-entry-test.false c.loop-entry.invariant.begun
