-- Why `print_judged_like` in src/judged_printing.rt keeps its contract and its loop `row`.

use Rattle.std.proofs.Common.{◌∙◌, string_bytes}
use Rattle.ls_checked.specs.CheckedProgram.{Program}
use Rattle.ls_checked.specs.PlainProgram.{plain_program}
use Rattle.ls_batch.specs.Judged.{IsJudgementLike}
use Rattle.ls_batch.specs.Rows.{entry_row}
use Rattle.ls_specification.specs.Specification.{spec_file, spec_program}
use Rattle.ls_batch.proofs.Judged.{all_told, row_named, row_told}
use Rattle.ls_batch.proofs.judged_printing.print_judged_like.Goals as goal

pub loop-row-preserved : goal.loop-row-preserved
loop-row-preserved c =
    let sfile = spec_file c.args.specification in
    let sprogram = spec_program c.args.specification in
    let program : Program = plain_program c.args.program.now in
    let same = c.as_slice.ensures.value ∙ c.in_ok-history.ensures in
    let named = row_named (IsJudgementLike sfile sprogram) program c.args.tally.now entry_row
    c.entries-row-items.result.now c.loop-row.row-index c.row-item.result
    c.as_slice.result.now c.entries-row-items.ensures c.requires c.loop-row-test.true c.row-item.is same in
    record {
      judges = c.loop-row.invariant.judges;
      begun = row_told (IsJudgementLike sfile sprogram) program c.args.tally.now entry_row
          c.entries-row-items.result.now
          c.loop-row.row-index c.row-item.result
          c.as_slice.result.now c.in_ok-said.said (string_bytes c.loop-row.out)
          (string_bytes c.push_judged.new.out)
          c.loop-row-test.true c.row-item.is same c.loop-row.invariant.begun
          (c.in_ok-said.ensures sfile sprogram c.loop-row.invariant.judges
          (c.readable_is_once.ensures program c.as_slice.result.now named.0 named.1.is_named named.1.history))
          c.in_ok-push_judged.ensures;
    }

pub returns : goal.returns
returns c =
    all_told (IsJudgementLike (spec_file c.args.specification) (spec_program c.args.specification))
    (plain_program c.args.program.now) c.args.tally.now entry_row
    c.entries-row-items.result.now
    c.loop-row.row-index (string_bytes c.loop-row.out)
    c.loop-row-test.false c.loop-row.invariant.begun
