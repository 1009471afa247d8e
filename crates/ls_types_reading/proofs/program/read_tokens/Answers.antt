-- Why `read_tokens` in src/program.rt keeps its loop `token`.

use Rattle.std.proofs.Common.{sym, ◌∙◌}
use Rattle.ls_types_checked.specs.CheckedFile.{elaborated_file}
use Rattle.ls_types_reading.specs.ReadingViews.{marks_of, reading_of}
use Rattle.ls_types_reading.proofs.Tokens.{one_read, one_stop}
use Rattle.ls_types_reading.proofs.program.read_tokens.Goals as goal

pub loop-token-preserved : goal.loop-token-preserved
loop-token-preserved c =
    let o = elaborated_file c.args.methods.now.checked.now in
    let ts = c.args.tokens.now in
    let i = c.loop-token.token-index in
    let q = reading_of c.loop-token.parts c.loop-token.stage in
    let q' = reading_of c.stepped.new.self c.in_ok-stage.stage in (
      sym (one_read o ts i _ c.loop-token-test.true q q' c.in_ok-stage.ensures.read)
          ∙ c.loop-token.invariant.0,
      λ end.
          sym (one_stop o ts i _ c.loop-token-test.true q q' c.in_ok-stage.ensures.read end
          (marks_of c.loop-token.stage) (marks_of c.in_ok-stage.stage) c.in_ok-stage.ensures.place)
          ∙ c.loop-token.invariant.1 end,
    )
