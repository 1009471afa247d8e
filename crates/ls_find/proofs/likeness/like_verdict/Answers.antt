-- Why `like_verdict` in src/likeness.rt keeps its contract.

use Rattle.std.proofs.Common.{◌≡◌, ◌∙◌, Some, false, inr, subst, sym, true}
use Rattle.std.proofs.lemmas.Result.{IfOk-weaker}
use Rattle.ls_explore_reports.proofs.RowsOnce.{rows_once}
use Rattle.ls_specification.specs.Specification.{spec_file, spec_program}
use Rattle.ls_translation.specs.Texts.{file_of, program_of}
use Rattle.ls_find.specs.Likeness.{IsLikeness}
use Rattle.ls_find.proofs.Likenesses.{one_unexplained, shown_unlike}
use Rattle.ls_find.proofs.Waits.{both_verdicts}
use Rattle.ls_find.proofs.likeness.like_verdict.Goals as goal

pub returns-then-sought : goal.returns-then-sought
returns-then-sought c =
    let sfile = spec_file c.args.specification in
    let sprogram = spec_program c.args.specification in
    let file = file_of c.args.image.now in
    let program = program_of c.args.image.now in
    let all = subst (IsLikeness sfile sprogram c.args.rows.now) c.in-AllLike.is c.in_ok-rows_likeness.ensures in
    let like = c.none_is_unlike.ensures.rows sfile sprogram file program c.args.rows.now c.requires.whole all in
    IfOk-weaker c.waiting_verdict.result _ _
    (λ v said states. both_verdicts (Some (sfile, sprogram)) file program states c.args.sought v c.if-sought.true like
    (said states)) c.waiting_verdict.ensures

pub returns-else-sought : goal.returns-else-sought
returns-else-sought c = λ states.
    let sfile = spec_file c.args.specification in
    let sprogram = spec_program c.args.specification in
    let all = subst (IsLikeness sfile sprogram c.args.rows.now)
    c.in-AllLike.is c.in_ok-rows_likeness.ensures in record {
      linearizable = c.none_is_unlike.ensures.rows sfile sprogram (file_of c.args.image.now)
          (program_of c.args.image.now)
          c.args.rows.now c.requires.whole all;
      waits = λ up. absurd (up_down (sym up ∙ c.if-sought.false));
    }
  where
    up_down : true ≡ false → ⊥
    up_down e = cc

pub returns-in-UnlikeAt : goal.returns-in-UnlikeAt
returns-in-UnlikeAt c =
    let sfile = spec_file c.args.specification in
    let sprogram = spec_program c.args.specification in
    let one = subst (IsLikeness sfile sprogram c.args.rows.now) c.in-UnlikeAt.is c.in_ok-rows_likeness.ensures in
    IfOk-weaker c.bad_row.result _ _
    (λ v shows states. shown_unlike sfile sprogram (file_of c.args.image.now) (program_of c.args.image.now) c.args.setup
    c.args.rows.now c.requires.truth c.in-UnlikeAt.at one states c.args.sought v shows) c.bad_row.ensures

pub returns-in-NotJudged : goal.returns-in-NotJudged
returns-in-NotJudged c = λ states.
    let sfile = spec_file c.args.specification in
    let sprogram = spec_program c.args.specification in
    let one = subst (IsLikeness sfile sprogram c.args.rows.now) c.in-NotJudged.is c.in_ok-rows_likeness.ensures in
    inr (inr (one_unexplained sfile sprogram (file_of c.args.image.now) (program_of c.args.image.now) c.args.setup
    c.args.rows.now c.requires.truth one))

pub rows_likeness-requires : goal.rows_likeness-requires
rows_likeness-requires c =
    rows_once (file_of c.args.image.now) (program_of c.args.image.now) c.args.setup c.args.rows.now c.requires.truth
