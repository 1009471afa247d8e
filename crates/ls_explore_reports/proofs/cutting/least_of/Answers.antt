-- Why `least_of` in src/cutting.rt keeps its loop `place`.

use Rattle.std.proofs.Common.{arith, subst, sym, take}
use Rattle.ls_checked.specs.Plain.{plain_file}
use Rattle.ls_checked.specs.PlainProgram.{plain_program}
use Rattle.ls_verdicts.specs.Cuts.{IsLeastOf}
use Rattle.ls_explore_reports.specs.Cuts.{schedules_of}
use Rattle.ls_explore_reports.proofs.CutRows.{as_many_schedules, schedules_more}
use Rattle.ls_explore_reports.proofs.cutting.least_of.Goals as goal

pub loop-place-preserved : goal.loop-place-preserved
loop-place-preserved c =
    let k = c.args.setup in
    let judged = c.args.judged.now in
    let place = c.loop-place.place in
    let row = c.index-judged-place.result in
    subst (λ l. IsLeastOf (plain_file c.args.names.file.now) (plain_program c.args.names.program.now) l
    c.in_ok-least.least) (sym (schedules_more k judged place row c.loop-place-test.true c.index-judged-place.is))
    (c.in_ok-least.ensures.least (schedules_of k (take place judged))
    (as_many_schedules k judged place (let lt = c.loop-place-test.true in omega arith)) c.loop-place.invariant)
