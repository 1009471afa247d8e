-- Why `stuck_and_doubtful_answer` in src/deciding.rt keeps its contract.

use Rattle.std.proofs.lemmas.Result.{err_from_is_err_and}
use Rattle.ls_explore_commands.specs.Reports.{stuck_and_doubtful_text}
use Rattle.ls_explore_commands.specs.Verdicts.{IsStuckAndDoubtful, Stuck, Unjudged}
use Rattle.ls_explore_commands.proofs.Decisions.{same_text, tells, too_long}
use Rattle.ls_explore_commands.proofs.deciding.stuck_and_doubtful_answer.Goals as goal

pub returns-in_err-first : goal.returns-in_err-first
returns-in_err-first c = λ classes sfile sprogram good extent stuck unjudged.
    let p = err_from_is_err_and c.from_residual.result c.from_residual.ensures.1 in
    rw (p.1, p.2) (too_long classes sfile sprogram c.args.image.now c.args.extent.limit c.args.stuck.now
    c.in_err-first.field-0.0 c.in_err-first.ensures.only good
    (Stuck stuck))

pub returns-in_err-run : goal.returns-in_err-run
returns-in_err-run c = λ classes sfile sprogram good extent stuck unjudged.
    let p = err_from_is_err_and c.from_residual-in_err-run.result c.from_residual-in_err-run.ensures.1 in
    rw (p.1, p.2) (too_long classes sfile sprogram c.args.image.now c.args.extent.limit c.args.steps.now
    c.in_err-run.field-0.0 c.in_err-run.ensures.only good
    (Unjudged c.args.doubt unjudged))

pub returns : goal.returns
returns c = λ classes sfile sprogram good extent stuck unjudged.
    let e = c.args.extent in
    let first = c.in_ok-first.first in
    let run = c.in_ok-run.run' in
    let text = same_text (λ names threads. stuck_and_doubtful_text first.schedule first.fewest c.args.doubt run.fewest
    names threads run.schedule e.limit e.states e.complete)
    _ _ _ _ _ c.names_in.ensures.names c.names_in.ensures.program c.in_ok-text.ensures in
    tells classes sfile sprogram c.args.image.now e.limit _ _ text
    (IsStuckAndDoubtful first.schedule first.fewest c.args.doubt run.schedule run.fewest e.states e.complete good extent
    (c.in_ok-first.ensures.stuck stuck) (c.in_ok-first.ensures.reads stuck.acts)
    (c.in_ok-run.ensures.unjudged c.args.doubt sfile sprogram unjudged) (c.in_ok-run.ensures.reads unjudged.acts)
    c.in_ok-first.ensures.fewest c.in_ok-run.ensures.fewest)
