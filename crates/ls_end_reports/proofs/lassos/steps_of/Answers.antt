-- Why `steps_of` in src/lassos.rt keeps its loop.
use Rattle.std.proofs.Common.{◌++◌, List, ℕ, sym, ap, ◌∙◌, append-nil}
use Rattle.ls_progress_laws.specs.Progress.{rounds}
use Rattle.ls_end_reports.proofs.Playing.{round_more}
use Rattle.ls_end_reports.proofs.lassos.steps_of.Goals as goal

pub loop-round-init : goal.loop-round-init
loop-round-init c =
    c.in_ok-push_steps.ensures
    ∙ ap (λ (l : List ℕ). l ++ c.deref.result.now) c.new-steps.ensures.items
    ∙ c.deref.ensures.value
    ∙ sym (append-nil c.args.lasso.now.way.items)

pub loop-round-preserved : goal.loop-round-preserved
loop-round-preserved c =
    let way = c.args.lasso.now.way.items in
    let n = c.loop-round._round in
    c.in_ok-push_steps-2.ensures
    ∙ ap (λ (l : List ℕ). l ++ c.deref-in-loop-round.result.now) c.loop-round.invariant
    ∙ ap (λ (cycle : List ℕ). (way ++ rounds n c.args.lasso.now.cycle.items) ++ cycle)
    c.deref-in-loop-round.ensures.value
    ∙ round_more way n c.args.lasso.now.cycle.items
