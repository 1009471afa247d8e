-- Why `shown_fairly_by` in src/fairness.rt keeps its contract.
use Rattle.std.proofs.Common.{List, ℕ, refl, subst}
use Rattle.ls_progress.specs.Cycles.{AllGo}
use Rattle.ls_progress.specs.Judged.{edges_in, threads_in}
use Rattle.ls_progress.proofs.Shown.{shown_fairly}
use Rattle.ls_progress.proofs.fairness.shown_fairly_by.Goals as goal

pub returns-else-not-is_fair : goal.returns-else-not-is_fair
returns-else-not-is_fair c =
    let l = c.args.labelled in
    let go = subst (λ (cycle : List ℕ). AllGo (edges_in l) c.args.round.now.at (threads_in l.scope) cycle)
    c.deref.ensures.value (c.if-not-is_fair.ensures.go refl) in
    shown_fairly l c.args.kind c.args.call c.args.round.now.at c.requires c.in-Some.turned _ c.in-Some.is
    c.in_ok-turn_by.ensures.led c.in_ok-turn_by.ensures.short (c.if-not-is_fair.ensures.marked refl) go
