-- Why `shown_by_locks` in src/fairness.rt keeps its contract.
use Rattle.std.proofs.Common.{List, ℕ, refl, subst}
use Rattle.ls_graph.specs.declared.closing.Edge.{Edge}
use Rattle.ls_progress.specs.Cycles.{AllGo, PassesNone}
use Rattle.ls_progress.specs.Judged.{edges_in, threads_in}
use Rattle.ls_progress.proofs.Shown.{shown_by_locks}
use Rattle.ls_progress.proofs.fairness.shown_by_locks.Goals as goal

pub returns-else-not-is_fair_by_locks : goal.returns-else-not-is_fair_by_locks
returns-else-not-is_fair_by_locks c =
    let l = c.args.labelled in
    let go = subst (λ (cycle : List ℕ). AllGo (edges_in l) c.args.round.now.at (threads_in l.scope) cycle)
    c.deref.ensures.value (c.if-not-is_fair.ensures.go refl) in
    let passes = subst (λ (cycle : List Edge). PassesNone (edges_in l) l.closing.now.looked.items cycle)
    c.deref-in-Some.ensures.value (c.if-not-is_fair_by_locks.ensures refl) in
    shown_by_locks l c.args.kind c.args.call c.args.round.now.at c.requires c.in-Some.turned _ c.in-Some.is
    c.in_ok-turn_by.ensures.led c.in_ok-turn_by.ensures.short (c.if-not-is_fair.ensures.marked refl) go passes
