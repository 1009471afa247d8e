-- Why `is_fair` in src/fairness.rt keeps its clause `go`.
use Rattle.std.proofs.Common.{List, ℕ, length, sym, ◌∙◌, subst}
use Rattle.std.proofs.lemmas.List.{length-map}
use Rattle.ls_checked.specs.PlainProgram.{plain_thread}
use Rattle.ls_graph.specs.declared.closing.Edge.{Edge}
use Rattle.ls_progress.specs.Cycles.{AllGo}
use Rattle.ls_progress.specs.Judged.{threads_in}
use Rattle.ls_progress.proofs.fairness.is_fair.Goals as goal

pub returns-clause-go : goal.returns-clause-go
returns-clause-go c = λ on.
    let l = c.args.labelled in
    let cycle : List ℕ = c.args.cycle.now in
    subst (λ (es : List Edge). AllGo es c.args.at (threads_in l.scope) cycle) c.deref-2.ensures.value
    (subst (λ (n : ℕ). AllGo c.deref-2.result.now c.args.at n cycle)
    (c.threads_of-threads.ensures ∙ sym (length-map l.scope.program.now.threads.items plain_thread))
    (c.all_go.ensures on))
