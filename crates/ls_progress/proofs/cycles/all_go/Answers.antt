-- Why `all_go` in src/cycles.rt keeps its contract and its loop.
use Rattle.std.proofs.Common.{◌≡◌, ◌⊎◌, refl, subst, arith}
use Rattle.std.specs.Prelude.{Contains}
use Rattle.std.proofs.lemmas.Bool.{cases_lt}
use Rattle.ls_graph.specs.Found.{HasNoneBy}
use Rattle.ls_progress.proofs.KindLemmas.{by_place}
use Rattle.ls_progress.proofs.cycles.all_go.Goals as goal

pub loop-thread-preserved : goal.loop-thread-preserved
loop-thread-preserved c = λ u first less.
    by_place (cases_lt u c.loop-thread.thread) (λ before. c.loop-thread.invariant u first before)
    (λ past. let at : c.loop-thread.thread ≡ u = omega (arith, past, less) in
    subst (λ v. Contains c.args.cycle.now v ⊎ HasNoneBy c.args.edges.now c.args.at v) at (c.if-not-goes.ensures refl))

pub returns : goal.returns
returns c = λ on u first less. c.loop-thread.invariant u first (omega (arith, less, c.loop-thread-test.false))
