-- Why `comes_back` in src/walking.rt keeps its clause `back` and its loop `preserved`.

use Rattle.std.proofs.Common.{suc, ◌+◌, refl, sym, ◌∙◌, subst}
use Rattle.ls_explore.specs.Bursts.{IsSilentTo}
use Rattle.ls_explore.proofs.Walks.{silent_join, silent_more}
use Rattle.ls_explore.proofs.walking.comes_back.Goals as goal

pub returns-then-is_same-clause-back : goal.returns-then-is_same-clause-back
returns-then-is_same-clause-back c = λ yes.
    let s : IsSilentTo 1 c.loop.machine c.args.thread c.go_silently.new.machine = c.go_silently.ensures.silent
    c.if-not-go_silently.false in (
      c.loop.counter,
      subst (λ z. IsSilentTo (suc c.loop.counter) c.args.machine.now c.args.thread z)
          (c.is_same.ensures c.if-is_same.true) (silent_join c.loop.counter c.args.machine.now c.loop.machine
          c.go_silently.new.machine c.args.thread c.loop.invariant.0 s),
    )

pub loop-preserved : goal.loop-preserved
loop-preserved c =
    let s : IsSilentTo 1 c.loop.machine c.args.thread c.go_silently.new.machine = c.go_silently.ensures.silent
    c.if-not-go_silently.false in (
      silent_more c.loop.counter (c.loop.counter + 1) c.args.machine.now c.loop.machine c.go_silently.new.machine
          c.args.thread refl c.loop.invariant.0 (sym s.0) (sym s.1),
      c.go_silently.ensures.code ∙ c.loop.invariant.1,
      c.go_silently.ensures.cells ∙ c.loop.invariant.2,
    )
