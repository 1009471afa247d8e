-- Why `go_silently` in src/walking.rt keeps its clause `cells` and its loop `preserved`.

use Rattle.std.proofs.Common.{◌+◌, [], ◌∷◌, refl, sym, ap, ◌∙◌}
use Rattle.ls_code.specs.Code.{Code}
use Rattle.ls_code.specs.Machine.{Machine}
use Rattle.ls_machine.proofs.Back.{runs_keep}
use Rattle.ls_explore.proofs.Walks.{silent_is, silent_more}
use Rattle.ls_explore.proofs.walking.go_silently.Goals as goal

pub returns-then-not-is_silent-clause-cells : goal.returns-then-not-is_silent-clause-cells
returns-then-not-is_silent-clause-cells c = ap (λ (m : Machine). m.cells.limit) c.step-did.ensures.machine ∙
    (runs_keep c.loop.machine (c.args.thread ∷ [])).1 ∙ c.loop.invariant.2

pub loop-preserved : goal.loop-preserved
loop-preserved c =
    let code : Machine → Code = λ m. m.code in (
      silent_more c.loop.counter (c.loop.counter + 1) c.args.machine.now c.loop.machine c.step-did.new.self
          c.args.thread refl c.loop.invariant.0 (silent_is c.step-did.result
          (sym c.is_silent.ensures ∙ c.if-not-is_silent.false) ∙ c.step-did.ensures.did) c.step-did.ensures.machine,
      ap code c.step-did.ensures.machine ∙ (runs_keep c.loop.machine (c.args.thread ∷ [])).0 ∙ c.loop.invariant.1,
      ap (λ (m : Machine). m.cells.limit) c.step-did.ensures.machine ∙ (runs_keep c.loop.machine (c.args.thread ∷ [])).1
          ∙ c.loop.invariant.2,
    )
