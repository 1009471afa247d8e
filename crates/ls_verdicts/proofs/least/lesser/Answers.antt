-- Why `lesser` in src/least.rt keeps its contract.

use Rattle.std.proofs.Common.{◌++◌, ◌∷◌, [], IfNone, IfSome, cond, nat_lt, subst, sym, ℕ}
use Rattle.ls_meaning.specs.Runs.{source_history}
use Rattle.ls_verdicts.specs.Cuts.{IsCut, IsLeast, IsLeastOf}
use Rattle.ls_verdicts.specs.declared.least.Cut.{Cut}
use Rattle.ls_verdicts.proofs.Leasts.{least_new, least_of_both}
use Rattle.ls_verdicts.proofs.least.lesser.Goals as goal
use Rattle.ls_verdicts.specs.Hopeless.{IsIllegal}

pub returns-in-None : goal.returns-in-None
returns-in-None c = λ file program schedules schedule len so whole cut none.
    absurd (subst (λ o. IfNone o (¬ IsIllegal program (source_history file program schedule))) c.in-None.is none whole)

pub returns-in-None-least : goal.returns-in-None-least
returns-in-None-least c = λ file program schedules schedule len so whole cut none.
    let n = c.in-Some.steps in
    let is = subst (λ o. IfSome o (IsCut file program schedule)) c.in-Some.is cut in
    let before = subst (IsLeastOf file program schedules) c.in-None-least.is so in
    subst (λ (p : ℕ). IsLeast file program (schedules ++ schedule ∷ []) (record { place = p; steps = n })) len
    (least_new file program schedules schedule n whole is (λ p other there h. absurd (before p other there h)))

pub returns-in-Some-least : goal.returns-in-Some-least
returns-in-Some-least c = λ file program schedules schedule len so whole cut none.
    let n = c.in-Some.steps in
    let first : Cut = c.in-Some-least.cut in
    let is = subst (λ o. IfSome o (IsCut file program schedule)) c.in-Some.is cut in
    let before = subst (IsLeastOf file program schedules) c.in-Some-least.is so in
    subst (IsLeast file program (schedules ++ schedule ∷ [])) (sym c.shorter.ensures)
    (subst (λ (p : ℕ). IsLeast file program (schedules ++ schedule ∷ [])
    (cond (nat_lt n first.steps) (record { place = p; steps = n }) first)) len
    (least_of_both file program schedules schedule first n before whole is))
