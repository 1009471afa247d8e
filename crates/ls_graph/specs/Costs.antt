-- What steps of actors cost: changes of actor, or steps.
use Rattle.std.specs.Prelude.{◌+◌, ℕ, List, [], ◌∷◌, nat_eq, if◌then◌else◌}
use Rattle.ls_graph.specs.declared.costs.Counted.{Counted}
use Rattle.ls_graph.specs.declared.costs.Counted.TheVariants as counted

-- whether a step is of another actor than the step before
abbrev pub change : ℕ → ℕ → ℕ
change before actor = if nat_eq actor before then 0 else 1

-- how many steps are of another actor than the step before, where one of this actor comes before the first
abbrev pub changes : ℕ → List ℕ → ℕ
changes before [] = 0
changes before (u ∷ us) = change before u + changes u us

-- what a step costs after one of this actor
abbrev pub cost : Counted → ℕ → ℕ → ℕ
cost counted.Changes before actor = change before actor
cost counted.Steps before actor = 1

-- what steps cost, where one of this actor comes before the first
abbrev pub costs : Counted → ℕ → List ℕ → ℕ
costs c before [] = 0
costs c before (u ∷ us) = cost c before u + costs c u us

-- What is kept of the actor of the last step. Where steps are counted, it is 0, whichever actor that was.
abbrev pub kept_last : Counted → ℕ → ℕ
kept_last counted.Changes actor = actor
kept_last counted.Steps actor = 0
