-- The run that is told of a schedule, and steps of the setup that act.
use Rattle.std.proofs.Common.{◌≡◌, ℕ, true, List, [], ◌∷◌, ◌++◌, refl, sym, ap, ◌∙◌, subst}
use Rattle.ls_meaning.specs.declared.step.Did.{Did}
use Rattle.ls_meaning.specs.declared.step.Did.TheVariants as did
use Rattle.ls_meaning.specs.Steps.{run}
use Rattle.ls_meaning.specs.Runs.{source_run, source_step, step}
use Rattle.ls_meaning.specs.Still.{IsActing}
use Rattle.ls_labels.specs.Names.{Names}
use Rattle.ls_trace.specs.Told.{Told, after_step, begun, step_in}
use Rattle.ls_choices.specs.Schedules.{acts, is_action, told_after, told_from}
use Rattle.ls_search_laws.specs.Stepping.{ActAll}
use Rattle.ls_search_laws.proofs.Acting.{acts_more}
use Rattle.ls_state.proofs.Steps.{after_step_is}

told_on : (names : Names) (r : Told) (steps : List ℕ) →
    (told_from names r steps).state ≡ run (source_step names.file names.program) r.state steps
told_on names r [] = refl
told_on names r (t ∷ ts) =
    told_on names (after_step names r t) ts
    ∙ ap (λ s. run (source_step names.file names.program) s ts)
    (sym (after_step_is names.file names.program r.state t))

-- what is told after a schedule is told of the state after its source run
pub told_state : (names : Names) (steps : List ℕ) →
    (told_after names steps).state ≡ source_run names.file names.program steps
told_state names steps = told_on names (begun names.program) steps

acting : (d : Did) → is_action d ≡ true → IsActing d
acting (did.Acted action answer) e = tt
acting did.Waits e = cc
acting did.Idle e = cc

-- a step that acts goes on with steps that act
pub acts_on : (names : Names) (steps : List ℕ) (t : ℕ) → ActAll names.file names.program steps →
    acts names (told_after names steps) t ≡ true → ActAll names.file names.program (steps ++ t ∷ [])
acts_on names steps t all e =
    acts_more names.file names.program steps t all
    (subst (λ s. IsActing (step names.file names.program s t).did) (told_state names steps)
    (acting (step_in names (told_after names steps) t).did e))
