-- The steps of a target are those after which it is met.
use Rattle.std.proofs.Common.{◌≡◌, ◌∙◌, ◌+◌, ◌-◌, ◌≤◌, ℕ, zero, suc, Bool, true, false, cond, List, [], ◌∷◌, ◌++◌, refl}
use Rattle.std.proofs.Common.{sym, ap, subst, append_assoc, append-nil, arith, Result, Ok, Err}
use Rattle.std.specs.Prelude.{◌==◌, replicate}
use Rattle.std.proofs.lemmas.Bool.Decides.{nat_tests}
use Rattle.ls_meaning.specs.declared.step.Asked.{Asked}
use Rattle.ls_meaning.specs.declared.step.Asked.TheVariants.{Asks, Ended, NotStarted}
use Rattle.ls_meaning.specs.declared.step.Did.{Did}
use Rattle.ls_meaning.specs.declared.step.Did.TheVariants.{Acted, Waits, Idle}
use Rattle.ls_meaning.specs.Runs.{asked}
use Rattle.ls_labels.specs.Names.{Names}
use Rattle.ls_labels.specs.Words.{performed_text}
use Rattle.ls_report.specs.Events.{Text}
use Rattle.ls_aim.specs.Aims.{Arrived, GoesOn, Missed, Sight, at_rest, before_step, by_sight, gone_to, halted, met}
use Rattle.ls_aim.specs.Aims.{seen, sight}
use Rattle.ls_aim.specs.Labels.{has_text}
use Rattle.ls_aim.specs.Reading.{Before, Rest, Stop}
use Rattle.ls_aim.specs.Runs.{Run, after_step, step_in}
use Rattle.ls_aim.specs.declared.fault.AimFault.{AimFault}
use Rattle.ls_aim.specs.declared.fault.AimFault.TheVariants as fault
use Rattle.ls_aim.specs.Met.{IsMetAfter, Moves, TargetsAreMet, changes_nothing, label_has, later, rests, shown}
use Rattle.ls_aim.specs.Met.{shows}

-- by what a step would do: the thread stops here
abbrev StopsHere : Names → ℕ → Run → Stop → Did → Type 0
StopsHere names thread r Rest d = changes_nothing d ≡ true
StopsHere names thread r (Before passing text) d = (passing ≡ 0) × (label_has names text thread r d ≡ true)

-- it takes the step, and is then to stop so
abbrev Steps : Names → ℕ → Run → Did → Stop → Stop → Type 0
Steps names thread r d Rest Rest = changes_nothing d ≡ false
Steps names thread r d Rest (Before passing text) = ⊥
Steps names thread r d (Before passing text) Rest = ⊥
Steps names thread r d (Before passing text) (Before left said) =
    (changes_nothing d ≡ false) × (said ≡ text) × (passing ≡ cond (label_has names text thread r d) 1 0 + left)

here : (names : Names) (at : ℕ) (r : Run) (thread : ℕ) (stop : Stop) (d : Did) →
    seen names at r thread stop d ≡ Arrived →
    StopsHere names thread r stop d
here names at r thread Rest (Acted action answer) e = let f : ⊥ = cc in absurd f
here names at r thread Rest Waits e = refl
here names at r thread Rest Idle e = refl
here names at r thread (Before passing text) (Acted action answer) e = by_text
    (has_text text (performed_text names r.labels thread action answer)) refl e
  where
    by_number : (b : Bool) →
        (passing == 0) ≡ b →
        cond b Arrived (GoesOn (Before (passing - 1) text)) ≡ Arrived →
        passing ≡ 0
    by_number true n e = grind (arith, nat_tests)
    by_number false n e = let f : ⊥ = cc in absurd f

    by_text : (b : Bool) → has_text text (performed_text names r.labels thread action answer) ≡ b
        → cond b (met passing text) (GoesOn (Before passing text)) ≡ Arrived
        → (passing ≡ 0) × (has_text text (performed_text names r.labels thread action answer) ≡ true)
    by_text true t e = (by_number (passing == 0) refl e, t)
    by_text false t e = let f : ⊥ = cc in absurd f
here names at r thread (Before passing text) Waits e = by_asked (asked names.file names.program r.state thread) e
  where
    by_asked : (a : Asked) → at_rest at (Before passing text) a ≡ Arrived → (passing ≡ 0) × (false ≡ true)
    by_asked (Asks action) e = let f : ⊥ = cc in absurd f
    by_asked NotStarted e = let f : ⊥ = cc in absurd f
    by_asked Ended e = let f : ⊥ = cc in absurd f
here names at r thread (Before passing text) Idle e = by_asked (asked names.file names.program r.state thread) e
  where
    by_asked : (a : Asked) → at_rest at (Before passing text) a ≡ Arrived → (passing ≡ 0) × (false ≡ true)
    by_asked (Asks action) e = let f : ⊥ = cc in absurd f
    by_asked NotStarted e = let f : ⊥ = cc in absurd f
    by_asked Ended e = let f : ⊥ = cc in absurd f

no_step : (names : Names) (at : ℕ) (r : Run) (thread : ℕ) (stop still : Stop) (a : Asked) →
    at_rest at stop a ≡ GoesOn still →
    ⊥
no_step names at r thread stop still NotStarted e = let f : ⊥ = cc in f
no_step names at r thread Rest still (Asks action) e = let f : ⊥ = cc in f
no_step names at r thread Rest still Ended e = let f : ⊥ = cc in f
no_step names at r thread (Before passing text) still (Asks action) e = let f : ⊥ = cc in f
no_step names at r thread (Before passing text) still Ended e = let f : ⊥ = cc in f

further : (names : Names) (at : ℕ) (r : Run) (thread : ℕ) (stop still : Stop) (d : Did) →
    seen names at r thread stop d ≡ GoesOn still →
    Steps names thread r d stop still
further names at r thread stop still Waits e = absurd (no_step names at r thread stop still
    (asked names.file names.program r.state thread) e)
further names at r thread stop still Idle e = absurd (no_step names at r thread stop still
    (asked names.file names.program r.state thread) e)
further names at r thread Rest still (Acted action answer) e =
    let same : Rest ≡ still = cc in subst (λ s. Steps names thread r (Acted action answer) Rest s) same refl
further names at r thread (Before passing text) still (Acted action answer) e = by_text
    (has_text text (performed_text names r.labels thread action answer)) refl e
  where
    by_number : has_text text (performed_text names r.labels thread action answer) ≡ true →
        (b : Bool) →
        (passing == 0) ≡ b
        → cond b Arrived (GoesOn (Before (passing - 1) text)) ≡ GoesOn still
        → Steps names thread r (Acted action answer) (Before passing text) still
    by_number t true n e = let f : ⊥ = cc in absurd f
    by_number t false n e =
        let same : Before (passing - 1) text ≡ still = cc in
        let one : passing ≡ 1 + (passing - 1) = grind (arith, nat_tests) in
        subst (λ s. Steps names thread r (Acted action answer) (Before passing text) s) same
        (refl, refl, one ∙ ap (λ b. cond b 1 0 + (passing - 1)) (sym t))

    by_text : (b : Bool) → has_text text (performed_text names r.labels thread action answer) ≡ b
        → cond b (met passing text) (GoesOn (Before passing text)) ≡ GoesOn still
        → Steps names thread r (Acted action answer) (Before passing text) still
    by_text true t e = by_number t (passing == 0) refl e
    by_text false t e =
        let same : Before passing text ≡ still = cc in
        let none : passing ≡ 0 + passing = omega arith in
        subst (λ s. Steps names thread r (Acted action answer) (Before passing text) s) same
        (refl, refl, none ∙ ap (λ b. cond b 1 0 + passing) (sym t))

module _ (names : Names) (at thread : ℕ) where
  met_here : (r : Run) (stop : Stop) → sight names at r thread stop ≡ Arrived → IsMetAfter names thread r stop 0
  met_here r Rest e = (tt, here names at (after_step names r thread) thread Rest (step_in names r thread).did e)
  met_here r (Before passing text) e =
      let h = here names at (after_step names r thread) thread (Before passing text) (step_in names r thread).did e in
      (tt, sym h.0, h.1)

  met_later : (r : Run) (stop still : Stop) (n : ℕ) →
      sight names at r thread stop ≡ GoesOn still →
      IsMetAfter names thread (after_step names r thread) still n
      → IsMetAfter names thread r stop (suc n)
  met_later r stop still n e = by_stops stop still (further names at (after_step names r thread) thread stop still
      (step_in names r thread).did e)
    where
      by_stops : (stop still : Stop) →
          Steps names thread (after_step names r thread) (step_in names r thread).did stop still
          → IsMetAfter names thread (after_step names r thread) still n → IsMetAfter names thread r stop (suc n)
      by_stops Rest Rest h k = ((h, k.0), k.1)
      by_stops Rest (Before passing text) h k = absurd h
      by_stops (Before passing text) Rest h k = absurd h
      by_stops (Before passing text) (Before left said) h k =
          let next : Run = after_step names r thread in
          let k' = subst (λ t. Moves names thread next n × (shown names t thread next n ≡ left) ×
          (shows names t thread (later names thread next n) ≡ true)) h.1 k in
          ((h.0, k'.0), ap (λ m. cond (shows names text thread r) 1 0 + m) k'.1 ∙ sym h.2, k'.2)

  abbrev AreMet : ℕ → Run → Stop → List ℕ → List ℕ → Type 0
  AreMet room r stop steps all = (n : ℕ) × (n ≤ room) × (all ≡ steps ++ replicate n thread) ×
      IsMetAfter names thread r stop n

  none_taken : (room : ℕ) (r : Run) (stop : Stop) (steps all : List ℕ) →
      sight names at r thread stop ≡ Arrived →
      steps ≡ all →
      AreMet room r stop steps all
  none_taken room r stop steps all s e = (0, omega arith, sym e ∙ sym (append-nil steps), met_here r stop s)

  one_taken : (room : ℕ) (r : Run) (stop still : Stop) (steps all : List ℕ) →
      sight names at r thread stop ≡ GoesOn still
      → AreMet room (after_step names r thread) still (steps ++ thread ∷ []) all → AreMet (suc room) r stop steps all
  one_taken room r stop still steps all s (n, few, is, m) =
      (suc n, omega arith, is ∙ append_assoc steps (thread ∷ []) (replicate n thread), met_later r stop still n s m)

  are_met : (room : ℕ) (r : Run) (stop : Stop) (steps all : List ℕ) →
      gone_to names at thread r stop steps room ≡ Ok all →
      AreMet room r stop steps all
  are_met zero r stop steps all e = by_case (sight names at r thread stop) refl e
    where
      by_case : (s : Sight) →
          sight names at r thread stop ≡ s →
          by_sight s steps (λ still. Err (fault.TooFar at)) ≡ Ok all →
          AreMet zero r stop steps all
      by_case Arrived s e = let same : steps ≡ all = cc in none_taken zero r stop steps all s same
      by_case (GoesOn still) s e = let f : ⊥ = cc in absurd f
      by_case (Missed f) s e = let g : ⊥ = cc in absurd g
  are_met (suc room) r stop steps all e = by_case (are_met room (after_step names r thread))
      (sight names at r thread stop) refl e
    where
      by_case : ((still : Stop) (more every : List ℕ) → gone_to names at thread (after_step names r thread) still more
          room ≡ Ok every
          → AreMet room (after_step names r thread) still more every)
          → (s : Sight) → sight names at r thread stop ≡ s
          → by_sight s steps (λ still. gone_to names at thread (after_step names r thread) still (steps ++ thread ∷ [])
          room) ≡ Ok all
          → AreMet (suc room) r stop steps all
      by_case next Arrived s e = let same : steps ≡ all = cc in none_taken (suc room) r stop steps all s same
      by_case next (GoesOn still) s e = one_taken room r stop still steps all s
          (next still (steps ++ thread ∷ []) all e)
      by_case next (Missed f) s e = let g : ⊥ = cc in absurd g

pub targets_are_met : TargetsAreMet
targets_are_met names at thread room r stop steps all e = are_met names at thread room r stop steps all e
