-- Where a target is met, without the search for it: after the fewest steps of its thread.
use Rattle.std.specs.Prelude.{◌≡◌, ◌+◌, ◌≤◌, ℕ, zero, suc, Bool, true, false, List, ◌++◌, replicate, Ok, if◌then◌else◌}
use Rattle.ls_meaning.specs.declared.step.Did.{Did}
use Rattle.ls_meaning.specs.declared.step.Did.TheVariants.{Acted, Waits, Idle}
use Rattle.ls_labels.specs.Names.{Names}
use Rattle.ls_labels.specs.Words.{performed_text}
use Rattle.ls_report.specs.Events.{Text}
use Rattle.ls_aim.specs.Aims.{gone_to}
use Rattle.ls_aim.specs.Labels.{has_text}
use Rattle.ls_aim.specs.Reading.{Before, Rest, Stop}
use Rattle.ls_aim.specs.Runs.{Run, after_step, step_in}

-- a step of the thread would change nothing
abbrev pub changes_nothing : Did → Bool
changes_nothing (Acted action answer) = false
changes_nothing Waits = true
changes_nothing Idle = true

abbrev pub rests : Names → ℕ → Run → Bool
rests names thread r = changes_nothing (step_in names r thread).did

-- the label of a step has the text; the run is the one after it
abbrev pub label_has : Names → Text → ℕ → Run → Did → Bool
label_has names text thread r (Acted action answer) = has_text text (performed_text names r.labels thread action answer)
label_has names text thread r Waits = false
label_has names text thread r Idle = false

abbrev pub shows : Names → Text → ℕ → Run → Bool
shows names text thread r = label_has names text thread (after_step names r thread) (step_in names r thread).did

-- the run after so many steps of the thread
abbrev pub later : Names → ℕ → Run → ℕ → Run
later names thread r zero = r
later names thread r (suc n) = later names thread (after_step names r thread) n

-- none of the thread's next n steps changes nothing
abbrev pub Moves : Names → ℕ → Run → ℕ → Type 0
Moves names thread r zero = Unit {0}
Moves names thread r (suc n) = (rests names thread r ≡ false) × Moves names thread (after_step names r thread) n

-- how many of them have the text in their label
abbrev pub shown : Names → Text → ℕ → Run → ℕ → ℕ
shown names text thread r zero = 0
shown names text thread r (suc n) = (if shows names text thread r then 1 else 0) + shown names text thread
    (after_step names r thread) n

-- After n steps, and after no fewer: the thread rests; or its next step has the text, as so many have before.
abbrev pub IsMetAfter : Names → ℕ → Run → Stop → ℕ → Type 0
IsMetAfter names thread r Rest n = Moves names thread r n × (rests names thread (later names thread r n) ≡ true)
IsMetAfter names thread r (Before passing text) n =
    Moves names thread r n × (shown names text thread r n ≡ passing) ×
    (shows names text thread (later names thread r n) ≡ true)

-- the steps that a target takes are so many of its thread
abbrev pub TargetsAreMet : Type 0
TargetsAreMet =
    (names : Names) (at thread room : ℕ) (r : Run) (stop : Stop) (steps all : List ℕ) →
    gone_to names at thread r stop steps room ≡ Ok all
    → (n : ℕ) × (n ≤ room) × (all ≡ steps ++ replicate n thread) × IsMetAfter names thread r stop n
