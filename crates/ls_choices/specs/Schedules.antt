-- What `trace` keeps after a schedule, and what it tells of one more step.
use Rattle.std.specs.Prelude.{ℕ, Bool, true, false, List, [], ◌∷◌}
use Rattle.ls_meaning.specs.declared.step.Did.{Did}
use Rattle.ls_meaning.specs.declared.step.Did.TheVariants.{Acted, Waits, Idle}
use Rattle.ls_report.specs.Events.{Text}
use Rattle.ls_labels.specs.Names.{Names}
use Rattle.ls_trace.specs.Told.{Told, begun, step_in, after_step}
use Rattle.ls_trace.specs.Lines.{step_text}

-- a run after these steps more
abbrev pub told_from : Names → Told → List ℕ → Told
told_from names r [] = r
told_from names r (thread ∷ threads) = told_from names (after_step names r thread) threads

-- the run after a schedule
abbrev pub told_after : Names → List ℕ → Told
told_after names steps = told_from names (begun names.program) steps

-- what `trace` prints of a step after a run, without its number
abbrev pub words_of : Names → Told → ℕ → Text
words_of names r thread = step_text names (after_step names r thread) thread (step_in names r thread).did

-- whether a step does more than wait, or nothing
abbrev pub is_action : Did → Bool
is_action (Acted action answer) = true
is_action Waits = false
is_action Idle = false

-- whether a step waits
abbrev pub is_waiting : Did → Bool
is_waiting (Acted action answer) = false
is_waiting Waits = true
is_waiting Idle = false

-- whether a thread acts after a run
abbrev pub acts : Names → Told → ℕ → Bool
acts names r thread = is_action (step_in names r thread).did

-- whether a thread waits after a run
abbrev pub waits : Names → Told → ℕ → Bool
waits names r thread = is_waiting (step_in names r thread).did
