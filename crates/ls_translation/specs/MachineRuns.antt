-- Runs of the machine that follow the source.
use Rattle.std.specs.Prelude.{ℕ, Bool, true, false, List, [], ◌∷◌, ◌++◌, if◌then◌else◌}
use Rattle.ls_meaning.specs.Still.{has_acted}
use Rattle.ls_meaning.specs.Runs.{source_step}
use Rattle.ls_meaning.specs.declared.step.Did.{Did as SourceDid}
use Rattle.ls_source.specs.Progress.{Progress}
use Rattle.ls_code.specs.Machine.{Machine, machine_step, machine_run}
use Rattle.ls_code.specs.declared.step.Did.{Did}
use Rattle.ls_code.specs.declared.step.Did.TheVariants as did
use Rattle.ls_preservation.specs.Translations.{has_setup_ended, setup_end, steps_for, steps_from, until_acts}
use Rattle.ls_translation.specs.declared.machine_run.MachineRun.{MachineRun}

-- a machine that hasn't taken a step
abbrev pub begun : Machine → MachineRun
begun m = record { machine = m; steps = [] }

-- the run after one more step, and after these
abbrev pub one_more : MachineRun → ℕ → MachineRun
one_more r thread = record { machine = (machine_step r.machine thread).machine; steps = r.steps ++ thread ∷ [] }

abbrev pub gone : MachineRun → List ℕ → MachineRun
gone r steps = record { machine = machine_run r.machine steps; steps = r.steps ++ steps }

-- whether a step of the machine is not silent
abbrev pub is_loud : Did → Bool
is_loud did.Silent = false
is_loud (did.Acted action answer) = true
is_loud did.Waits = true
is_loud did.Idle = true
is_loud did.Stopped = true

-- the setup's steps to its end, if its source has ended
abbrev pub steps_before : Progress → ℕ → Machine → List ℕ
steps_before r n m = setup_end n m (has_setup_ended r.file r.program r.state)

-- the machine's steps for a step of the source that acts; the source run is the one after the step
abbrev pub steps_of_acting : Progress → ℕ → Machine → ℕ → List ℕ
steps_of_acting r n m thread = until_acts n m thread ++ steps_before r n (machine_run m (until_acts n m thread))

-- the machine's steps for a step of the source that did this; the source run is the one after the step
abbrev pub steps_after : Progress → ℕ → Machine → ℕ → SourceDid → List ℕ
steps_after r n m thread did = if has_acted did then steps_of_acting r n m thread else []

-- the machine's steps for the next step of a source run, and for the rest of its schedule
abbrev pub steps_of_one : Progress → ℕ → Machine → ℕ → List ℕ
steps_of_one r n m thread = steps_for r.file r.program n m thread (source_step r.file r.program r.state thread)

abbrev pub steps_of_rest : Progress → ℕ → Machine → List ℕ → List ℕ
steps_of_rest r n m schedule = steps_from r.file r.program n r.state m schedule
