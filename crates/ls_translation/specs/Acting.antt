-- The acting steps of a schedule of the machine.
use Rattle.std.specs.Prelude.{ℕ, List, [], ◌∷◌, map}
use Rattle.ls_code.specs.Machine.{Machine, machine_trace}
use Rattle.ls_code.specs.declared.step.Did.{Did}
use Rattle.ls_code.specs.declared.step.Did.TheVariants as did

-- the thread of each step that acts, in order
abbrev pub acting : Machine → List ℕ → List ℕ
acting m schedule = map (λ e. e.thread) (machine_trace m schedule)

-- the thread of a step, where it acts
abbrev pub if_acts : ℕ → Did → List ℕ
if_acts thread (did.Acted action answer) = thread ∷ []
if_acts thread did.Silent = []
if_acts thread did.Waits = []
if_acts thread did.Idle = []
if_acts thread did.Stopped = []
