-- Schedules in which no step is idle.
use Rattle.std.specs.Prelude.{◌≡◌, ◌≢◌, ℕ, List, [], ◌∷◌}
use Rattle.ls_code.specs.Machine.{Machine, machine_state, machine_step}
use Rattle.ls_code.specs.declared.step.Did.TheVariants.{Idle}
use Rattle.ls_code.specs.declared.step.ThreadState.TheVariants.{Running}

-- each step is of a thread that is due then: it exists, has started, and has not ended or trapped; and the machine
-- hasn't stopped
abbrev pub AreDue : Machine → List ℕ → Type 0
AreDue m [] = Unit {0}
AreDue m (t ∷ ts) = (machine_state m t ≡ Running) × AreDue (machine_step m t).machine ts

-- no step is answered Idle
abbrev pub NoneIsIdle : Machine → List ℕ → Type 0
NoneIsIdle m [] = Unit {0}
NoneIsIdle m (t ∷ ts) = ((machine_step m t).did ≢ Idle) × NoneIsIdle (machine_step m t).machine ts

abbrev pub DueIsNotIdle : Type 0
DueIsNotIdle = (m : Machine) (steps : List ℕ) → AreDue m steps → NoneIsIdle m steps
