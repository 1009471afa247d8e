-- Machines of which no thread takes steps.
use Rattle.std.specs.Prelude.{◌≡◌, ◌<◌, ◌≤◌, ℕ, Bool, true, false, List, All}
use Rattle.ls_code.specs.Machine.{Machine, machine_run, machine_state}
use Rattle.ls_code.specs.declared.step.ThreadState.{ThreadState}
use Rattle.ls_code.specs.declared.step.ThreadState.TheVariants as state

abbrev pub takes_steps : ThreadState → Bool
takes_steps state.NotStarted = false
takes_steps state.Running = true
takes_steps state.Ended = false
takes_steps state.Trapped = false
takes_steps state.Stopped = false

-- none of the threads 1, 2, .., of which there are so many, takes steps: each has ended or trapped, or hasn't started,
-- or the machine has stopped
abbrev pub IsOver : Machine → ℕ → Type 0
IsOver m threads = (t : ℕ) → 0 < t → t ≤ threads → takes_steps (machine_state m t) ≡ false

-- one of these threads
abbrev pub IsThread : ℕ → ℕ → Type 0
IsThread threads t = (0 < t) × (t ≤ threads)

-- Such a machine stays as it is, whatever steps of these threads follow. So a run may end there.
abbrev pub OverStays : Type 0
OverStays = (m : Machine) (threads : ℕ) (steps : List ℕ) → IsOver m threads → All (IsThread threads) steps →
    machine_run m steps ≡ m
