-- The events of a step are taken from those that its thread can still have; most steps have none.
use Rattle.std.specs.Prelude.{◌≡◌, ℕ, ◌+◌, ◌≤◌, [], length, false}
use Rattle.ls_code.specs.Code.{Code}
use Rattle.ls_code.specs.Thread.{Thread}
use Rattle.ls_code.specs.Events.{events_of}
use Rattle.ls_code.specs.Machine.{stops}
use Rattle.ls_code.specs.declared.step.Did.{Did}
use Rattle.ls_machine_threads.specs.Memory.{events_left}

abbrev pub TakesEvents : Code → ℕ → Did → Thread → Thread → Type 0
TakesEvents p number d old new = length (events_of p number d) + events_left new ≤ events_left old

-- what is no event and doesn't stop the machine
abbrev pub IsUnseen : Did → Type 0
IsUnseen d = (stops d ≡ false) × ((p : Code) (thread : ℕ) → events_of p thread d ≡ [])
