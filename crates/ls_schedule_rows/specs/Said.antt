-- Words in which rows of schedules are written.
use Rattle.std.specs.Prelude.{◌≡◌, ℕ, List, [], ◌∷◌, codes, Ok, Err}
use Rattle.ls_schedule.specs.declared.fault.ScheduleFault.{ScheduleFault}
use Rattle.ls_schedule.specs.Reading.{schedule_of}

-- the setup is thread 0, A thread 1, B thread 2
abbrev pub names : List (List ℕ)
names = codes "setup" ∷ codes "A" ∷ codes "B" ∷ []

-- the text says these steps
abbrev pub Says : List ℕ → List ℕ → Type 0
Says text steps = schedule_of names text ≡ Ok steps

abbrev pub IsRefused : List ℕ → ScheduleFault → Type 0
IsRefused text fault = schedule_of names text ≡ Err fault
