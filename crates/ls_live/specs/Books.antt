-- What the book of a live run keeps.
use Rattle.ls_events.specs.Limits.{most_steps}
use Rattle.std.specs.Prelude.{◌≡◌, ℕ, ◌<◌, ◌≤◌, List, length, All}
use Rattle.ls_code.specs.Machine.{Machine, machine_run}
use Rattle.ls_live.specs.Due.{AreDue}

-- The machine is that of the run of the recorded steps. Each step is of a thread that exists and is due. There are no
-- more steps than may be.
pub record IsKept (start : Machine) (most : ℕ) (machine : Machine) (steps : List ℕ) (limit : ℕ) : Type 0 where
  pub run : machine ≡ machine_run start steps
  pub there : All (λ t. t < length start.threads) steps
  pub due : AreDue start steps
  pub within : length steps ≤ limit
  pub same : limit ≡ most
  pub few : limit ≤ most_steps
