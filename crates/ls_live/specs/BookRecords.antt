-- Records of the book of a live run.
use Rattle.std.specs.Prelude.{◌≡◌, ℕ, ◌<◌, ◌≤◌, length, All}
use Rattle.ls_code.specs.Machine.{Machine, machine_run}
use Rattle.ls_live.specs.Due.{AreDue}
use Rattle.ls_schedule.specs.Records.{scheduled, happened}
use Rattle.ls_schedule.specs.declared.replaying.Record.{Record}

-- A record of at most `limit` steps from a machine on. Its history is that of the run of its schedule. Each step is of
-- a thread that exists and is due.
pub record IsRecordFrom (start : Machine) (limit : ℕ) (r : Record) : Type 0 where
  pub history : happened r ≡ (machine_run start (scheduled r)).history
  pub there : All (λ t. t < length start.threads) (scheduled r)
  pub due : AreDue start (scheduled r)
  pub within : length (scheduled r) ≤ limit
