-- Each seed's history is that of its schedule.
use Rattle.std.specs.Prelude.{◌≡◌, ◌+◌, ◌<◌, ◌≤◌, ℕ, All, length}
use Rattle.ls_code.specs.Code.{Code}
use Rattle.ls_code.specs.Machine.{loaded, machine_history}
use Rattle.ls_batch.specs.Samples.{history_of, seed_schedule, settling}
use Rattle.ls_batch.specs.declared.samples.Sampler.{Sampler}

-- The setup takes at most 100,000 steps, the machine's history of the seed's schedule is that of its run, and the
-- schedule's steps are of threads that are there.
pub record Replays (code : Code) (cells seed : ℕ) (d : Sampler) : Type 0 where
  pub few : settling 100000 (loaded code cells) ≤ 100000
  pub history : history_of code cells seed d ≡ machine_history code cells (seed_schedule code cells seed d)
  pub there : 0 < length code.starts → All (λ t. t < length code.starts) (seed_schedule code cells seed d)
  pub count : length (seed_schedule code cells seed d) ≤ 100000 + d.steps

abbrev pub SeedsReplay : Type 0
SeedsReplay = (code : Code) (cells seed : ℕ) (d : Sampler) → Replays code cells seed d
