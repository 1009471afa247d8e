-- The schedule that a seed gives, and the run of one seed.
use Rattle.std.specs.Prelude.{◌≡◌, ℕ, zero, suc, ◌+◌, ◌-◌, ◌/◌, ◌%◌, ◌^◌, ◌<◌, ◌⊎◌, ◌||◌, ◌==◌, List, [], ◌∷◌, ◌++◌}
use Rattle.std.specs.Prelude.{length, map, replicate, if◌then◌else◌, Bool, true, false}
use Rattle.std.specs.List.{range_with_len}
use Rattle.rand_xoshiro.specs.SplitMix64.{mix_u64}
use Rattle.ls_code.specs.Code.{Code}
use Rattle.ls_code.specs.Machine.{Machine, loaded, machine_step, machine_run, machine_state}
use Rattle.ls_code.specs.declared.step.ThreadState.{ThreadState}
use Rattle.ls_code.specs.declared.step.ThreadState.TheVariants as state
use Rattle.ls_events.specs.declared.event.Event.{Event}
use Rattle.ls_batch.specs.declared.samples.Sampler.{Sampler}

-- The thread of the next step, by a word of the generator. After the setup, which is 0, and else by chance 1 in
-- `switch`, it is drawn: one of the threads 1, 2, .., as many as there are. Otherwise `last`, the thread of the step
-- before, goes on.
abbrev pub next_thread : ℕ → ℕ → ℕ → ℕ → ℕ
next_thread threads switch last word = if last == 0 || word % switch == 0 then 1 + word / switch % threads else last

-- the next n entries of the generator at x, after a step of the thread `last`
unfoldable pub draws : ℕ → ℕ → ℕ → ℕ → ℕ → List ℕ
draws threads switch last zero x = []
draws threads switch last (suc n) x =
    let next = next_thread threads switch last (mix_u64 x).0 in
    next ∷ draws threads switch next n (mix_u64 x).1

-- no threads, no entries
abbrev pub sample_of : ℕ → ℕ → Sampler → List ℕ
sample_of seed zero d = []
sample_of seed (suc threads) d = draws (suc threads) d.switch 0 d.steps seed

abbrev pub goes_on : ThreadState → Bool
goes_on state.NotStarted = true
goes_on state.Running = true
goes_on state.Ended = false
goes_on state.Trapped = false
goes_on state.Stopped = false

-- steps of the setup until it has ended, trapped or stopped, and at most so many
unfoldable pub settled : ℕ → Machine → Machine
settled zero m = m
settled (suc n) m = if goes_on (machine_state m 0) then settled n (machine_step m 0).machine else m

-- how many steps of the setup that takes
unfoldable pub settling : ℕ → Machine → ℕ
settling zero m = zero
settling (suc n) m = if goes_on (machine_state m 0) then suc (settling n (machine_step m 0).machine) else zero

-- the machine after a seed's run: at most 100,000 steps of the setup, then the seed's sample
unfoldable pub played : Machine → ℕ → ℕ → Sampler → Machine
played m threads seed d = machine_run (settled 100000 m) (sample_of seed threads d)

-- the threads beside the setup
abbrev pub threads_of : Code → ℕ
threads_of code = length code.starts - 1

-- the events of a seed's run on so many cells
abbrev pub history_of : Code → ℕ → ℕ → Sampler → List Event
history_of code cells seed d = (played (loaded code cells) (threads_of code) seed d).history

-- the schedule of a seed's run on so many cells: the setup's steps, then the seed's sample
abbrev pub seed_schedule : Code → ℕ → ℕ → Sampler → List ℕ
seed_schedule code cells seed d = replicate (settling 100000 (loaded code cells)) 0 ++
    sample_of seed (threads_of code) d

-- the histories of so many seeds from the first on
abbrev pub histories_of : Code → ℕ → ℕ → ℕ → Sampler → List (List Event)
histories_of code cells first count d = map (λ i. history_of code cells (first + i) d) (range_with_len 0 count)

-- more than 900,000 steps, or the chance is none, or less than 1 in 900,000
abbrev pub IsBadSampler : Sampler → Type 0
IsBadSampler d = (900000 < d.steps) ⊎ (d.switch ≡ 0) ⊎ (900000 < d.switch)

-- no seeds, more than 100,000, a seed past the greatest u64, or a bad drawing
abbrev pub IsBadCount : ℕ → ℕ → Sampler → Type 0
IsBadCount first count d = (count ≡ 0) ⊎ (100000 < count) ⊎ (2 ^ 64 < first + count) ⊎ IsBadSampler d
