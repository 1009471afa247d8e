-- What the book of a live run answers to a step, and which steps are recorded after it.
use Rattle.std.specs.Prelude.{ℕ, ◌==◌, ◌||◌, List, [], ◌∷◌, ◌++◌, Bool, true, false, if◌then◌else◌}
use Rattle.ls_code.specs.Machine.{Machine, machine_step, machine_state}
use Rattle.ls_code.specs.declared.step.ThreadState.{ThreadState}
use Rattle.ls_code.specs.declared.step.ThreadState.TheVariants as state
use Rattle.ls_live.specs.declared.book.More.{More}
use Rattle.ls_live.specs.declared.book.More.TheVariants as more

-- no step will come of a thread in this state
abbrev pub is_final : ThreadState → Bool
is_final state.NotStarted = false
is_final state.Running = false
is_final state.Ended = true
is_final state.Trapped = true
is_final state.Stopped = true

abbrev pub is_trapped : ThreadState → Bool
is_trapped state.NotStarted = false
is_trapped state.Running = false
is_trapped state.Ended = false
is_trapped state.Trapped = true
is_trapped state.Stopped = false

abbrev pub is_not_started : ThreadState → Bool
is_not_started state.NotStarted = true
is_not_started state.Running = false
is_not_started state.Ended = false
is_not_started state.Trapped = false
is_not_started state.Stopped = false

-- the thread has ended or trapped, the setup trapped, or the machine has stopped
unfoldable pub is_over : Machine → ℕ → Bool
is_over m t = is_final (machine_state m t) || is_trapped (machine_state m 0)

-- The answer to a step of thread t. The machine is m, and `recorded` of at most `limit` steps are recorded.
unfoldable pub answer : Machine → ℕ → ℕ → ℕ → More
answer m recorded limit t =
    if is_over m t then more.Over
    else if recorded == limit then more.Full
    else if is_not_started (machine_state m t) then more.Later
    else more.Did (machine_step m t).did

-- the recorded steps after a step of thread t with this answer
abbrev pub recorded_after : List ℕ → ℕ → More → List ℕ
recorded_after steps t more.Over = steps
recorded_after steps t more.Full = steps
recorded_after steps t more.Later = steps
recorded_after steps t (more.Did did) = steps ++ t ∷ []
