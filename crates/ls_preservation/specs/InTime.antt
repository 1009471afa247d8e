-- If the source of a thread has ended, the machine's thread ends in time.
use Rattle.std.specs.Prelude.{◌≡◌, ℕ, ◌<◌, ◌==◌, ◌||◌, true, false, List, ◌++◌, length, replicate, slice_get}
use Rattle.ls_checked.specs.CheckedTree.{File}
use Rattle.ls_checked.specs.CheckedProgram.{Program}
use Rattle.ls_meaning.specs.Threads.{Next, Goes, Ended, Trapped, next}
use Rattle.ls_meaning.specs.Runs.{State, answers_of, source_run}
use Rattle.ls_code.specs.Code.{Code}
use Rattle.ls_code.specs.Machine.{Machine, loaded, setup_ended, machine_run, machine_state}
use Rattle.ls_code.specs.declared.step.ThreadState.{ThreadState}
use Rattle.ls_code.specs.declared.step.ThreadState.TheVariants as state
use Rattle.ls_preservation.specs.Same.{IsCells}
use Rattle.ls_preservation.specs.Translations.{most_silent, to_source}

-- what a thread of the source does next
abbrev pub next_of : File → Program → State → ℕ → Next
next_of file program s t = next file program t (answers_of s t)

-- the state of the machine's thread, if its source has ended
abbrev pub StandsAs : Next → ThreadState → Type 0
StandsAs (Goes action sort) s = Unit {0}
StandsAs Ended s = s ≡ state.Ended
StandsAs Trapped s = s ≡ state.Trapped

-- the machine hasn't stopped; and if the thread isn't the setup, the setup has ended
abbrev pub IsOpen : Machine → ℕ → Type 0
IsOpen m t = (m.stopped ≡ false) × ((t == 0 || setup_ended (slice_get m.threads 0)) ≡ true)

-- Take any schedule, in a machine with any number of cells. If the source of a thread has ended, or has been trapped,
-- the thread does the same after at most `most_silent` steps of its own.
abbrev pub EndsInTime : File → Program → Code → Type 0
EndsInTime file program code =
    (cells : ℕ) → IsCells code cells → (schedule : List ℕ) (t : ℕ) → t < length program.threads →
    IsOpen (machine_run (loaded code cells) schedule) t →
    StandsAs (next_of file program (source_run file program (to_source code cells schedule)) t)
    (machine_state (machine_run (loaded code cells) (schedule ++ replicate (most_silent code) t)) t)
