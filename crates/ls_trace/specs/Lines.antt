-- The line of each step.
use Rattle.std.specs.Prelude.{ℕ, ◌+◌, List, [], ◌∷◌, ◌++◌, nat_le, nat_lt, length, slice_index_or, take, codes}
use Rattle.std.specs.Prelude.{if◌then◌else◌}
use Rattle.std.specs.Fmt.{decimal}
use Rattle.ls_meaning.specs.declared.step.Asked.{Asked}
use Rattle.ls_meaning.specs.declared.step.Asked.TheVariants.{Asks, Ended, NotStarted}
use Rattle.ls_meaning.specs.declared.step.Did.{Did}
use Rattle.ls_meaning.specs.declared.step.Did.TheVariants.{Acted, Waits, Idle}
use Rattle.ls_meaning.specs.Runs.{asked}
use Rattle.ls_report.specs.Events.{Text}
use Rattle.ls_report.specs.Lines.{call_text}
use Rattle.ls_labels.specs.Names.{Names}
use Rattle.ls_labels.specs.Threads.{end_text, start_text, thread_name, trapped_in, wait_text}
use Rattle.ls_labels.specs.Words.{performed_text}
use Rattle.ls_trace.specs.Told.{Told, begun, step_in, after_step}

-- a thread with its last call, as `A.1 `
abbrev pub who : Names → Told → ℕ → Text
who names r thread = call_text (thread_name names.program thread) (slice_index_or r.calls thread 0) ++ 32 ∷ []

-- what is told of a step that changes nothing, by what its thread asks for
abbrev pub still_text : Names → Told → ℕ → Asked → Text
still_text names r thread (Asks action) = who names r thread ++ wait_text names r.labels r.state.store action
still_text names r thread NotStarted = thread_name names.program thread ++ start_text (trapped_in names r.state 0)
still_text names r thread Ended = thread_name names.program thread ++ end_text (trapped_in names r.state thread)

-- a number of no thread is told as such
abbrev pub numbered_text : Names → Told → ℕ → Text
numbered_text names r thread =
    if nat_lt thread (length names.program.threads)
    then still_text names r thread (asked names.file names.program r.state thread)
    else codes "no thread has number " ++ decimal thread

-- what is told of a step; the run is the one after it
abbrev pub step_text : Names → Told → ℕ → Did → Text
step_text names r thread (Acted action answer) = who names r thread ++
    performed_text names r.labels thread action answer
step_text names r thread Waits = numbered_text names r thread
step_text names r thread Idle = numbered_text names r thread

-- as `12 A.1 reads Node#3.next: Node#4`
abbrev pub line : Names → ℕ → Told → ℕ → Did → Text
line names number r thread did = decimal number ++ (32 ∷ (step_text names r thread did ++ 10 ∷ []))

-- the lines of these steps after a run, from a number on; the first step's number is given
abbrev pub lines : Names → ℕ → ℕ → Told → List ℕ → Text
lines names from number r [] = []
lines names from number r (thread ∷ threads) =
    (if nat_le from number then line names number (after_step names r thread) thread (step_in names r thread).did else
    [])
    ++ lines names from (number + 1) (after_step names r thread) threads

-- the lines of the steps of a schedule whose numbers, counted from 1, lie in a range, both ends among them
abbrev pub trace_text : Names → List ℕ → ℕ → ℕ → Text
trace_text names schedule from to = lines names from 1 (begun names.program) (take to schedule)
