-- What the work of each thread means, beside what the thread does next after its answers.
use Rattle.std.specs.Prelude.{◌≡◌, ℕ, List, [], ◌++◌, Option, Some, None, slice_get, slice_index_or}
use Rattle.ls_events.specs.declared.value.Value.{Value}
use Rattle.ls_events.specs.declared.action.Action.{Action}
use Rattle.ls_checked.specs.CheckedTree.{File}
use Rattle.ls_checked.specs.CheckedProgram.{Program}
use Rattle.ls_meaning.specs.Course.{Answers}
use Rattle.ls_meaning.specs.Threads.{Next, Goes, Ended, Trapped, next}
use Rattle.ls_source.specs.Calls.{Thread, thread_meaning, asked_now}

-- a thread that doesn't exist has ended
abbrev pub means : File → Program → Option Thread → Answers → Next
means file program None q = Ended
means file program (Some t) q = thread_meaning file program t q

-- the work of each thread means what the thread does after the answers that it has had
abbrev pub IsKept : File → Program → List Thread → List Answers → Type 0
IsKept file program threads answers =
    (i : ℕ) (q : Answers) → means file program (slice_get threads i) q ≡ next file program i
    (slice_index_or answers i [] ++ q)

-- what a thread asks for, if no move is left
abbrev pub asked_at : Program → Option Thread → Option Next
asked_at program None = Some Ended
asked_at program (Some t) = asked_now program t

abbrev pub action_in : Option Next → Option (Action Value)
action_in (Some (Goes action sort)) = Some action
action_in (Some Ended) = None
action_in (Some Trapped) = None
action_in None = None
