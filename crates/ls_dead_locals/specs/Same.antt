-- Pending work and threads that mean the same.
use Rattle.std.specs.Prelude.{◌≡◌, ℕ, List}
use Rattle.ls_events.specs.declared.value.Value.{Value}
use Rattle.ls_checked.specs.CheckedTree.{File}
use Rattle.ls_checked.specs.CheckedProgram.{Program}
use Rattle.ls_meaning.specs.Course.{Answers}
use Rattle.ls_source_pending.specs.Pending.{State}
use Rattle.ls_source_pending.specs.Meaning.{PartResult, Rest, meaning}
use Rattle.ls_source.specs.Calls.{Thread, thread_meaning}

-- what comes after a call doesn't read the call's locals
abbrev pub ReadsNoLocals : Rest → Type 0
ReadsNoLocals base = (d : ℕ) (ls ls' : List Value) (r : PartResult) (q : Answers) → base d ls' r q ≡ base d ls r q

-- the work means the same, whatever comes after the call that it is of
abbrev pub IsSameWork : State → State → Type 0
IsSameWork s s' = (file : File) (base : Rest) → ReadsNoLocals base → (q : Answers) →
    meaning file base s' q ≡ meaning file base s q

-- the thread does the same next, after whatever answers
abbrev pub IsSameThread : Thread → Thread → Type 0
IsSameThread t t' = (file : File) (program : Program) (q : Answers) →
    thread_meaning file program t' q ≡ thread_meaning file program t q
