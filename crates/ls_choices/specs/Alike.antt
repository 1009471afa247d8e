-- Runs after which all is told alike.
use Rattle.std.specs.Prelude.{◌≡◌, ℕ, ◌++◌, length}
use Rattle.ls_checked.specs.CheckedTree.{File}
use Rattle.ls_checked.specs.CheckedProgram.{Program}
use Rattle.ls_meaning.specs.Course.{Answers}
use Rattle.ls_meaning.specs.Threads.{next}
use Rattle.ls_meaning.specs.Runs.{State, answers_of}
use Rattle.ls_labels.specs.Names.{Names}
use Rattle.ls_trace.specs.Told.{Told}

-- the store is the same, and each thread goes on in the same way, whatever it is answered from now on
pub record GoesOnAlike (file : File) (program : Program) (s s' : State) : Type 0 where
  pub store : s.store ≡ s'.store
  pub lists : length s.answers ≡ length s'.answers
  pub continues : (thread : ℕ) (later : Answers) → next file program thread (answers_of s thread ++ later) ≡
      next file program thread (answers_of s' thread ++ later)

-- objects have the same names too, and the last call of each thread has the same number
pub record Alike (names : Names) (r r' : Told) : Type 0 where
  pub state : GoesOnAlike names.file names.program r.state r'.state
  pub labels : r.labels ≡ r'.labels
  pub calls : r.calls ≡ r'.calls
