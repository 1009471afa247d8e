-- Livelocks. In books calls are deadlock-free if in each fair run some call ends again and again, as long as one is
-- pending. A fair run in which none ends shows that they aren't.
use Rattle.std.specs.Prelude.{ℕ, List}
use Rattle.ls_checked.specs.CheckedTree.{File}
use Rattle.ls_checked.specs.CheckedProgram.{Program}
use Rattle.ls_progress_laws.specs.Laws.{GoesRoundByLocks}
use Rattle.ls_progress_laws.specs.Progress.{lock_free}

-- After the way a call is pending. However often the cycle is taken after it, no call begins or ends. Each thread takes
-- a step in it that isn't over, and each acts that could act where one of its steps is taken.
pub record IsLivelock (file : File) (program : Program) (way cycle : List ℕ) : Type 0 where
  pub thread : ℕ
  pub call : ℕ
  pub round : GoesRoundByLocks (lock_free thread) file program call way cycle
