-- What is told of livelocks.
use Rattle.std.specs.Prelude.{ℕ}
use Rattle.ls_progress_laws.specs.From.{GoesRoundByLocksFrom}
use Rattle.ls_progress_laws.specs.Livelocks.{IsLivelock}
use Rattle.ls_progress_laws.specs.Progress.{lock_free}
use Rattle.ls_progress.specs.Ends.{IsShort}
use Rattle.ls_progress.specs.Judged.{file_in, program_in, root_in, threads_in}
use Rattle.ls_progress.specs.declared.lassos.Lasso.{Lasso}
use Rattle.ls_progress.specs.declared.states.Scope.{Scope}

-- a lasso of the runs of which it is told, in which all threads go on and no call ends
pub record IsLivelockIn (s : Scope) (l : Lasso) : Type 0 where
  pub thread : ℕ
  pub call : ℕ
  pub short : IsShort l
  pub round : GoesRoundByLocksFrom (lock_free thread) (file_in s) (root_in s) (threads_in s) call l.way.items
      l.cycle.items

-- a livelock of the program, ten rounds of which are no longer than a schedule may be
pub record IsLivelockOf (s : Scope) (l : Lasso) : Type 0 where
  pub short : IsShort l
  pub is : IsLivelock (file_in s) (program_in s) l.way.items l.cycle.items
