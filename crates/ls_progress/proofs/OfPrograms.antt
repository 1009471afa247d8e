-- A livelock of the runs from before the first step is one of the program.
use Rattle.std.proofs.Common.{◌≡◌, false, length, subst}
use Rattle.ls_progress_laws.specs.From.{GoesRoundByLocksFrom}
use Rattle.ls_progress_laws.specs.Progress.{lock_free}
use Rattle.ls_progress_laws.proofs.Starting.{runs_from_start}
use Rattle.ls_progress.specs.Judged.{file_in, program_in}
use Rattle.ls_progress.specs.Livelocks.{IsLivelockIn, IsLivelockOf}
use Rattle.ls_progress.specs.Roots.{root_of}
use Rattle.ls_progress.specs.declared.lassos.Lasso.{Lasso}
use Rattle.ls_progress.specs.declared.states.Scope.{Scope}

pub livelock_of_program : (s : Scope) (l : Lasso) → IsLivelockIn s l → s.again ≡ false → IsLivelockOf s l
livelock_of_program s l is off =
    let kind = lock_free is.thread in
    record {
      short = is.short;
      is = record {
        thread = is.thread;
        call = is.call;
        round = (runs_from_start kind (file_in s) (program_in s) is.call).by_locks l.way.items l.cycle.items
            (subst (λ b. GoesRoundByLocksFrom kind (file_in s) (root_of b (file_in s) (program_in s))
            (length (program_in s).threads) is.call l.way.items l.cycle.items) off is.round);
      };
    }
