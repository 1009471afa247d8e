-- Why `find_livelock` in src/livelocks.rt keeps its contract.
use Rattle.std.proofs.Common.{◌≡◌, false}
use Rattle.ls_progress.specs.Livelocks.{IsLivelockIn, IsLivelockOf}
use Rattle.ls_progress.proofs.KindLemmas.{ok_some}
use Rattle.ls_progress.proofs.OfPrograms.{livelock_of_program}
use Rattle.ls_progress.proofs.livelocks.find_livelock.Goals as goal

pub returns : goal.returns
returns c =
    let s = c.args.scope in
    ok_some c.livelock_in.result (IsLivelockIn s) (λ l. s.again ≡ false → IsLivelockOf s l)
    (λ l is. livelock_of_program s l is) c.livelock_in.ensures
