-- Why `typed_is_placed` in src/in_range.rt keeps its contract.

use Rattle.std.proofs.Math.Logic.{∥∥₁_elim}
use Rattle.ls_refs.specs.Lowered.{lowered_file}
use Rattle.ls_linker.proofs.Once.{placed_once}
use Rattle.ls_linker.proofs.Placed.{file_placed}
use Rattle.ls_linker.proofs.in_range.typed_is_placed.Goals as goal

pub returns : goal.returns
returns c = λ file well. ∥∥₁_elim well (placed_once (lowered_file file) (lowered_file file))
    (λ w. file_placed file w.typed)
