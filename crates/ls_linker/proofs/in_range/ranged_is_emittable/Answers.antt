-- Why `ranged_is_emittable` in src/in_range.rt keeps its contract.

use Rattle.std.proofs.Math.Logic.{∥∥₁_elim}
use Rattle.ls_refs.specs.Lowered.{lowered_file}
use Rattle.ls_finally.specs.Flat.{flat_file}
use Rattle.ls_linker.proofs.Once.{emittable_once}
use Rattle.ls_linker.proofs.Ranges.{file_emittable}
use Rattle.ls_linker.proofs.in_range.ranged_is_emittable.Goals as goal

pub returns : goal.returns
returns c = λ file well fit.
    let flat = flat_file (lowered_file file) in
    ∥∥₁_elim well (emittable_once flat flat) (λ w. file_emittable file w.typed w.classes w.limits w.loops fit)
