-- Why `well_typed` in src/laws.rt keeps its contract.

use Rattle.std.proofs.Math.Logic.{∥∥₁_elim}
use Rattle.ls_types_checked.specs.CheckedFile.{elaborated_file}
use Rattle.ls_types_checked.proofs.laws.well_typed.Goals as goal

pub returns : goal.returns
returns c =
    ∥∥₁_elim c.args.checked.now.kept squash₁ (λ k. ∣ c.elaborates_well_typed.ensures k.tree
    (elaborated_file c.args.checked.now) k.is ∣₁)
