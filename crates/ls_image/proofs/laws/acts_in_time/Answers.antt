-- Why `acts_in_time` in src/laws.rt keeps its contract.

use Rattle.std.proofs.Math.Logic.{∥∥₁_elim}
use Rattle.ls_preservation.proofs.Once.{acting_prop}
use Rattle.ls_image.proofs.laws.acts_in_time.Goals as goal

pub returns : goal.returns
returns c = ∥∥₁_elim c.args.image.now.kept (acting_prop _ _ _) (λ r. r.acts)
