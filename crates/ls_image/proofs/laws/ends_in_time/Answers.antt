-- Why `ends_in_time` in src/laws.rt keeps its contract.

use Rattle.std.proofs.Math.Logic.{∥∥₁_elim}
use Rattle.ls_preservation.proofs.Once.{ends_prop}
use Rattle.ls_image.proofs.laws.ends_in_time.Goals as goal

pub returns : goal.returns
returns c = ∥∥₁_elim c.args.image.now.kept (ends_prop _ _ _) (λ r. r.ends)
