-- Why `judgement_like` in src/judging.rt keeps its contract.

use Rattle.std.proofs.Common.{refl}
use Rattle.ls_batch.proofs.judging.judgement_like.Goals as goal

pub returns : goal.returns
returns c = λ file program judges once. record {
  verdict = refl;
  linear = c.in_ok-linearity.ensures file program judges once;
}
