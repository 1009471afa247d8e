-- Why `rows` in src/laws.rt keeps its contract.

use Rattle.std.proofs.Common.{refl, arith}
use Rattle.ls_meaning.specs.Methods.{invoke, depth_limit}
use Rattle.ls_preservation.proofs.laws.rows.Goals as goal

pub returns : goal.returns
unfolding invoke depth_limit
returns c = record {
  words = (refl, refl, refl, refl);
  cells = refl;
  to_source = refl;
  to_machine = refl;
  births = refl;
  numbers = (refl, refl, refl);
  kinds = (
    (λ h. h.1.0.0 refl),
    (λ h. h.1.0),
    (λ h. h.1.0),
    (refl, (((λ e. absurd (omega arith)), omega arith), tt)),
    (refl, (omega arith, tt)),
  );
  by_words = refl;
  room = (omega arith, λ h. absurd (omega arith));
}
