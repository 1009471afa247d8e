-- Why `is_state_kept` in src/reach.rt keeps its contract.

use Rattle.std.proofs.Common.{arith}
use Rattle.std.proofs.lemmas.List.{length-map}
use Rattle.ls_choices.specs.Seen.{row_of}
use Rattle.ls_choices.proofs.reach.is_state_kept.Goals as goal

pub returns-else-here-steps : goal.returns-else-here-steps
returns-else-here-steps c = λ yes. record {
  threads = omega (arith, length-map c.args.rows.now row_of);
  leads = λ under. c.all_lead_near.ensures yes;
}
