-- Why `the_same_alone` in src/wrong_codes.rt keeps its contract.

use Rattle.ls_preservation.proofs.Endless.{round_same, stuck_same}
use Rattle.ls_preservation.proofs.Refused.{round_asks_not, stuck_asks_not, round_ends_not, stuck_ends_not}
use Rattle.ls_preservation.proofs.wrong_codes.the_same_alone.Goals as goal

pub returns : goal.returns
returns c = record {
  round_same = round_same;
  round_asks = round_asks_not;
  round_ends = round_ends_not;
  stuck_same = stuck_same;
  stuck_asks = stuck_asks_not;
  stuck_ends = stuck_ends_not;
}
