-- Why `not_in_time` in src/wrong_codes.rt keeps its contract.

use Rattle.std.proofs.Common.{refl}
use Rattle.ls_preservation.proofs.Refused.{gives_up_not}
use Rattle.ls_preservation.proofs.wrong_codes.not_in_time.Goals as goal

pub returns : goal.returns
returns c = record { gives_up = gives_up_not; looks_again = refl }
