-- What the loop `at` of `is_one_over` in src/among.rt keeps.

use Rattle.std.proofs.Common.{◌≡◌, false, map, take}
use Rattle.ls_fewest_switches.specs.Among.{is_one_whole, lefts_at}
use Rattle.ls_fewest_switches.proofs.among.is_one_over.Given as goal

abbrev pub invariant-loop-at : goal.invariant-loop-at
invariant-loop-at l =
    is_one_whole (lefts_at (map (λ v. v.items) l.histories) l.noted.done (take l.at-index l.noted.which.items)) ≡ false
