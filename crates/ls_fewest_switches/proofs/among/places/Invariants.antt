-- What the loop `at` of `places` in src/among.rt keeps.

use Rattle.std.proofs.Common.{◌≡◌, map, take}
use Rattle.ls_fewest_switches.specs.Among.{lefts_at}
use Rattle.ls_fewest_switches.proofs.among.places.Given as goal

abbrev pub invariant-loop-at : goal.invariant-loop-at
invariant-loop-at l =
    lefts_at (map (λ v. v.items) l.histories) 0 l.which.items ≡ take l.at (map (λ v. v.items) l.histories)
