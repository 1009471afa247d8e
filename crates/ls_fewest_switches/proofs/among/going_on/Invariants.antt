-- What the loop `at` of `going_on` in src/among.rt keeps.

use Rattle.std.proofs.Common.{◌≡◌, ◌⊎◌, ◌+◌, [], map, take}
use Rattle.ls_fewest_switches.specs.Among.{lefts_after, lefts_at}
use Rattle.ls_fewest_switches.proofs.among.going_on.Given as goal

abbrev pub invariant-loop-at : goal.invariant-loop-at
invariant-loop-at l = record {
  left : lefts_at (map (λ v. v.items) l.histories) (l.noted.done + 1) l.which.items ≡
      lefts_after (lefts_at (map (λ v. v.items) l.histories) l.noted.done (take l.at-index l.noted.which.items))
      l.event;
  count : (l.which.items ≡ []) ⊎ (l.done ≡ l.noted.done + 1);
}
