-- What the loop `at` of `lost_at` in src/following.rt keeps.

use Rattle.std.proofs.Common.{◌≡◌, ◌∷◌, [], false, take}
use Rattle.std.specs.List.{fold}
use Rattle.ls_automaton.specs.Held.{first_held, helds_of, leaves_none}
use Rattle.ls_linearizable.specs.Judging.{later}
use Rattle.ls_linearity.specs.Followed.{is_lost}
use Rattle.ls_linearity.proofs.following.lost_at.Given as goal

abbrev pub invariant-loop-at : goal.invariant-loop-at
invariant-loop-at l = record {
  far : leaves_none l.rows (helds_of l.pairs.items)
      ≡ fold later (leaves_none l.rows (first_held ∷ [])) (take l.at l.history);
  left : is_lost l.rows (take l.at l.history) ≡ false;
}
