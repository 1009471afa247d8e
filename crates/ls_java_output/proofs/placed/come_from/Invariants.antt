-- What the loop `places` of `come_from` in src/placed.rt keeps, and why it ends.

use Rattle.std.proofs.Common.{◌≡◌, ◌≤◌, drop, length}
use Rattle.ls_java_output.specs.Words.{ComeFrom, next_own}
use Rattle.ls_java_output.proofs.placed.come_from.Given as goal

abbrev pub invariant-places : goal.invariant-places
invariant-places l = record {
  come : ComeFrom l.java l.tokens l.text (drop l.at l.places);
  next : l.next ≡ next_own l.java (drop l.at l.places);
  within : l.at ≤ length l.places;
}

abbrev pub decreases-places : goal.decreases-places
decreases-places l = l.at
