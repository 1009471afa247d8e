-- What the loop `member` of `place_in` in src/placing.rt keeps: the place is to be found among the members that are
-- left.

use Rattle.std.proofs.Common.{◌≡◌, drop, map}
use Rattle.ls_tree.specs.PlacedStatements.{placed_class, placed_member}
use Rattle.ls_class_programs.specs.Placing.{place_among, place_in}
use Rattle.ls_class_programs.proofs.placing.place_in.Given as goal

abbrev pub invariant-loop-member : goal.invariant-loop-member
invariant-loop-member l =
    place_in l.call (placed_class l.class) ≡
    place_among l.call l.class.name.span (map placed_member (drop l.member-index l.member-items))
