-- What the loop `member` of `constructor_parameters` in src/menus.rt keeps.

use Rattle.std.proofs.Common.{◌≡◌, drop, map}
use Rattle.ls_tree.specs.Views.{bare_member}
use Rattle.ls_class_programs.specs.Menus.{constructor_parameters}
use Rattle.ls_class_programs.proofs.menus.constructor_parameters.Given as goal

abbrev pub invariant-loop-member : goal.invariant-loop-member
invariant-loop-member l =
    constructor_parameters (map bare_member (drop l.member-index l.members)) ≡
    constructor_parameters (map bare_member l.members)
