-- Why `member` in src/class_trees.rt keeps its clause `places`.

use Rattle.std.proofs.Common.{rules, map}
use Rattle.ls_tree.specs.Views.{bare_modifiers}
use Rattle.ls_parser.proofs.Places.{plain_member, locked_member}
use Rattle.ls_parser.proofs.class_trees.member.Goals as goal

pub returns-then-some_in-clause-places : goal.returns-then-some_in-clause-places
returns-then-some_in-clause-places c =
    locked_member c.locked_member.result _ c.in_ok-modifiers.ensures.places c.in_ok-locked.ensures.places
    c.locked_member.ensures.places

pub returns-clause-places : goal.returns-clause-places
returns-clause-places c =
    plain_member c.unmodified.result _ (map bare_modifiers c.in_ok-locked.locked.tree.items) (search rules)
    c.in_ok-modifiers.ensures.places c.in_ok-locked.ensures.places c.unmodified.ensures.places
