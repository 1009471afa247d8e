-- What the loop `member` of `calls_of` in src/menus.rt keeps.

use Rattle.std.proofs.Common.{◌≡◌, ◌++◌, drop, map, string_bytes}
use Rattle.std.specs.List.{flat_map}
use Rattle.ls_tree.specs.Views.{bare_class, bare_member}
use Rattle.ls_class_programs.specs.Menus.{class_calls, member_calls}
use Rattle.ls_class_programs.proofs.menus.calls_of.Given as goal

abbrev pub invariant-loop-member : goal.invariant-loop-member
invariant-loop-member l =
    map string_bytes l.calls.items ++ flat_map (member_calls l.most)
    (map bare_member (drop l.member-index l.class.members.items)) ≡ class_calls l.most (bare_class l.class)
