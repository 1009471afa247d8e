-- What the loop `member` of `class_flags` in src/flags.rt keeps.
use Rattle.std.proofs.Common.{◌≡◌, ◌++◌, drop, map}
use Rattle.std.specs.List.{flat_map}
use Rattle.ls_tree.specs.Views.{bare_class, bare_member}
use Rattle.ls_races.specs.Flags.{class_flags, member_flags}
use Rattle.ls_races.proofs.flags.class_flags.Given as goal

abbrev pub invariant-loop-member : goal.invariant-loop-member
invariant-loop-member l =
    l.flags.items ++ flat_map member_flags (map bare_member (drop l.member-index l.class.members.items)) ≡
    class_flags (bare_class l.class)
