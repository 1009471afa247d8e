-- What the loop `member` of `put_members` in src/classes.rt keeps.

use Rattle.std.proofs.Common.{◌≡◌, ◌++◌, drop, map}
use Rattle.std.specs.List.{flat_map}
use Rattle.ls_parser_spelling.specs.Kinds.{lexemes_of}
use Rattle.ls_parser_spelling.specs.Spelling.{spell_member}
use Rattle.ls_tree.specs.Views.{bare_member}
use Rattle.ls_parser_spelling.proofs.classes.put_members.Given as goal

abbrev pub invariant-loop-member : goal.invariant-loop-member
invariant-loop-member l =
    lexemes_of l.out.items ++ flat_map spell_member (map bare_member (drop l.member-index l.members)) ≡
    lexemes_of l.initial.out.items ++ flat_map spell_member (map bare_member l.members)
