-- Trees that one text spells differ in their places alone.
use Rattle.std.proofs.Common.{sym, ap, ◌∙◌}
use Rattle.ls_parser.specs.Laws.{OneFile}
use Rattle.ls_parser_spelling.specs.Outlines.{file_tree}
use Rattle.ls_types_places.specs.Laws.{OneAnswer}
use Rattle.ls_types_places.proofs.Files.{no_places}

-- the law: if a text has one tree, its files have one answer
pub one_answer : OneFile → OneAnswer
one_answer one text f g s t = no_places f g (s.forgotten ∙ ap file_tree (one s.tree t.tree text s.spelled t.spelled) ∙
    sym t.forgotten)
