-- A program text of the law, with two threads.
use Rattle.std.specs.Prelude.{◌≡◌, Ok, codes}
use Rattle.ls_checked.specs.CheckedProgram.{Program}
use Rattle.ls_parser_spelling.specs.Files.{IsFileOf}
use Rattle.ls_types_elaboration.specs.Trees.{Text, File}
use Rattle.ls_types_elaboration.specs.Elaboration.{ElaboratedFile, elaborated}
use Rattle.ls_types_programs.specs.Programs.{IsTextOf}
use Rattle.ls_coarse_text.specs.Laws.{HasSmallItems, IsListText, MakesOneList}

abbrev pub example : Text
example = codes "setup { s = new CoarseList(); } thread A { s.add(3); } thread B { s.remove(3); s.contains(-4); }"

-- a program that the law takes
pub record IsTaken (o : ElaboratedFile) (program : Text) : Type 0 where
  pub p : Program
  pub reads : IsTextOf o p program
  pub list : MakesOneList p
  pub small : HasSmallItems p

-- the text is one of the class, and the law takes it
abbrev pub ExampleIsTaken : Type 0
ExampleIsTaken =
    (classes : Text) (f : File) (o : ElaboratedFile) →
    IsListText classes →
    IsFileOf classes f →
    elaborated f ≡ Ok o →
    IsTaken o example
