-- What the class text of the list with one lock is compiled to is a set.
use Rattle.std.specs.Prelude.{ℕ, List}
use Rattle.ls_checked.specs.CheckedProgram.{Program}
use Rattle.ls_checked.specs.PlainProgram.{plain_program}
use Rattle.ls_meaning.specs.Runs.{source_history}
use Rattle.ls_code.specs.Machine.{machine_history}
use Rattle.ls_preservation.specs.Same.{IsCells}
use Rattle.ls_types_elaboration.specs.Trees.{Text}
use Rattle.ls_types_checked.specs.CheckedFile.{elaborated_file}
use Rattle.ls_image.specs.declared.image.Image.{Image}
use Rattle.ls_image.specs.Images.{Compiles, checked_of, code_of_image, program_of_image}
use Rattle.ls_explore_reports.specs.Verdicts.{HasLegalOrder}
use Rattle.ls_coarse_text.specs.Laws.{HasSmallItems, IsListText, MakesOneList}

-- the thread program of an image
abbrev pub program_in : Image → Program
program_in image = plain_program (program_of_image image)

-- Each history has a legal order: that of each schedule of source steps, and for each number of cells that of each
-- schedule of instructions. A schedule may have any length.
pub record IsOfASet (image : Image) : Type 0 where
  pub source : (schedule : List ℕ) →
      HasLegalOrder (program_in image)
      (source_history (elaborated_file (checked_of image)).file (program_in image) schedule)
  pub machine : (cells : ℕ) →
      IsCells (code_of_image image) cells →
      (schedule : List ℕ) →
      HasLegalOrder (program_in image) (machine_history (code_of_image image) cells schedule)

-- `compile` answers this image for the class text of the list with one lock and a program text. The setup makes one
-- list, and each int that a call passes is below the greatest one. Then each history has a legal order.
abbrev pub CoarseListIsASet : Type 0
CoarseListIsASet =
    (classes program : Text) (image : Image) →
    IsListText classes →
    Compiles classes program image →
    MakesOneList (program_in image) →
    HasSmallItems (program_in image) →
    IsOfASet image
