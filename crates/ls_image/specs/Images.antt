-- What an image shows, and what it owes the class text and the program text.
use Rattle.std.specs.Prelude.{◌≡◌, Ok}
use Rattle.ls_parser_spelling.specs.Files.{IsFileOf}
use Rattle.ls_checked.specs.CheckedProgram.{Program as PlainProgram}
use Rattle.ls_checked.specs.PlainProgram.{plain_program}
use Rattle.ls_checked.specs.declared.program.Program.{Program}
use Rattle.ls_code.specs.Code.{Code}
use Rattle.ls_types_elaboration.specs.Trees.{Text, File}
use Rattle.ls_types_elaboration.specs.Elaboration.{elaborated}
use Rattle.ls_types_checked.specs.CheckedFile.{elaborated_file}
use Rattle.ls_types_programs.specs.Programs.{IsTextOf}
use Rattle.ls_types_checked.specs.Sources as sources
use Rattle.ls_types_checked.specs.declared.checked.Checked.{Checked}
use Rattle.ls_types_checked.specs.declared.source.Source.{Source}
use Rattle.ls_linker.specs.Runs.{Runs}
use Rattle.ls_image.specs.declared.image.Image.{Image}

abbrev pub source_of : Image → Source
source_of i = i.source

abbrev pub checked_of : Image → Checked
checked_of i = sources.checked_of (source_of i)

abbrev pub program_of_image : Image → Program
program_of_image i = sources.program_of (source_of i)

abbrev pub code_of_image : Image → Code
code_of_image i = i.code

-- An image's code runs as its file and its program do. It has the same histories, both ways, and no thread of it is
-- silent for too long.
abbrev pub RunsAsItsTexts : Image → Type 0
RunsAsItsTexts image = Runs (elaborated_file (checked_of image)).file (plain_program (program_of_image image))
    (code_of_image image)

-- The class text is a file that keeps every rule. The program text is a program of that file. The code runs as that
-- file and that program do.
pub record Compiles (classes program : Text) (image : Image) : Type 0 where
  pub file : File
  pub spelled : IsFileOf classes file
  pub elaborates : elaborated file ≡ Ok (elaborated_file (checked_of image))
  pub reads : IsTextOf (elaborated_file (checked_of image)) (plain_program (program_of_image image)) program
  pub runs : RunsAsItsTexts image
