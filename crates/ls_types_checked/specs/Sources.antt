-- What a source shows.
use Rattle.ls_checked.specs.CheckedTree.{File}
use Rattle.ls_checked.specs.CheckedProgram.{Program as PlainProgram}
use Rattle.ls_checked.specs.PlainProgram.{plain_program}
use Rattle.ls_checked.specs.declared.program.Program.{Program}
use Rattle.ls_types_checked.specs.CheckedFile.{elaborated_file}
use Rattle.ls_types_checked.specs.declared.checked.Checked.{Checked}
use Rattle.ls_types_checked.specs.declared.source.Source.{Source}

abbrev pub checked_of : Source → Checked
checked_of s = s.checked

abbrev pub program_of : Source → Program
program_of s = s.program

-- as plain data
abbrev pub source_file : Source → File
source_file s = (elaborated_file (checked_of s)).file

abbrev pub source_program : Source → PlainProgram
source_program s = plain_program (program_of s)
