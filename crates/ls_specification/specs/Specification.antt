-- The file and the program of a specification.
use Rattle.std.specs.Prelude.{Option, Some, None}
use Rattle.ls_checked.specs.CheckedTree.{File}
use Rattle.ls_checked.specs.CheckedProgram.{Program}
use Rattle.ls_checked.specs.Plain.{plain_file}
use Rattle.ls_checked.specs.PlainProgram.{plain_program}
use Rattle.ls_specification.specs.declared.Specification.{Specification}

abbrev pub spec_file : Specification → File
spec_file s = plain_file s.file.now

abbrev pub spec_program : Specification → Program
spec_program s = plain_program s.program.now

-- ---- a specification that may be given; else a program's own calls specify it

abbrev pub Given : Type 0
Given = Option (File × Program)

abbrev pub given_of : Option Specification → Given
given_of None = None
given_of (Some s) = Some (spec_file s, spec_program s)

abbrev pub given_file : Given → File → File
given_file None file = file
given_file (Some s) file = s.0

abbrev pub given_program : Given → Program → Program
given_program None program = program
given_program (Some s) program = s.1
