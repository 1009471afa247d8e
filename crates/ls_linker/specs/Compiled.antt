-- What each step of the compiler makes of a checked file.
use Rattle.std.specs.Prelude.{ℕ, ◌+◌}
use Rattle.ls_checked.specs.CheckedTree.{File}
use Rattle.ls_checked.specs.CheckedProgram.{Program}
use Rattle.ls_code.specs.Code.{Code}
use Rattle.ls_lowered.specs.LoweredTree as lowered
use Rattle.ls_refs.specs.Lowered.{lowered_file}
use Rattle.ls_finally.specs.Flat.{flat_file}
use Rattle.ls_emit.specs.Units.{units_of}
use Rattle.ls_linker.specs.Linked.{linked}
use Rattle.ls_linker.specs.Counts.{file_count, program_count}

-- the tree without `try`
abbrev pub flat_of : File → lowered.File
flat_of file = flat_file (lowered_file file)

-- the whole code
abbrev pub code_of : File → Program → Code
code_of file program = linked file program (units_of (flat_of file))

-- the nodes and declared names of all methods without `try`, and the threads, calls and arguments of the program
abbrev pub count : File → Program → ℕ
count file program = file_count (flat_of file) + program_count program
