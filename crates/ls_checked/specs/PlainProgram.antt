-- The plain data that a thread program of the code stands for.
use Rattle.std.specs.Prelude.{map, string_bytes}
use Rattle.ls_checked.specs.CheckedProgram as checked
use Rattle.ls_checked.specs.declared.program.SetupName.{SetupName}
use Rattle.ls_checked.specs.declared.program.ProgramCall.{ProgramCall}
use Rattle.ls_checked.specs.declared.program.ProgramCall.TheVariants as calls
use Rattle.ls_checked.specs.declared.program.ThreadProgram.{ThreadProgram}
use Rattle.ls_checked.specs.declared.program.Program.{Program}

abbrev pub plain_name : SetupName → checked.SetupName
plain_name n = record { name = string_bytes n.name; class = n.class }

abbrev pub plain_call : ProgramCall → checked.ProgramCall
plain_call (calls.Making name class class_name values) = checked.Making name class (string_bytes class_name)
    values.items
plain_call (calls.Calling name method method_name result values) =
    checked.Calling name method (string_bytes method_name) result values.items

abbrev pub plain_thread : ThreadProgram → checked.ThreadProgram
plain_thread t = record { name = string_bytes t.name; calls = map plain_call t.calls.items }

abbrev pub plain_program : Program → checked.Program
plain_program p = record { names = map plain_name p.names.items; threads = map plain_thread p.threads.items }
