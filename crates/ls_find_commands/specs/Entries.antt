-- Entries of a menu: the program that makes an object and then makes the calls of one.
use Rattle.std.specs.Prelude.{List, [], Option, Some, None, Err, slice_get}
use Rattle.ls_checked.specs.CheckedProgram.{Program, ProgramCall, ThreadProgram}
use Rattle.ls_compiler.specs.Answers.{CompilesTo}
use Rattle.ls_compiler.specs.declared.fault.CompileFault.{CompileFault}
use Rattle.ls_families.specs.Texts.{alone_text}
use Rattle.ls_image.specs.Images.{Compiles}
use Rattle.ls_image.specs.declared.image.Image.{Image}
use Rattle.ls_report.specs.Events.{Text}

-- it compiles to this
abbrev pub IsEntry : Text → Text → Text → Image → Type 0
IsEntry classes making calls image = Compiles classes (alone_text making 0 calls) image

-- it doesn't compile
abbrev pub CompilesNot : Text → Text → Text → Type 0
CompilesNot classes making calls = (f : CompileFault) × CompilesTo classes (alone_text making 0 calls) (Err f)

abbrev pub calls_in : Option ThreadProgram → List ProgramCall
calls_in None = []
calls_in (Some t) = t.calls

-- the calls of its setup
abbrev pub setup_calls : Program → List ProgramCall
setup_calls p = calls_in (slice_get p.threads 0)
