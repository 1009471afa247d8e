-- What contracts see of a program that is being read.
use Rattle.std.specs.Prelude.{◌≡◌, ℕ, map, string_bytes, Option, Some, Result, Ok, Err, option_map}
use Rattle.ls_checked.specs.PlainProgram.{plain_call, plain_thread}
use Rattle.ls_types_checked.specs.declared.fault.ProgramFault.{ProgramFault}
use Rattle.ls_types_reading.specs.declared.reading.Stage.{Stage}
use Rattle.ls_types_reading.specs.declared.reading.Stage.TheVariants as stages
use Rattle.ls_types_reading.specs.declared.reading.Parts.{Parts}
use Rattle.ls_types_programs.specs.ThreadPrograms as programs
use Rattle.ls_types_checked.specs.ProgramRefusals.{Says}
use Rattle.ls_types_programs.specs.Stops.{Marks, unmarked, name_mark, callee_mark, minus_mark, marked, Why, Fault}
use Rattle.ls_types_programs.specs.Stops.{fault_for, fault_at_end}
use Rattle.ls_types_checked.specs.ProgramViews.{pending_of, fault_seen, IsFault}

abbrev pub stage_of : Stage → programs.Stage
stage_of stages.AtSetup = programs.AtSetup
stage_of stages.AtBlock = programs.AtBlock
stage_of stages.AtCall = programs.AtCall
stage_of (stages.AfterName name at) = programs.AfterName name.now
stage_of (stages.AfterAssign name) = programs.AfterAssign name.now
stage_of (stages.AfterNew name) = programs.AfterNew name.now
stage_of (stages.AfterDot n) = programs.AfterDot n
stage_of (stages.AtArguments p) = programs.AtArguments (pending_of p)
stage_of (stages.AtFirst p) = programs.AtFirst (pending_of p)
stage_of (stages.AtArgument p) = programs.AtArgument (pending_of p)
stage_of (stages.AfterMinus p minus) = programs.AfterMinus (pending_of p)
stage_of (stages.AfterArgument p) = programs.AfterArgument (pending_of p)
stage_of (stages.AtSemicolon p) = programs.AtSemicolon (pending_of p)
stage_of stages.AtThread = programs.AtThread
stage_of stages.AtThreadName = programs.AtThreadName

abbrev pub parts_of : Parts → programs.Parts
parts_of r = record {
  names = r.names;
  threads = map plain_thread r.threads.items;
  name = string_bytes r.name;
  calls = map plain_call r.calls.items;
}

abbrev pub reading_of : Parts → Stage → programs.Reading
reading_of r s = record { stage = stage_of s; parts = parts_of r }

-- the places that a stage keeps
abbrev pub marks_of : Stage → Marks
marks_of (stages.AfterName name at) = name_mark at
marks_of (stages.AtArguments p) = callee_mark p.at
marks_of (stages.AtFirst p) = callee_mark p.at
marks_of (stages.AtArgument p) = callee_mark p.at
marks_of (stages.AfterMinus p minus) = minus_mark p.at minus
marks_of (stages.AfterArgument p) = callee_mark p.at
marks_of (stages.AtSemicolon p) = callee_mark p.at
marks_of _ = unmarked

-- after a token at the place, the next stage keeps its marks; or else this is the fault
abbrev pub Goes : Marks → ℕ → Why → Result Stage ProgramFault → Type 0
Goes m at why (Ok s) = marks_of s ≡ marked m at (stage_of s)
Goes m at why (Err e) = IsFault e (fault_for m at why)

-- reading stops with this fault, or memory ran out
abbrev pub StopsWith : ProgramFault → Option Fault → Type 0
StopsWith e stop = Says e (option_map fault_seen stop ≡ Some e)

-- read to the end, which is the end of a program or a fault; or stopped by this fault
abbrev pub StopsAt : ℕ → Option Fault → Result Stage ProgramFault → Type 0
StopsAt end stop (Ok s) = stop ≡ fault_at_end end (programs.ended (stage_of s))
StopsAt end stop (Err e) = StopsWith e stop
