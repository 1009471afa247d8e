-- Class texts that specify a program.
use Rattle.std.specs.Prelude.{◌≡◌, List, Option, None, map, Err}
use Rattle.std.specs.List.{flat_map}
use Rattle.ls_checked.specs.CheckedProgram.{Calling, Making, Program, ProgramCall, ThreadProgram}
use Rattle.ls_compiler.specs.Answers.{CompilesTo, IsWithinLimits}
use Rattle.ls_events.specs.declared.value.ValueType.{ValueType}
use Rattle.ls_image.specs.Images.{Compiles, program_of_image}
use Rattle.ls_image.specs.declared.image.Image.{Image}
use Rattle.ls_checked.specs.PlainProgram.{plain_program}
use Rattle.ls_types_elaboration.specs.Trees.{Text}
use Rattle.ls_specified.specs.declared.fault.SpecificationFault.{SpecificationFault}
use Rattle.ls_specified.specs.declared.fault.SpecificationFault.TheVariants as faults

-- the type that a call answers, if it answers a value
abbrev pub result_of : ProgramCall → Option ValueType
result_of (Making name class class_name values) = None
result_of (Calling name method method_name result values) = result

abbrev pub call_results : List ProgramCall → List (Option ValueType)
call_results calls = map result_of calls

-- those of the calls of threads, one after another
abbrev pub results_of : List ThreadProgram → List (Option ValueType)
results_of threads = flat_map (λ t. call_results t.calls) threads

abbrev pub results_in : Image → List (Option ValueType)
results_in s = results_of (plain_program (program_of_image s)).threads

-- With the program's text the class text is compiled to this image, and each call answers the type that it answers in
-- the program.
pub record Specifies (like text : Text) (program : Program) (s : Image) : Type 0 where
  pub compiles : Compiles like text s
  pub within : IsWithinLimits s
  pub results : results_in s ≡ results_of program.threads

-- it isn't compiled, for this fault; or it is, and a call answers another type
abbrev pub IsNoSpecification : Text → Text → Program → SpecificationFault → Type 0
IsNoSpecification like text program faults.Memory = Unit {0}
IsNoSpecification like text program (faults.NotCompiled f) = CompilesTo like text (Err f)
IsNoSpecification like text program faults.OtherResult =
    (s : Image) × Compiles like text s × (results_in s ≡ results_of program.threads → ⊥)
