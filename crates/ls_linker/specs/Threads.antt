-- The code of a thread: its calls one after another, and after them TRAP, to which each throw leads.
use Rattle.std.specs.Prelude.{ℕ, ◌+◌, ◌-◌, List, [], ◌∷◌, ◌++◌, length, map, max}
use Rattle.ls_events.specs.declared.value.Value.{Value}
use Rattle.ls_checked.specs.CheckedTree.{Class}
use Rattle.ls_checked.specs.CheckedProgram.{ProgramCall, Making, Calling, ThreadProgram}
use Rattle.ls_meaning.specs.Expressions.{constructor_of}
use Rattle.ls_code.specs.Code.{Start}
use Rattle.ls_code.specs.declared.instruction.Instruction.{Instruction}
use Rattle.ls_code.specs.declared.instruction.Instruction.TheVariants as op
use Rattle.ls_code.specs.declared.code.HandlerRow.{HandlerRow}
use Rattle.ls_code.specs.declared.code.CallResult.{CallResult}
use Rattle.ls_code.specs.declared.code.CallResult.TheVariants as result
use Rattle.ls_preservation.specs.InWords.{word_of}
use Rattle.ls_preservation.specs.Threads.{call_result, result_type}

abbrev pub pushes : List Value → List Instruction
pushes values = map (λ v. op.Push (word_of v)) values

-- the value of a call without a value is dropped
abbrev pub result_code : CallResult → ℕ → List Instruction
result_code result.Nothing n = op.Pop ∷ op.Result n ∷ []
result_code result.Int n = op.Result n ∷ []
result_code result.Boolean n = op.Result n ∷ []

-- a thread's n-th call: call event, making or read of the setup name, entering, write of the setup name, return event
abbrev pub call_code : List Class → ℕ → ProgramCall → List Instruction
call_code classes n (Making name c text values) =
    op.Call n ∷ op.NewObject c ∷ op.Dup ∷ pushes values ++ op.Enter (constructor_of classes c) ∷ op.Pop ∷
    op.PutName name ∷ op.Result n ∷ []
call_code classes n (Calling name m text answers values) =
    op.Call n ∷ op.GetName name ∷ pushes values ++ op.Enter m ∷ result_code (result_type answers) n

abbrev pub calls_code : List Class → ℕ → List ProgramCall → List Instruction
calls_code classes n [] = op.Halt ∷ op.Trap ∷ []
calls_code classes n (c ∷ cs) = call_code classes n c ++ calls_code classes (n + 1) cs

-- the most operands that a call has at one time
abbrev pub call_need : ProgramCall → ℕ
call_need (Making name c text values) = 2 + length values
call_need (Calling name m text answers values) = 1 + length values

abbrev pub calls_need : List ProgramCall → ℕ
calls_need [] = 1
calls_need (c ∷ cs) = max (call_need c) (calls_need cs)

abbrev pub thread_code : List Class → ThreadProgram → List Instruction
thread_code classes t = calls_code classes 1 t.calls

abbrev pub thread_size : List Class → ThreadProgram → ℕ
thread_size classes t = length (thread_code classes t)

-- a throw at any place of a thread but its last place leads to the last place
abbrev pub thread_row : ℕ → ℕ → HandlerRow
thread_row place size = record { from = place; to = place + (size - 1); handler = place + (size - 1); depth = 0 }

abbrev pub start_of : ℕ → ThreadProgram → Start
start_of place t = record { place = place; need = calls_need t.calls; calls = map call_result t.calls }
