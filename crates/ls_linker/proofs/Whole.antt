-- The whole code by the counts.
use Rattle.ls_code.specs.Limits.{most_instructions}
use Rattle.std.proofs.Common.{◌≡◌, ℕ, ◌+◌, ◌*◌, zero, suc, ◌<◌, ◌≤◌, List, [], ◌∷◌, length, map, arith, length-append}
use Rattle.std.specs.Prelude.{slice_index_or}
use Rattle.std.proofs.lemmas.List.{length-map}
use Rattle.ls_checked.specs.CheckedTree as checked
use Rattle.ls_checked.specs.CheckedProgram.{ProgramCall, Making, Calling, ThreadProgram, Program}
use Rattle.ls_events.specs.declared.value.Value.{Value}
use Rattle.ls_code.specs.declared.code.CallResult.{CallResult}
use Rattle.ls_code.specs.declared.code.CallResult.TheVariants as result
use Rattle.ls_code.specs.declared.instruction.Instruction.TheVariants as op
use Rattle.ls_preservation.specs.InWords.{word_of}
use Rattle.ls_preservation.specs.Threads.{result_type}
use Rattle.ls_meaning.specs.Expressions.{constructor_of}
use Rattle.ls_lowered.specs.LoweredTree.{Method, File}
use Rattle.ls_emit.specs.Statements.{statement_code}
use Rattle.ls_emit.specs.Units.{method_size, file_size, method_code, units_of, moved}
use Rattle.ls_emit.proofs.StatementPlaces.{statement_size_is}
use Rattle.ls_linker.specs.Linked.{units_code, threads_code, linked}
use Rattle.ls_linker.specs.Threads.{pushes, result_code, call_code, calls_code}
use Rattle.ls_linker.specs.Counts.{file_count, call_count, calls_count, threads_count, program_count}
use Rattle.ls_linker.specs.Floor.{CodeHoldsMethods, KeepsFloor}
use Rattle.ls_linker.proofs.Sizes.{method_sized}

code_size : (m : Method) → length (method_code 0 m) ≡ method_size m
code_size m = omega (
  arith,
  length-append (statement_code [] 0 m.body) (op.Push 0 ∷ op.LeaveWith ∷ []),
  statement_size_is m.body [] 0,
)

units_short : (p : ℕ) (flat : File) → length (units_code p (units_of flat)) ≤ 16 * file_count flat
units_short p [] = omega arith
units_short p (m ∷ ms) =
    let a = length-append (map (moved p) (method_code 0 m)) (units_code (p + length (method_code 0 m)) (units_of ms)) in
    let b = length-map (method_code 0 m) (moved p) in
    omega (arith, a, b, code_size m, method_sized m, units_short (p + length (method_code 0 m)) ms)

units_hold : (p : ℕ) (flat : File) → file_size flat ≤ length (units_code p (units_of flat))
units_hold p [] = omega arith
units_hold p (m ∷ ms) =
    let a = length-append (map (moved p) (method_code 0 m)) (units_code (p + length (method_code 0 m)) (units_of ms)) in
    let b = length-map (method_code 0 m) (moved p) in
    omega (arith, a, b, code_size m, units_hold (p + length (method_code 0 m)) ms)

-- the law: the whole code has the instructions of each method
pub code_holds : CodeHoldsMethods
code_holds file program flat = omega (
  arith,
  length-append (units_code 0 (units_of flat))
      (threads_code file.classes program.threads),
  units_hold 0 flat,
)

pushes_are : (values : List Value) → length (pushes values) ≡ length values
pushes_are values = length-map values (λ v. op.Push (word_of v))

result_few : (r : CallResult) (n : ℕ) → length (result_code r n) ≤ 2
result_few result.Nothing n = omega arith
result_few result.Int n = omega arith
result_few result.Boolean n = omega arith

call_short : (classes : List checked.Class) (n : ℕ) (c : ProgramCall) →
    length (call_code classes n c) ≤ 16 * call_count c
call_short classes n (Making name class text values) =
    let a = length-append (pushes values) (op.Enter (constructor_of classes class) ∷ op.Pop ∷ op.PutName name ∷
    op.Result n ∷ []) in
    omega (arith, a, pushes_are values)
call_short classes n (Calling name m text answers values) =
    let a = length-append (pushes values) (op.Enter m ∷ result_code (result_type answers) n) in
    omega (arith, a, pushes_are values, result_few (result_type answers) n)

calls_short : (classes : List checked.Class) (n : ℕ) (cs : List ProgramCall) →
    length (calls_code classes n cs) ≤ 2 + 16 * calls_count cs
calls_short classes n [] = omega arith
calls_short classes n (c ∷ cs) =
    let a = length-append (call_code classes n c) (calls_code classes (n + 1) cs) in
    omega (arith, a, call_short classes n c, calls_short classes (n + 1) cs)

threads_short : (classes : List checked.Class) (ts : List ThreadProgram) →
    length (threads_code classes ts) ≤ 16 * threads_count ts
threads_short classes [] = omega arith
threads_short classes (t ∷ ts) =
    let a = length-append (calls_code classes 1 t.calls) (threads_code classes ts) in
    omega (arith, a, calls_short classes 1 t.calls, threads_short classes ts)

-- the whole code has at most 16 instructions for each thing that is counted
pub code_short : (file : checked.File) (program : Program) (flat : File) →
    length (linked file program (units_of flat)).instructions ≤ 16 * (file_count flat + program_count program)
code_short file program flat =
    let a = length-append (units_code 0 (units_of flat)) (threads_code file.classes program.threads) in
    omega (arith, a, units_short 0 flat, threads_short file.classes program.threads)

each_short : (flat : File) →
    file_count flat ≤ 4096 →
    (k : ℕ) (d : Method) →
    k < length flat →
    method_size (slice_index_or flat k d) ≤ most_instructions
each_short [] le k d l = absurd (let no : ⊥ = omega (arith, l) in no)
each_short (m ∷ ms) le zero d l = omega (arith, le, method_sized m)
each_short (m ∷ ms) le (suc k) d l = each_short ms (omega (arith, le)) k d (omega (arith, l))

-- the law: if at most 4,096 things are counted, no code is too long
pub keeps_floor : KeepsFloor
keeps_floor file program flat le = (
  each_short flat (omega (arith, le)),
  omega (arith, le, code_short file program flat),
)
