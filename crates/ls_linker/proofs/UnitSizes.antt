-- A thread's code ends with HALT and TRAP, and its row leads to the TRAP.
use Rattle.std.proofs.Common.{◌≡◌, ℕ, ◌+◌, ◌-◌, ◌≤◌, List, [], ◌∷◌, length, ap, ◌∙◌, arith}
use Rattle.std.proofs.lemmas.List.{length-append}
use Rattle.ls_checked.specs.CheckedTree.{Class}
use Rattle.ls_checked.specs.CheckedProgram.{ProgramCall}
use Rattle.ls_code.specs.declared.instruction.Instruction.{Instruction}
use Rattle.ls_code.specs.declared.code.HandlerRow.{HandlerRow}
use Rattle.ls_linker.specs.Threads.{call_code, calls_code}
use Rattle.ls_linker.specs.Added.{Adds, PushesThread}

pub calls_some : (classes : List Class) (n : ℕ) (calls : List ProgramCall) → 2 ≤ length (calls_code classes n calls)
calls_some classes n [] = omega arith
calls_some classes n (c ∷ cs) = omega (
  arith,
  calls_some classes (n + 1) cs,
  length-append (call_code classes n c) (calls_code classes (n + 1) cs),
)

abbrev row : ℕ → ℕ → HandlerRow
row from to = record { from = from; to = to; handler = to; depth = 0 }

last_place : (classes : List Class) (calls : List ProgramCall) (old new : List Instruction) (last : ℕ) →
    Adds old (calls_code classes 1 calls) new →
    last + 1 ≡ length new →
    last ≡ length old + (length (calls_code classes 1 calls) - 1)
last_place classes calls old new last a e =
    let e1 = ap length a.is ∙ length-append old (calls_code classes 1 calls) in
    let s = calls_some classes 1 calls in
    omega (arith, e, e1, s)

-- the code of a thread is put after other code
pub thread_pushed : (classes : List Class) (calls : List ProgramCall) (old new : List Instruction) (from last : ℕ) →
    Adds old (calls_code classes 1 calls) new → from ≡ length old → last + 1 ≡ length new →
    PushesThread classes old calls new (record { from = from; to = last; handler = last; depth = 0 })
thread_pushed classes calls old new from last a f e = record {
  is = a.is;
  row_is = ap (λ x. row x last) f ∙ ap (row (length old)) (last_place classes calls old new last a e);
}

-- the code of a thread has at least two instructions
pub code_some : (classes : List Class) (calls : List ProgramCall) (old new : List Instruction) →
    Adds old (calls_code classes 1 calls) new →
    2 ≤ length new
code_some classes calls old new a =
    let all = ap length a.is ∙ length-append old (calls_code classes 1 calls) in
    let some = calls_some classes 1 calls in
    omega (arith, all, some)
