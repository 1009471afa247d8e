-- No instruction of a unit or of a thread is a exchanges operation on a lock.
use Rattle.std.proofs.Common.{ℕ, ◌+◌, List, [], ◌∷◌, ◌++◌, map, length, All}
use Rattle.std.proofs.lemmas.List.Elements.{All-from_recursion}
use Rattle.std.specs.List.{AllByRecursion}
use Rattle.ls_events.specs.declared.value.Value.{Value}
use Rattle.ls_checked.specs.CheckedTree.{Class}
use Rattle.ls_checked.specs.CheckedTree as checked
use Rattle.ls_checked.specs.CheckedProgram.{Program, ThreadProgram, ProgramCall, Making, Calling}
use Rattle.ls_code.specs.declared.instruction.Instruction.{Instruction}
use Rattle.ls_code.specs.declared.instruction.Instruction.TheVariants as op
use Rattle.ls_code.specs.declared.code.CallResult.{CallResult}
use Rattle.ls_code.specs.declared.code.CallResult.TheVariants as result
use Rattle.ls_lowered.specs.declared.tree.UnaryOperator.{UnaryOperator}
use Rattle.ls_lowered.specs.declared.tree.UnaryOperator.TheVariants.{Negate, Not, ReferenceOf, MarkOf}
use Rattle.ls_lowered.specs.declared.tree.BinaryOperator.{BinaryOperator}
use Rattle.ls_lowered.specs.declared.tree.BinaryOperator.TheVariants as binary
use Rattle.ls_lowered.specs.declared.tree.LockOperation.{LockOperation}
use Rattle.ls_lowered.specs.declared.tree.LockOperation.TheVariants.{Lock, Unlock, TryLock, IsHeld, LockMonitor}
use Rattle.ls_lowered.specs.declared.tree.LockOperation.TheVariants.{UnlockMonitor}
use Rattle.ls_lowered.specs.LoweredTree.{Expression, Word, Local, Unary, Binary, And, Or, Hold, Keep, After, Field}
use Rattle.ls_lowered.specs.LoweredTree.{Item, SetFirst, ReadPair, SetPair, SwapPair, AttemptMark, OnLock, Call}
use Rattle.ls_lowered.specs.LoweredTree.{MakeObject, MakeLock, MakeMarkable, MakeArray, Expressions, End, More}
use Rattle.ls_lowered.specs.LoweredTree.{Statement, Block, SetLocal, SetField, AddField, SetItem, Evaluate, If, While}
use Rattle.ls_lowered.specs.LoweredTree.{Return, Try, Guarded, Throw, Leavable, Leave, Statements, Done, Then, Method}
use Rattle.ls_lowered.specs.LoweredTree.{File}
use Rattle.ls_emit.specs.LockCode.{lock_code}
use Rattle.ls_emit.specs.Expressions.{unary_code, binary_code, size, code, all_code}
use Rattle.ls_emit.specs.Statements.{Targets, places, statement_size, exits_size, statement_code, statements_code}
use Rattle.ls_emit.specs.Statements.{exits_code}
use Rattle.ls_emit.specs.Units.{moved, method_code, units_of}
use Rattle.ls_preservation.specs.ByWords.{IsExchanged}
use Rattle.ls_preservation.specs.Threads.{result_type}
use Rattle.ls_linker.specs.Threads.{pushes, result_code, call_code, calls_code, thread_code}
use Rattle.ls_linker.specs.Linked.{units_code, threads_code, linked}

-- each instruction takes locks by exchange alone
abbrev pub Exchanges : List Instruction → Type 0
Exchanges [] = Unit {0}
Exchanges (i ∷ is) = IsExchanged i × Exchanges is

-- the same of code in two parts
pub both : (a b : List Instruction) → Exchanges a → Exchanges b → Exchanges (a ++ b)
both [] b x y = y
both (i ∷ a) b x y = (x.0, both a b x.1 y)

unary_exchanges : (o : UnaryOperator) → Exchanges (unary_code o ∷ [])
unary_exchanges Negate = (tt, tt)
unary_exchanges Not = (tt, tt)
unary_exchanges ReferenceOf = (tt, tt)
unary_exchanges MarkOf = (tt, tt)

binary_exchanges : (o : BinaryOperator) → Exchanges (binary_code o ∷ [])
binary_exchanges binary.Add = (tt, tt)
binary_exchanges binary.Subtract = (tt, tt)
binary_exchanges binary.Multiply = (tt, tt)
binary_exchanges binary.Divide = (tt, tt)
binary_exchanges binary.Remainder = (tt, tt)
binary_exchanges binary.Less = (tt, tt)
binary_exchanges binary.LessEqual = (tt, tt)
binary_exchanges binary.Greater = (tt, tt)
binary_exchanges binary.GreaterEqual = (tt, tt)
binary_exchanges binary.Equal = (tt, tt)
binary_exchanges binary.NotEqual = (tt, tt)
binary_exchanges binary.Pack = (tt, tt)

lock_exchanges : (o : LockOperation) (p : ℕ) → Exchanges (lock_code p o)
lock_exchanges Lock p = (tt, (tt, (tt, (tt, (tt, tt)))))
lock_exchanges Unlock p = (tt, (tt, (tt, tt)))
lock_exchanges TryLock p = (tt, (tt, (tt, (tt, tt))))
lock_exchanges IsHeld p = (tt, tt)
lock_exchanges LockMonitor p = (tt, (tt, (tt, (tt, (tt, tt)))))
lock_exchanges UnlockMonitor p = (tt, (tt, (tt, tt)))

mutual
  exchanges : (e : Expression) (p : ℕ) → Exchanges (code p e)
  exchanges (Word w) p = (tt, tt)
  exchanges (Local n) p = (tt, tt)
  exchanges (Unary o e) p = both (code p e) _ (exchanges e p) (unary_exchanges o)
  exchanges (Binary o a b) p = both _ _ (both _ _ (exchanges a p) (exchanges b (p + size a))) (binary_exchanges o)
  exchanges (And a b) p = both _ _ (both _ (op.JumpIfFalse (p + size a + size b + 2) ∷ code (p + size a + 1) b)
      (exchanges a p) (tt, exchanges b (p + size a + 1))) (tt, (tt, tt))
  exchanges (Or a b) p = both (code p a) _ (exchanges a p) (tt, (tt, (tt, exchanges b (p + size a + 3))))
  exchanges (Hold a n b) p = both _ _ (both _ _ (exchanges a p) (exchanges b (p + size a))) (tt, tt)
  exchanges (Keep n a b) p = both (code p a) _ (exchanges a p) (tt, exchanges b (p + size a + 1))
  exchanges (After a b) p = both (code p a) _ (exchanges a p) (tt, exchanges b (p + size a + 1))
  exchanges (Field e f) p = both (code p e) _ (exchanges e p) (tt, tt)
  exchanges (Item a i) p = both _ _ (both _ _ (exchanges a p) (exchanges i (p + size a))) (tt, tt)
  exchanges (SetFirst a e) p = both _ _ (both _ (op.Push 0 ∷ code (p + size a + 1) e) (exchanges a p)
      (tt, exchanges e (p + size a + 1))) (tt, (tt, tt))
  exchanges (ReadPair e) p = both (code p e) _ (exchanges e p) (tt, tt)
  exchanges (SetPair e a) p = both _ _ (both _ _ (exchanges e p) (exchanges a (p + size e))) (tt, (tt, tt))
  exchanges (SwapPair e a b) p = both _ _ (both _ _ (both _ _ (exchanges e p) (exchanges a (p + size e)))
      (exchanges b (p + size e + size a))) (tt, tt)
  exchanges (AttemptMark e a b) p = both _ _ (both _ _ (both _ _ (exchanges e p) (exchanges a (p + size e)))
      (exchanges b (p + size e + size a))) (tt, tt)
  exchanges (OnLock o e) p = both (code p e) _ (exchanges e p) (lock_exchanges o (p + size e))
  exchanges (Call m e es) p = both _ _ (both _ _ (exchanges e p) (all_exchange es (p + size e))) (tt, tt)
  exchanges (MakeObject c m es) p = (tt, (tt, both (all_code (p + 2) es) _ (all_exchange es (p + 2)) (tt, (tt, tt))))
  exchanges MakeLock p = (tt, tt)
  exchanges (MakeMarkable e) p = both (code p e) _ (exchanges e p) (tt, tt)
  exchanges (MakeArray e) p = both (code p e) _ (exchanges e p) (tt, tt)

  all_exchange : (es : Expressions) (p : ℕ) → Exchanges (all_code p es)
  all_exchange End p = tt
  all_exchange (More e es) p = both (code p e) _ (exchanges e p) (all_exchange es (p + size e))

mutual
  statement_exchanges : (s : Statement) (t : Targets) (p : ℕ) → Exchanges (statement_code t p s)
  statement_exchanges (Block ss) t p = statements_exchange ss t p
  statement_exchanges (SetLocal n e) t p = both (code p e) _ (exchanges e p) (tt, tt)
  statement_exchanges (SetField e f a) t p = both _ _ (both _ _ (exchanges e p) (exchanges a (p + size e))) (tt, tt)
  statement_exchanges (AddField e f a) t p = both _ _ (both _ (op.Dup ∷ op.GetField (f + 1) ∷ code (p + size e + 2) a)
      (exchanges e p) (tt, (tt, exchanges a (p + size e + 2)))) (tt, (tt, tt))
  statement_exchanges (SetItem a i e) t p = both _ _ (both _ _ (both _ _ (exchanges a p) (exchanges i (p + size a)))
      (exchanges e (p + size a + size i))) (tt, tt)
  statement_exchanges (Evaluate e) t p = both (code p e) _ (exchanges e p) (tt, tt)
  statement_exchanges (If e a b) t p =
      both _ _ (both _ (op.JumpIfFalse (p + size e + statement_size a + 2) ∷ statement_code t (p + size e + 1) a)
      (exchanges e p) (tt, statement_exchanges a t (p + size e + 1)))
      (tt, statement_exchanges b t (p + size e + statement_size a + 2))
  statement_exchanges (While e s) t p =
      both _ _ (both _ (op.JumpIfFalse (p + size e + statement_size s + 2) ∷ statement_code t (p + size e + 1) s)
      (exchanges e p) (tt, statement_exchanges s t (p + size e + 1))) (tt, tt)
  statement_exchanges (Return e) t p = both (code p e) _ (exchanges e p) (tt, tt)
  statement_exchanges (Try b f) t p = tt
  statement_exchanges (Guarded b n h) t p = both (statement_code t p b) _ (statement_exchanges b t p)
      (tt, (tt, statement_exchanges h t (p + statement_size b + 2)))
  statement_exchanges (Throw n) t p = (tt, (tt, tt))
  statement_exchanges (Leavable b xs) t p =
      let q = p + statement_size b in
      both (statement_code (places q xs ++ t) p b) _ (statement_exchanges b (places q xs ++ t) p)
      (exits_exchange xs t (q + exits_size xs) q)
  statement_exchanges (Leave n) t p = (tt, tt)

  statements_exchange : (ss : Statements) (t : Targets) (p : ℕ) → Exchanges (statements_code t p ss)
  statements_exchange Done t p = tt
  statements_exchange (Then s ss) t p = both (statement_code t p s) _ (statement_exchanges s t p)
      (statements_exchange ss t (p + statement_size s))

  exits_exchange : (xs : Statements) (t : Targets) (end p : ℕ) → Exchanges (exits_code t end p xs)
  exits_exchange Done t end p = tt
  exits_exchange (Then x xs) t end p = both (op.Jump end ∷ statement_code t (p + 1) x) _
      (tt, statement_exchanges x t (p + 1)) (exits_exchange xs t end (p + 1 + statement_size x))

moved_exchanges : (p : ℕ) (i : Instruction) → IsExchanged i → IsExchanged (moved p i)
moved_exchanges p (op.Jump x) h = tt
moved_exchanges p (op.JumpIfFalse x) h = tt
moved_exchanges p (op.JumpIfTrue x) h = tt
moved_exchanges p (op.Turn x) h = tt
moved_exchanges p i h = h

all_moved : (p : ℕ) (is : List Instruction) → Exchanges is → Exchanges (map (moved p) is)
all_moved p [] h = tt
all_moved p (i ∷ is) h = (moved_exchanges p i h.0, all_moved p is h.1)

unit_exchanges : (m : Method) → Exchanges (method_code 0 m)
unit_exchanges m = both (statement_code [] 0 m.body) _ (statement_exchanges m.body [] 0) (tt, (tt, tt))

pub units_exchange : (file : File) (p : ℕ) → Exchanges (units_code p (units_of file))
units_exchange [] p = tt
units_exchange (m ∷ ms) p = both (map (moved p) (method_code 0 m)) _ (all_moved p (method_code 0 m) (unit_exchanges m))
    (units_exchange ms (p + length (method_code 0 m)))

pushes_exchange : (vs : List Value) → Exchanges (pushes vs)
pushes_exchange [] = tt
pushes_exchange (v ∷ vs) = (tt, pushes_exchange vs)

result_exchanges : (r : CallResult) (n : ℕ) → Exchanges (result_code r n)
result_exchanges result.Nothing n = (tt, (tt, tt))
result_exchanges result.Int n = (tt, tt)
result_exchanges result.Boolean n = (tt, tt)

call_exchanges : (classes : List Class) (n : ℕ) (c : ProgramCall) → Exchanges (call_code classes n c)
call_exchanges classes n (Making name c text vs) = (
  tt,
  (
    tt,
    (tt, both (pushes vs) _ (pushes_exchange vs) (tt, (tt, (tt, (tt, tt))))),
  ),
)
call_exchanges classes n (Calling name m text answers vs) = (
  tt,
  (tt, both (pushes vs) _ (pushes_exchange vs) (tt, result_exchanges (result_type answers) n)),
)

calls_exchange : (classes : List Class) (n : ℕ) (cs : List ProgramCall) → Exchanges (calls_code classes n cs)
calls_exchange classes n [] = (tt, (tt, tt))
calls_exchange classes n (c ∷ cs) = both (call_code classes n c) _ (call_exchanges classes n c)
    (calls_exchange classes (n + 1) cs)

pub threads_exchange : (classes : List Class) (ts : List ThreadProgram) → Exchanges (threads_code classes ts)
threads_exchange classes [] = tt
threads_exchange classes (t ∷ ts) = both (thread_code classes t) _ (calls_exchange classes 1 t.calls)
    (threads_exchange classes ts)

by_recursion : (is : List Instruction) → Exchanges is → AllByRecursion IsExchanged is
by_recursion [] h = tt
by_recursion (i ∷ is) h = (h.0, by_recursion is h.1)

pub all_exchanged : (is : List Instruction) → Exchanges is → All IsExchanged is
all_exchanged is h = All-from_recursion IsExchanged is (by_recursion is h)

-- the whole code
pub linked_exchanges : (file : checked.File) (program : Program) (methods : File) →
    All IsExchanged (linked file program (units_of methods)).instructions
linked_exchanges file program methods =
    all_exchanged _ (both (units_code 0 (units_of methods)) (threads_code file.classes program.threads)
    (units_exchange methods 0) (threads_exchange file.classes program.threads))
