-- What lowering, emitting and linking ask for has at most one proof. So it follows if a file merely is well typed.
use Rattle.std.proofs.Common.{ℕ, suc, ◌+◌, List, [], ◌∷◌, Option, Some, None}
use Rattle.std.proofs.Props.{props}
use Rattle.ls_events.specs.declared.value.Value.{Value}
use Rattle.ls_events.specs.declared.value.Value.TheVariants as values
use Rattle.ls_checked.specs.CheckedTree as checked
use Rattle.ls_checked.specs.CheckedProgram.{Program, ProgramCall, Making, Calling}
use Rattle.ls_lowered.specs.LoweredTree.{Expression, Word, Local, Unary, Binary, And, Or, Hold, Keep, After, Field}
use Rattle.ls_lowered.specs.LoweredTree.{Item, SetFirst, ReadPair, SetPair, SwapPair, AttemptMark, OnLock, Call}
use Rattle.ls_lowered.specs.LoweredTree.{MakeObject, MakeLock, MakeMarkable, MakeArray, Expressions, End, More}
use Rattle.ls_lowered.specs.LoweredTree.{Statement, Block, SetLocal, SetField, AddField, SetItem, Evaluate, If, While}
use Rattle.ls_lowered.specs.LoweredTree.{Return, Try, Guarded, Throw, Leavable, Leave, Statements, Done, Then, Method}
use Rattle.ls_lowered.specs.LoweredTree.{File}
use Rattle.ls_finally.specs.Agreement.{IsBelow, AreBelow}
use Rattle.ls_finally.specs.Placed as placed
use Rattle.ls_finally.specs.Placed.{CallsWell, AllCallWell, IsPlacedStatement, ArePlaced, AllPlaced}
use Rattle.ls_emit.specs.Emittable as emitted
use Rattle.ls_emit.specs.Emittable.{IsEmittable, AreEmittable, IsEmittableStatement, AreEmittableStatements}
use Rattle.ls_emit.specs.Emittable.{IsEmittableMethod, AllEmittable, statement_count}
use Rattle.ls_emit.specs.Units.{CodeUnit}
use Rattle.ls_code.specs.declared.instruction.Instruction.{Instruction}
use Rattle.ls_code.specs.declared.instruction.Instruction.TheVariants as op
use Rattle.ls_linker.specs.Landing.{Lands, UnitLands}
use Rattle.ls_linker.specs.Links.{IsWritten, CallLinks, Links}

mutual
  below : (k : ℕ) (e : Expression) → IsProp (IsBelow k e)
  below k (Word w) = hlevel
  below k (Local n) = hlevel props
  below k (Unary op e) = below k e
  below k (Binary op a b) = hlevel (below k a, below k b)
  below k (And a b) = hlevel (below k a, below k b)
  below k (Or a b) = hlevel (below k a, below k b)
  below k (Hold a n b) = hlevel (props, below k a, below k b)
  below k (Keep n a b) = hlevel (props, below k a, below k b)
  below k (After a b) = hlevel (below k a, below k b)
  below k (Field e f) = below k e
  below k (Item a i) = hlevel (below k a, below k i)
  below k (SetFirst a e) = hlevel (below k a, below k e)
  below k (ReadPair e) = below k e
  below k (SetPair e a) = hlevel (below k e, below k a)
  below k (SwapPair e a b) = hlevel (below k e, below k a, below k b)
  below k (AttemptMark e a b) = hlevel (below k e, below k a, below k b)
  below k (OnLock op e) = below k e
  below k (Call m e es) = hlevel (below k e, all_below k es)
  below k (MakeObject c m es) = all_below k es
  below k MakeLock = hlevel
  below k (MakeMarkable e) = below k e
  below k (MakeArray e) = below k e

  all_below : (k : ℕ) (es : Expressions) → IsProp (AreBelow k es)
  all_below k End = hlevel
  all_below k (More e es) = hlevel (below k e, all_below k es)

takes_in : (m : Option Method) (n : ℕ) → IsProp (placed.TakesIn m n)
takes_in None n = hlevel
takes_in (Some g) n = hlevel props

mutual
  calls : (ms : File) (e : Expression) → IsProp (CallsWell ms e)
  calls ms (Word w) = hlevel
  calls ms (Local n) = hlevel
  calls ms (Unary op e) = calls ms e
  calls ms (Binary op a b) = hlevel (calls ms a, calls ms b)
  calls ms (And a b) = hlevel (calls ms a, calls ms b)
  calls ms (Or a b) = hlevel (calls ms a, calls ms b)
  calls ms (Hold a n b) = hlevel (calls ms a, calls ms b)
  calls ms (Keep n a b) = hlevel (calls ms a, calls ms b)
  calls ms (After a b) = hlevel (calls ms a, calls ms b)
  calls ms (Field e f) = calls ms e
  calls ms (Item a i) = hlevel (calls ms a, calls ms i)
  calls ms (SetFirst a e) = hlevel (calls ms a, calls ms e)
  calls ms (ReadPair e) = calls ms e
  calls ms (SetPair e a) = hlevel (calls ms e, calls ms a)
  calls ms (SwapPair e a b) = hlevel (calls ms e, calls ms a, calls ms b)
  calls ms (AttemptMark e a b) = hlevel (calls ms e, calls ms a, calls ms b)
  calls ms (OnLock op e) = calls ms e
  calls ms (Call m e es) = hlevel (takes_in, calls ms e, all_calls ms es)
  calls ms (MakeObject c m es) = hlevel (takes_in, all_calls ms es)
  calls ms MakeLock = hlevel
  calls ms (MakeMarkable e) = calls ms e
  calls ms (MakeArray e) = calls ms e

  all_calls : (ms : File) (es : Expressions) → IsProp (AllCallWell ms es)
  all_calls ms End = hlevel
  all_calls ms (More e es) = hlevel (calls ms e, all_calls ms es)

mutual
  statement_placed : (ms : File) (k : ℕ) (s : Statement) → IsProp (IsPlacedStatement ms k s)
  statement_placed ms k (Block ss) = statements_placed ms k ss
  statement_placed ms k (SetLocal n e) = hlevel (props, below k e, calls ms e)
  statement_placed ms k (SetField e f a) = hlevel (below k e, calls ms e, below k a, calls ms a)
  statement_placed ms k (AddField e f a) = hlevel (below k e, calls ms e, below k a, calls ms a)
  statement_placed ms k (SetItem a i e) = hlevel (below k a, calls ms a, below k i, calls ms i, below k e, calls ms e)
  statement_placed ms k (Evaluate e) = hlevel (below k e, calls ms e)
  statement_placed ms k (If e a b) = hlevel (below k e, calls ms e, statement_placed ms k a, statement_placed ms k b)
  statement_placed ms k (While e s) = hlevel (below k e, calls ms e, statement_placed ms k s)
  statement_placed ms k (Return e) = hlevel (below k e, calls ms e)
  statement_placed ms k (Try b f) = hlevel (statement_placed ms k b, statement_placed ms k f)
  statement_placed ms k (Guarded b n h) = hlevel
  statement_placed ms k (Throw n) = hlevel
  statement_placed ms k (Leavable b xs) = hlevel (statement_placed ms k b, statements_placed ms k xs)
  statement_placed ms k (Leave n) = hlevel

  statements_placed : (ms : File) (k : ℕ) (ss : Statements) → IsProp (ArePlaced ms k ss)
  statements_placed ms k Done = hlevel
  statements_placed ms k (Then s ss) = hlevel (statement_placed ms k s, statements_placed ms k ss)

-- what lowering asks for has at most one proof
pub placed_once : (ms : File) (rest : List Method) → IsProp (AllPlaced ms rest)
placed_once ms [] = hlevel
placed_once ms (m ∷ rest) = hlevel (statement_placed ms (m.arguments + m.locals) m.body, placed_once ms rest)

takes_in_code : (m : Option Method) (n : ℕ) → IsProp (emitted.TakesIn m n)
takes_in_code None n = hlevel
takes_in_code (Some g) n = hlevel props

mutual
  emittable : (ms : File) (k : ℕ) (e : Expression) → IsProp (IsEmittable ms k e)
  emittable ms k (Word w) = hlevel props
  emittable ms k (Local n) = hlevel props
  emittable ms k (Unary op e) = emittable ms k e
  emittable ms k (Binary op a b) = hlevel (emittable ms k a, emittable ms k b)
  emittable ms k (And a b) = hlevel (emittable ms k a, emittable ms k b)
  emittable ms k (Or a b) = hlevel (emittable ms k a, emittable ms k b)
  emittable ms k (Hold a n b) = hlevel (props, emittable ms k a, emittable ms k b)
  emittable ms k (Keep n a b) = hlevel (props, emittable ms k a, emittable ms k b)
  emittable ms k (After a b) = hlevel (emittable ms k a, emittable ms k b)
  emittable ms k (Field e f) = hlevel (props, emittable ms k e)
  emittable ms k (Item a i) = hlevel (emittable ms k a, emittable ms k i)
  emittable ms k (SetFirst a e) = hlevel (emittable ms k a, emittable ms k e)
  emittable ms k (ReadPair e) = emittable ms k e
  emittable ms k (SetPair e a) = hlevel (emittable ms k e, emittable ms k a)
  emittable ms k (SwapPair e a b) = hlevel (emittable ms k e, emittable ms k a, emittable ms k b)
  emittable ms k (AttemptMark e a b) = hlevel (emittable ms k e, emittable ms k a, emittable ms k b)
  emittable ms k (OnLock op e) = emittable ms k e
  emittable ms k (Call m e es) = hlevel (props, takes_in_code, emittable ms k e, all_emittable ms k es)
  emittable ms k (MakeObject c m es) = hlevel (props, takes_in_code, all_emittable ms k es)
  emittable ms k MakeLock = hlevel
  emittable ms k (MakeMarkable e) = emittable ms k e
  emittable ms k (MakeArray e) = emittable ms k e

  all_emittable : (ms : File) (k : ℕ) (es : Expressions) → IsProp (AreEmittable ms k es)
  all_emittable ms k End = hlevel
  all_emittable ms k (More e es) = hlevel (emittable ms k e, all_emittable ms k es)

mutual
  statement_emittable : (ms : File) (k exits : ℕ) (s : Statement) → IsProp (IsEmittableStatement ms k exits s)
  statement_emittable ms k exits (Block ss) = statements_emittable ms k exits ss
  statement_emittable ms k exits (SetLocal n e) = hlevel (props, emittable ms k e)
  statement_emittable ms k exits (SetField e f a) = hlevel (props, emittable ms k e, emittable ms k a)
  statement_emittable ms k exits (AddField e f a) = hlevel (props, emittable ms k e, emittable ms k a)
  statement_emittable ms k exits (SetItem a i e) = hlevel (emittable ms k a, emittable ms k i, emittable ms k e)
  statement_emittable ms k exits (Evaluate e) = emittable ms k e
  statement_emittable ms k exits (If e a b) = hlevel (
    emittable ms k e,
    statement_emittable ms k exits a,
    statement_emittable ms k exits b,
  )
  statement_emittable ms k exits (While e s) = hlevel (emittable ms k e, statement_emittable ms k exits s)
  statement_emittable ms k exits (Return e) = emittable ms k e
  statement_emittable ms k exits (Try b f) = hlevel
  statement_emittable ms k exits (Guarded b n h) = hlevel (
    props,
    statement_emittable ms k exits b,
    statement_emittable ms k exits h,
  )
  statement_emittable ms k exits (Throw n) = hlevel props
  statement_emittable ms k exits (Leavable b xs) = hlevel (
    statement_emittable ms k (suc (statement_count xs) + exits)
        b,
    statements_emittable ms k exits xs,
  )
  statement_emittable ms k exits (Leave n) = hlevel props

  statements_emittable : (ms : File) (k exits : ℕ) (ss : Statements) → IsProp (AreEmittableStatements ms k exits ss)
  statements_emittable ms k exits Done = hlevel
  statements_emittable ms k exits (Then s ss) = hlevel (
    statement_emittable ms k exits s,
    statements_emittable ms k exits ss,
  )

method_emittable : (ms : File) (m : Method) → IsProp (IsEmittableMethod ms m)
method_emittable ms m = hlevel (props, statement_emittable ms (m.arguments + m.locals) 0 m.body)

-- what emitting asks for has at most one proof
pub emittable_once : (ms : File) (rest : List Method) → IsProp (AllEmittable ms rest)
emittable_once ms [] = hlevel
emittable_once ms (m ∷ rest) = hlevel (method_emittable ms m, emittable_once ms rest)

lands : (n : ℕ) (i : Instruction) → IsProp (Lands n i)
lands n (op.Jump place) = hlevel props
lands n (op.JumpIfFalse place) = hlevel props
lands n (op.JumpIfTrue place) = hlevel props
lands n (op.Turn place) = hlevel props
lands n _ = hlevel

unit_lands : (u : CodeUnit) → IsProp (UnitLands u)
unit_lands u = hlevel (props, lands)

written : (v : Value) → IsProp (IsWritten v)
written (values.Int z) = hlevel
written (values.Boolean b) = hlevel
written (values.Reference n) = hlevel
written (values.Pair n m) = hlevel

call_links : (classes : List checked.Class) (c : ProgramCall) → IsProp (CallLinks classes c)
call_links classes (Making name class text values) = hlevel (props, written)
call_links classes (Calling name method text result values) = hlevel (props, written)

-- what linking asks for has at most one proof
pub links_once : (file : checked.File) (program : Program) (units : List CodeUnit) → IsProp (Links file program units)
links_once file program units = hlevel (props, unit_lands, call_links)
