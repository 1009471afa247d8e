-- Instructions by nodes.
use Rattle.std.proofs.Common.{◌+◌, ◌*◌, ◌≤◌, arith}
use Rattle.ls_lowered.specs.declared.tree.LockOperation.{LockOperation}
use Rattle.ls_lowered.specs.declared.tree.LockOperation.TheVariants.{Lock, Unlock, TryLock, IsHeld, LockMonitor}
use Rattle.ls_lowered.specs.declared.tree.LockOperation.TheVariants.{UnlockMonitor}
use Rattle.ls_lowered.specs.LoweredTree.{Expression, Word, Local, Unary, Binary, And, Or, Hold, Keep, After, Field}
use Rattle.ls_lowered.specs.LoweredTree.{Item, SetFirst, ReadPair, SetPair, SwapPair, AttemptMark, OnLock, Call}
use Rattle.ls_lowered.specs.LoweredTree.{MakeObject, MakeLock, MakeMarkable, MakeArray, Expressions, End, More}
use Rattle.ls_lowered.specs.LoweredTree.{Statement, Block, SetLocal, SetField, AddField, SetItem, Evaluate, If, While}
use Rattle.ls_lowered.specs.LoweredTree.{Return, Try, Guarded, Throw, Leavable, Leave, Statements, Done, Then, Method}
use Rattle.ls_emit.specs.LockCode.{lock_size}
use Rattle.ls_emit.specs.Expressions.{size, all_size}
use Rattle.ls_emit.specs.Statements.{statement_size, statements_size, exits_size}
use Rattle.ls_emit.specs.Units.{method_size}
use Rattle.ls_linker.specs.Counts.{nodes, all_nodes, statement_nodes, statements_nodes, method_count}

lock_few : (op : LockOperation) → lock_size op ≤ 5
lock_few Lock = omega arith
lock_few Unlock = omega arith
lock_few TryLock = omega arith
lock_few IsHeld = omega arith
lock_few LockMonitor = omega arith
lock_few UnlockMonitor = omega arith

mutual
  sized : (e : Expression) → size e ≤ 5 * nodes e
  sized (Word w) = omega arith
  sized (Local n) = omega arith
  sized (Unary op e) = omega (arith, sized e)
  sized (Binary op a b) = omega (arith, sized a, sized b)
  sized (And a b) = omega (arith, sized a, sized b)
  sized (Or a b) = omega (arith, sized a, sized b)
  sized (Hold a n b) = omega (arith, sized a, sized b)
  sized (Keep n a b) = omega (arith, sized a, sized b)
  sized (After a b) = omega (arith, sized a, sized b)
  sized (Field e f) = omega (arith, sized e)
  sized (Item a i) = omega (arith, sized a, sized i)
  sized (SetFirst a e) = omega (arith, sized a, sized e)
  sized (ReadPair e) = omega (arith, sized e)
  sized (SetPair e a) = omega (arith, sized e, sized a)
  sized (SwapPair e a b) = omega (arith, sized e, sized a, sized b)
  sized (AttemptMark e a b) = omega (arith, sized e, sized a, sized b)
  sized (OnLock op e) = omega (arith, sized e, lock_few op)
  sized (Call m e es) = omega (arith, sized e, all_sized es)
  sized (MakeObject c m es) = omega (arith, all_sized es)
  sized MakeLock = omega arith
  sized (MakeMarkable e) = omega (arith, sized e)
  sized (MakeArray e) = omega (arith, sized e)

  all_sized : (es : Expressions) → all_size es ≤ 5 * all_nodes es
  all_sized End = omega arith
  all_sized (More e es) = omega (arith, sized e, all_sized es)

mutual
  -- a statement has a node
  statement_sized : (s : Statement) → statement_size s + 4 ≤ 8 * statement_nodes s
  statement_sized (Block ss) = omega (arith, statements_sized ss)
  statement_sized (SetLocal n e) = omega (arith, sized e)
  statement_sized (SetField e f a) = omega (arith, sized e, sized a)
  statement_sized (AddField e f a) = omega (arith, sized e, sized a)
  statement_sized (SetItem a i e) = omega (arith, sized a, sized i, sized e)
  statement_sized (Evaluate e) = omega (arith, sized e)
  statement_sized (If e a b) = omega (arith, sized e, statement_sized a, statement_sized b)
  statement_sized (While e s) = omega (arith, sized e, statement_sized s)
  statement_sized (Return e) = omega (arith, sized e)
  statement_sized (Try b f) = omega arith
  statement_sized (Guarded b n h) = omega (arith, statement_sized b, statement_sized h)
  statement_sized (Throw n) = omega arith
  statement_sized (Leavable b xs) = omega (arith, statement_sized b, exits_sized xs)
  statement_sized (Leave n) = omega arith

  statements_sized : (ss : Statements) → statements_size ss ≤ 8 * statements_nodes ss
  statements_sized Done = omega arith
  statements_sized (Then s ss) = omega (arith, statement_sized s, statements_sized ss)

  exits_sized : (xs : Statements) → exits_size xs ≤ 8 * statements_nodes xs
  exits_sized Done = omega arith
  exits_sized (Then x xs) = omega (arith, statement_sized x, exits_sized xs)

-- a method has at most 16 instructions for each node and declared name
pub method_sized : (m : Method) → method_size m ≤ 16 * method_count m
method_sized m = omega (arith, statement_sized m.body)
