-- What calls some methods alone calls more methods alone.
use Rattle.std.proofs.Common.{ℕ, List}
use Rattle.ls_checked.specs.declared.tree.Called.{Called}
use Rattle.ls_checked.specs.declared.tree.Called.TheVariants as calls
use Rattle.ls_checked.specs.CheckedTree.{Class, Expression, Literal, Slot, Field, Item, Negate, Not, Binary, And, Or}
use Rattle.ls_checked.specs.CheckedTree.{Call}
use Rattle.ls_checked.specs.CheckedTree.{MakeObject, MakeLock, MakeMarkable, MakeArray, Expressions, End, More}
use Rattle.ls_checked.specs.CheckedTree.{Statement, Block, SetSlot, SetField, AddField, SetItem, Evaluate, If, While}
use Rattle.ls_checked.specs.CheckedTree.{Break, Continue, ReturnNothing, ReturnValue, Try, Statements, Done, Then}
use Rattle.ls_meaning.specs.Expressions.{constructor_of}
use Rattle.ls_one_at_a_time.specs.Inner.{MayCall, IsPlain, ArePlain, RunsPlain, RunPlain}

module _ (Few Many : ℕ → Type 0) (classes : List Class) (more : (m : ℕ) → Few m → Many m) where
  may_call : (called : Called) → MayCall Few classes called → MayCall Many classes called
  may_call (calls.Method m) x = more m x
  may_call calls.LockIt x = x
  may_call calls.UnlockIt x = x
  may_call calls.TryIt x = x
  may_call calls.AskIt x = x
  may_call (calls.HoldMonitor c) x = x
  may_call (calls.FreeMonitor c) x = x
  may_call (calls.GetReference c) x = x
  may_call (calls.IsMarked c) x = x
  may_call (calls.GetBoth c) x = x
  may_call calls.SetBoth x = x
  may_call calls.CompareAndSet x = x
  may_call calls.Attempt x = x

  mutual
    is_plain : (e : Expression) → IsPlain Few classes e → IsPlain Many classes e
    is_plain (Literal v) x = x
    is_plain (Slot n) x = x
    is_plain (Field e c f) x = is_plain e x
    is_plain (Item a i) x = (is_plain a x.0, is_plain i x.1)
    is_plain (Negate e) x = is_plain e x
    is_plain (Not e) x = is_plain e x
    is_plain (Binary op a b) x = (is_plain a x.0, is_plain b x.1)
    is_plain (And a b) x = (is_plain a x.0, is_plain b x.1)
    is_plain (Or a b) x = (is_plain a x.0, is_plain b x.1)
    is_plain (Call e called es) x = (is_plain e x.0, may_call called x.1, are_plain es x.2)
    is_plain (MakeObject c es) x = (more (constructor_of classes c) x.0, are_plain es x.1)
    is_plain MakeLock x = x
    is_plain (MakeMarkable c es) x = are_plain es x
    is_plain (MakeArray e) x = is_plain e x

    are_plain : (es : Expressions) → ArePlain Few classes es → ArePlain Many classes es
    are_plain End x = x
    are_plain (More e es) x = (is_plain e x.0, are_plain es x.1)

  module _ (slot : ℕ) where
    mutual
      -- a statement that calls few methods alone calls more methods alone
      pub runs_plain : (s : Statement) → RunsPlain Few classes slot s → RunsPlain Many classes slot s
      runs_plain (Block ss) x = run_plain ss x
      runs_plain (SetSlot n e) x = (x.0, is_plain e x.1)
      runs_plain (SetField e f v) x = (is_plain e x.0, is_plain v x.1)
      runs_plain (AddField e f v) x = (is_plain e x.0, is_plain v x.1)
      runs_plain (SetItem a i v) x = (is_plain a x.0, is_plain i x.1, is_plain v x.2)
      runs_plain (Evaluate e) x = is_plain e x
      runs_plain (If e a b) x = (is_plain e x.0, runs_plain a x.1, runs_plain b x.2)
      runs_plain (While e s) x = (is_plain e x.0, runs_plain s x.1)
      runs_plain (Break n) x = x
      runs_plain (Continue n) x = x
      runs_plain ReturnNothing x = x
      runs_plain (ReturnValue e) x = is_plain e x
      runs_plain (Try b f) x = (runs_plain b x.0, runs_plain f x.1)

      -- so do statements
      pub run_plain : (ss : Statements) → RunPlain Few classes slot ss → RunPlain Many classes slot ss
      run_plain Done x = x
      run_plain (Then s ss) x = (runs_plain s x.0, run_plain ss x.1)
