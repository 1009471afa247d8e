-- The lowered tree of a checked tree. Temporaries are numbered in text order, from the first local that is free.
use Rattle.std.specs.Prelude.{ℕ, ◌+◌, ◌-◌, ◌*◌, List, length, map, Option, Some, None}
use Rattle.ls_checked.specs.CheckedTree as checked
use Rattle.ls_lowered.specs.declared.tree.UnaryOperator.TheVariants as unary
use Rattle.ls_lowered.specs.LoweredTree.{Expression, Word, Local, Unary, Binary, And, Or, Field, Item, MakeObject}
use Rattle.ls_lowered.specs.LoweredTree.{MakeLock, MakeMarkable, MakeArray, Expressions, End, More, Statement, Block}
use Rattle.ls_lowered.specs.LoweredTree.{SetLocal, SetField, AddField, SetItem, Evaluate, If, While, Return, Try}
use Rattle.ls_lowered.specs.LoweredTree.{Leavable, Leave, Statements, Done, Then, Method, File}
use Rattle.ls_meaning.specs.Expressions.{constructor_of}
use Rattle.ls_refs.specs.ValueWords.{value_word}
use Rattle.ls_refs.specs.Calls.{lowered_operator, own_temporaries, first_of, second_of, pack, lowered_call}
use Rattle.ls_refs.specs.Temporaries.{temporaries, statement_temporaries}

abbrev mutual
  pub lowered : List checked.Class → ℕ → checked.Expression → Expression
  lowered classes free (checked.Literal v) = Word (value_word v)
  lowered classes free (checked.Slot n) = Local n
  lowered classes free (checked.Field e class field) = Field (lowered classes free e) field
  lowered classes free (checked.Item a i) = Item (lowered classes free a) (lowered classes (free + temporaries a) i)
  lowered classes free (checked.Negate e) = Unary unary.Negate (lowered classes free e)
  lowered classes free (checked.Not e) = Unary unary.Not (lowered classes free e)
  lowered classes free (checked.Binary op a b) = Binary (lowered_operator op) (lowered classes free a)
      (lowered classes (free + temporaries a) b)
  lowered classes free (checked.And a b) = And (lowered classes free a) (lowered classes (free + temporaries a) b)
  lowered classes free (checked.Or a b) = Or (lowered classes free a) (lowered classes (free + temporaries a) b)
  lowered classes free (checked.Call e called es) =
      lowered_call free called (lowered classes (free + own_temporaries called) e)
      (all_lowered classes (free + own_temporaries called + temporaries e) es)
  lowered classes free (checked.MakeObject class es) = MakeObject class (constructor_of classes class)
      (all_lowered classes free es)
  lowered classes free checked.MakeLock = MakeLock
  lowered classes free (checked.MakeMarkable class es) =
      MakeMarkable (pack (first_of (all_lowered classes free es)) (second_of (all_lowered classes free es)))
  lowered classes free (checked.MakeArray e) = MakeArray (lowered classes free e)

  pub all_lowered : List checked.Class → ℕ → checked.Expressions → Expressions
  all_lowered classes free checked.End = End
  all_lowered classes free (checked.More e es) = More (lowered classes free e)
      (all_lowered classes (free + temporaries e) es)

-- a statement that a leave ends
abbrev pub leavable : Statement → Statement
leavable s = Leavable s Done

-- the statements of a block
abbrev pub inner_of : Statement → Option Statements
inner_of (Block ss) = Some ss
inner_of _ = None

abbrev pub joined : Statements → Statements → Statements
joined Done rest = rest
joined (Then s ss) rest = Then s (joined ss rest)

abbrev pub put_ahead : Option Statements → Statement → Statements → Statements
put_ahead None s rest = Then s rest
put_ahead (Some ss) s rest = joined ss rest

-- a statement before others; a block is replaced by its statements, so an empty block is gone
abbrev pub ahead : Statement → Statements → Statements
ahead s rest = put_ahead (inner_of s) s rest

-- A loop is leavable, and so is its body. To continue the n-th loop around a statement is to leave the body of that
-- loop. To break it is to leave the loop itself. So each loop has two numbers.
abbrev mutual
  pub lowered_statement : List checked.Class → ℕ → checked.Statement → Statement
  lowered_statement classes free (checked.Block ss) = Block (lowered_block classes free ss)
  lowered_statement classes free (checked.SetSlot n e) = SetLocal n (lowered classes free e)
  lowered_statement classes free (checked.SetField e field v) = SetField (lowered classes free e) field
      (lowered classes (free + temporaries e) v)
  lowered_statement classes free (checked.AddField e field v) = AddField (lowered classes free e) field
      (lowered classes (free + temporaries e) v)
  lowered_statement classes free (checked.SetItem a i v) =
      SetItem (lowered classes free a) (lowered classes (free + temporaries a) i)
      (lowered classes (free + temporaries a + temporaries i) v)
  lowered_statement classes free (checked.Evaluate e) = Evaluate (lowered classes free e)
  lowered_statement classes free (checked.If e a b) =
      If (lowered classes free e) (lowered_statement classes (free + temporaries e) a)
      (lowered_statement classes (free + temporaries e + statement_temporaries a) b)
  lowered_statement classes free (checked.While e s) =
      leavable (While (lowered classes free e) (leavable (lowered_statement classes (free + temporaries e) s)))
  lowered_statement classes free (checked.Break n) = Leave (2 * n + 1)
  lowered_statement classes free (checked.Continue n) = Leave (2 * n)
  lowered_statement classes free checked.ReturnNothing = Return (Word 0)
  lowered_statement classes free (checked.ReturnValue e) = Return (lowered classes free e)
  lowered_statement classes free (checked.Try b f) =
      Try (lowered_statement classes free b) (lowered_statement classes (free + statement_temporaries b) f)

  pub lowered_block : List checked.Class → ℕ → checked.Statements → Statements
  lowered_block classes free checked.Done = Done
  lowered_block classes free (checked.Then s ss) = ahead (lowered_statement classes free s)
      (lowered_block classes (free + statement_temporaries s) ss)

-- the temporaries follow the method's slots
abbrev pub lowered_method : List checked.Class → checked.Method → Method
lowered_method classes m = record {
  arguments = m.parameters + 1;
  locals = length m.slots + statement_temporaries m.body - (m.parameters + 1);
  body = lowered_statement classes (length m.slots) m.body;
}

abbrev pub lowered_file : checked.File → File
lowered_file f = map (lowered_method f.classes) f.methods
