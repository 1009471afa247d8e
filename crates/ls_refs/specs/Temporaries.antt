-- How many temporaries a tree needs for its calls. Each try needs two more for the lowering of finally blocks.
use Rattle.std.specs.Prelude.{ℕ, ◌+◌, ◌*◌, length}
use Rattle.ls_checked.specs.CheckedTree.{Expression, Literal, Slot, Field, Item, Negate, Not, Binary, And, Or, Call}
use Rattle.ls_checked.specs.CheckedTree.{MakeObject, MakeLock, MakeMarkable, MakeArray, Expressions, End, More}
use Rattle.ls_checked.specs.CheckedTree.{Statement, Block, SetSlot, SetField, AddField, SetItem, Evaluate, If, While}
use Rattle.ls_checked.specs.CheckedTree.{Break, Continue, ReturnNothing, ReturnValue, Try, Statements, Done, Then}
use Rattle.ls_checked.specs.CheckedTree.{Method}
use Rattle.ls_refs.specs.Calls.{own_temporaries}

abbrev mutual
  pub temporaries : Expression → ℕ
  temporaries (Literal v) = 0
  temporaries (Slot n) = 0
  temporaries (Field e class field) = temporaries e
  temporaries (Item a i) = temporaries a + temporaries i
  temporaries (Negate e) = temporaries e
  temporaries (Not e) = temporaries e
  temporaries (Binary op a b) = temporaries a + temporaries b
  temporaries (And a b) = temporaries a + temporaries b
  temporaries (Or a b) = temporaries a + temporaries b
  temporaries (Call e called es) = own_temporaries called + temporaries e + all_temporaries es
  temporaries (MakeObject class es) = all_temporaries es
  temporaries MakeLock = 0
  temporaries (MakeMarkable class es) = all_temporaries es
  temporaries (MakeArray e) = temporaries e

  pub all_temporaries : Expressions → ℕ
  all_temporaries End = 0
  all_temporaries (More e es) = temporaries e + all_temporaries es

abbrev mutual
  pub statement_temporaries : Statement → ℕ
  statement_temporaries (Block ss) = block_temporaries ss
  statement_temporaries (SetSlot n e) = temporaries e
  statement_temporaries (SetField e f v) = temporaries e + temporaries v
  statement_temporaries (AddField e f v) = temporaries e + temporaries v
  statement_temporaries (SetItem a i v) = temporaries a + temporaries i + temporaries v
  statement_temporaries (Evaluate e) = temporaries e
  statement_temporaries (If e a b) = temporaries e + statement_temporaries a + statement_temporaries b
  statement_temporaries (While e s) = temporaries e + statement_temporaries s
  statement_temporaries (Break n) = 0
  statement_temporaries (Continue n) = 0
  statement_temporaries ReturnNothing = 0
  statement_temporaries (ReturnValue e) = temporaries e
  statement_temporaries (Try b f) = statement_temporaries b + statement_temporaries f

  pub block_temporaries : Statements → ℕ
  block_temporaries Done = 0
  block_temporaries (Then s ss) = statement_temporaries s + block_temporaries ss

-- the try statements
abbrev mutual
  pub tries : Statement → ℕ
  tries (Block ss) = block_tries ss
  tries (If e a b) = tries a + tries b
  tries (While e s) = tries s
  tries (Try b f) = 1 + tries b + tries f
  tries _ = 0

  pub block_tries : Statements → ℕ
  block_tries Done = 0
  block_tries (Then s ss) = tries s + block_tries ss

-- the locals that statements take beside the slots of their method
abbrev pub taken : Statement → ℕ
taken s = statement_temporaries s + 2 * tries s

abbrev pub block_taken : Statements → ℕ
block_taken ss = block_temporaries ss + 2 * block_tries ss

-- all locals of a method: `this`, the parameters, the locals, and the temporaries
abbrev pub locals_of : Method → ℕ
locals_of m = length m.slots + taken m.body
