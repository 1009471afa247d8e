-- Files in which no pair comes alone.
use Rattle.std.specs.Prelude.{◌≡◌, ℕ, Some, slice_get}
use Rattle.ls_events.specs.declared.value.Value.TheVariants.{Pair}
use Rattle.ls_checked.specs.CheckedTree.{Expression, Literal, Statement, Block, Evaluate, If, While, Try, Statements}
use Rattle.ls_checked.specs.CheckedTree.{Done, Then, Method, File}

-- a markable's pair of a reference and a mark isn't a value that a text can write
abbrev pub IsNoPair : Expression → Type 0
IsNoPair (Literal (Pair n mark)) = ⊥
IsNoPair _ = Unit {0}

-- no expression statement is a pair alone; everywhere else a pair is refused by its type
abbrev mutual
  -- a statement that evaluates no pair
  pub EvaluatesNoPair : Statement → Type 0
  EvaluatesNoPair (Block ss) = EvaluateNoPair ss
  EvaluatesNoPair (Evaluate e) = IsNoPair e
  EvaluatesNoPair (If e a b) = EvaluatesNoPair a × EvaluatesNoPair b
  EvaluatesNoPair (While e s) = EvaluatesNoPair s
  EvaluatesNoPair (Try b f) = EvaluatesNoPair b × EvaluatesNoPair f
  EvaluatesNoPair _ = Unit {0}

  -- statements that evaluate no pair
  pub EvaluateNoPair : Statements → Type 0
  EvaluateNoPair Done = Unit {0}
  EvaluateNoPair (Then s ss) = EvaluatesNoPair s × EvaluateNoPair ss

-- a file whose methods evaluate no pair
abbrev pub HasNoPairs : File → Type 0
HasNoPairs file = (n : ℕ) (m : Method) → slice_get file.methods n ≡ Some m → EvaluatesNoPair m.body
