-- What the lowering asks of a tree: each local exists, each call has as many arguments as its method, and nothing is
-- guarded yet.
use Rattle.std.specs.Prelude.{◌≡◌, ℕ, suc, ◌+◌, ◌<◌, List, [], ◌∷◌, Option, Some, None, slice_get}
use Rattle.ls_lowered.specs.LoweredTree.{Expression, Word, Local, Unary, Binary, And, Or, Hold, Keep, After, Field}
use Rattle.ls_lowered.specs.LoweredTree.{Item, SetFirst, ReadPair, SetPair, SwapPair, AttemptMark, OnLock, Call}
use Rattle.ls_lowered.specs.LoweredTree.{MakeObject, MakeLock, MakeMarkable, MakeArray, Expressions, End, More}
use Rattle.ls_lowered.specs.LoweredTree.{Statement, Block, SetLocal, SetField, AddField, SetItem, Evaluate, If, While}
use Rattle.ls_lowered.specs.LoweredTree.{Return, Try, Guarded, Throw, Leavable, Leave, Statements, Done, Then, Method}
use Rattle.ls_lowered.specs.LoweredTree.{File}
use Rattle.ls_finally.specs.Agreement.{IsBelow}

abbrev pub count : Expressions → ℕ
count End = 0
count (More e es) = suc (count es)

-- method number m exists and takes n arguments, `this` among them
abbrev pub TakesIn : Option Method → ℕ → Type 0
TakesIn None n = ⊥
TakesIn (Some g) n = n ≡ g.arguments

abbrev pub Takes : File → ℕ → ℕ → Type 0
Takes methods m n = TakesIn (slice_get methods m) n

abbrev mutual
  pub CallsWell : File → Expression → Type 0
  CallsWell ms (Word w) = Unit {0}
  CallsWell ms (Local n) = Unit {0}
  CallsWell ms (Unary op e) = CallsWell ms e
  CallsWell ms (Binary op a b) = CallsWell ms a × CallsWell ms b
  CallsWell ms (And a b) = CallsWell ms a × CallsWell ms b
  CallsWell ms (Or a b) = CallsWell ms a × CallsWell ms b
  CallsWell ms (Hold a n b) = CallsWell ms a × CallsWell ms b
  CallsWell ms (Keep n a b) = CallsWell ms a × CallsWell ms b
  CallsWell ms (After a b) = CallsWell ms a × CallsWell ms b
  CallsWell ms (Field e f) = CallsWell ms e
  CallsWell ms (Item a i) = CallsWell ms a × CallsWell ms i
  CallsWell ms (SetFirst a e) = CallsWell ms a × CallsWell ms e
  CallsWell ms (ReadPair e) = CallsWell ms e
  CallsWell ms (SetPair e a) = CallsWell ms e × CallsWell ms a
  CallsWell ms (SwapPair e a b) = CallsWell ms e × CallsWell ms a × CallsWell ms b
  CallsWell ms (AttemptMark e a b) = CallsWell ms e × CallsWell ms a × CallsWell ms b
  CallsWell ms (OnLock op e) = CallsWell ms e
  CallsWell ms (Call m e es) = Takes ms m (suc (count es)) × CallsWell ms e × AllCallWell ms es
  CallsWell ms (MakeObject c m es) = Takes ms m (suc (count es)) × AllCallWell ms es
  CallsWell ms MakeLock = Unit {0}
  CallsWell ms (MakeMarkable e) = CallsWell ms e
  CallsWell ms (MakeArray e) = CallsWell ms e

  pub AllCallWell : File → Expressions → Type 0
  AllCallWell ms End = Unit {0}
  AllCallWell ms (More e es) = CallsWell ms e × AllCallWell ms es

-- an expression of a method with k locals
abbrev pub IsPlaced : File → ℕ → Expression → Type 0
IsPlaced ms k e = IsBelow k e × CallsWell ms e

abbrev mutual
  pub IsPlacedStatement : File → ℕ → Statement → Type 0
  IsPlacedStatement ms k (Block ss) = ArePlaced ms k ss
  IsPlacedStatement ms k (SetLocal n e) = (n < k) × IsPlaced ms k e
  IsPlacedStatement ms k (SetField e f a) = IsPlaced ms k e × IsPlaced ms k a
  IsPlacedStatement ms k (AddField e f a) = IsPlaced ms k e × IsPlaced ms k a
  IsPlacedStatement ms k (SetItem a i e) = IsPlaced ms k a × IsPlaced ms k i × IsPlaced ms k e
  IsPlacedStatement ms k (Evaluate e) = IsPlaced ms k e
  IsPlacedStatement ms k (If e a b) = IsPlaced ms k e × IsPlacedStatement ms k a × IsPlacedStatement ms k b
  IsPlacedStatement ms k (While e s) = IsPlaced ms k e × IsPlacedStatement ms k s
  IsPlacedStatement ms k (Return e) = IsPlaced ms k e
  IsPlacedStatement ms k (Try b f) = IsPlacedStatement ms k b × IsPlacedStatement ms k f
  IsPlacedStatement ms k (Guarded b n h) = ⊥
  IsPlacedStatement ms k (Throw n) = ⊥
  IsPlacedStatement ms k (Leavable b xs) = IsPlacedStatement ms k b × ArePlaced ms k xs
  IsPlacedStatement ms k (Leave n) = Unit {0}

  pub ArePlaced : File → ℕ → Statements → Type 0
  ArePlaced ms k Done = Unit {0}
  ArePlaced ms k (Then s ss) = IsPlacedStatement ms k s × ArePlaced ms k ss

-- all bodies of a file
abbrev pub AllPlaced : File → List Method → Type 0
AllPlaced ms [] = Unit {0}
AllPlaced ms (m ∷ rest) = IsPlacedStatement ms (m.arguments + m.locals) m.body × AllPlaced ms rest
