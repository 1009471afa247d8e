-- The trees that have code: each number in a tree names something, and no `try` is left.
use Rattle.std.specs.Prelude.{◌≡◌, ◌<◌, ◌≤◌, ℕ, suc, ◌+◌, ◌^◌, List, [], ◌∷◌, Option, Some, None, slice_get}
use Rattle.ls_lowered.specs.LoweredTree.{Expression, Word, Local, Unary, Binary, And, Or, Hold, Keep, After, Field}
use Rattle.ls_lowered.specs.LoweredTree.{Item, SetFirst, ReadPair, SetPair, SwapPair, AttemptMark, OnLock, Call}
use Rattle.ls_lowered.specs.LoweredTree.{MakeObject, MakeLock, MakeMarkable, MakeArray, Expressions, End, More}
use Rattle.ls_lowered.specs.LoweredTree.{Statement, Block, SetLocal, SetField, AddField, SetItem, Evaluate, If, While}
use Rattle.ls_lowered.specs.LoweredTree.{Return, Try, Guarded, Throw, Leavable, Leave, Statements, Done, Then, Method}
use Rattle.ls_lowered.specs.LoweredTree.{File}

abbrev pub count : Expressions → ℕ
count End = 0
count (More e es) = suc (count es)

abbrev pub statement_count : Statements → ℕ
statement_count Done = 0
statement_count (Then s ss) = suc (statement_count ss)

-- method number m exists and takes n arguments, `this` among them
abbrev pub TakesIn : Option Method → ℕ → Type 0
TakesIn None n = ⊥
TakesIn (Some g) n = n ≡ g.arguments

abbrev pub Takes : File → ℕ → ℕ → Type 0
Takes methods m n = (m < 2 ^ 32) × TakesIn (slice_get methods m) n

abbrev mutual
  -- an expression of a method with k locals
  pub IsEmittable : File → ℕ → Expression → Type 0
  IsEmittable ms k (Word w) = w < 2 ^ 32
  IsEmittable ms k (Local n) = n < k
  IsEmittable ms k (Unary op e) = IsEmittable ms k e
  IsEmittable ms k (Binary op a b) = IsEmittable ms k a × IsEmittable ms k b
  IsEmittable ms k (And a b) = IsEmittable ms k a × IsEmittable ms k b
  IsEmittable ms k (Or a b) = IsEmittable ms k a × IsEmittable ms k b
  IsEmittable ms k (Hold a n b) = IsEmittable ms k a × (n < k) × IsEmittable ms k b
  IsEmittable ms k (Keep n a b) = IsEmittable ms k a × (n < k) × IsEmittable ms k b
  IsEmittable ms k (After a b) = IsEmittable ms k a × IsEmittable ms k b
  IsEmittable ms k (Field e f) = IsEmittable ms k e × (f + 1 < 2 ^ 32)
  IsEmittable ms k (Item a i) = IsEmittable ms k a × IsEmittable ms k i
  IsEmittable ms k (SetFirst a e) = IsEmittable ms k a × IsEmittable ms k e
  IsEmittable ms k (ReadPair e) = IsEmittable ms k e
  IsEmittable ms k (SetPair e a) = IsEmittable ms k e × IsEmittable ms k a
  IsEmittable ms k (SwapPair e a b) = IsEmittable ms k e × IsEmittable ms k a × IsEmittable ms k b
  IsEmittable ms k (AttemptMark e a b) = IsEmittable ms k e × IsEmittable ms k a × IsEmittable ms k b
  IsEmittable ms k (OnLock op e) = IsEmittable ms k e
  IsEmittable ms k (Call m e es) = Takes ms m (suc (count es)) × IsEmittable ms k e × AreEmittable ms k es
  IsEmittable ms k (MakeObject c m es) = (c < 2 ^ 32) × Takes ms m (suc (count es)) × AreEmittable ms k es
  IsEmittable ms k MakeLock = Unit {0}
  IsEmittable ms k (MakeMarkable e) = IsEmittable ms k e
  IsEmittable ms k (MakeArray e) = IsEmittable ms k e

  pub AreEmittable : File → ℕ → Expressions → Type 0
  AreEmittable ms k End = Unit {0}
  AreEmittable ms k (More e es) = IsEmittable ms k e × AreEmittable ms k es

abbrev mutual
  -- a statement from which leaves with numbers below `exits` may lead out
  pub IsEmittableStatement : File → ℕ → ℕ → Statement → Type 0
  IsEmittableStatement ms k exits (Block ss) = AreEmittableStatements ms k exits ss
  IsEmittableStatement ms k exits (SetLocal n e) = (n < k) × IsEmittable ms k e
  IsEmittableStatement ms k exits (SetField e f a) = (f + 1 < 2 ^ 32) × IsEmittable ms k e × IsEmittable ms k a
  IsEmittableStatement ms k exits (AddField e f a) = (f + 1 < 2 ^ 32) × IsEmittable ms k e × IsEmittable ms k a
  IsEmittableStatement ms k exits (SetItem a i e) = IsEmittable ms k a × IsEmittable ms k i × IsEmittable ms k e
  IsEmittableStatement ms k exits (Evaluate e) = IsEmittable ms k e
  IsEmittableStatement ms k exits (If e a b) = IsEmittable ms k e × IsEmittableStatement ms k exits a ×
      IsEmittableStatement ms k exits b
  IsEmittableStatement ms k exits (While e s) = IsEmittable ms k e × IsEmittableStatement ms k exits s
  IsEmittableStatement ms k exits (Return e) = IsEmittable ms k e
  IsEmittableStatement ms k exits (Try b f) = ⊥
  IsEmittableStatement ms k exits (Guarded b n h) = (n < k) × IsEmittableStatement ms k exits b ×
      IsEmittableStatement ms k exits h
  IsEmittableStatement ms k exits (Throw n) = n < k
  IsEmittableStatement ms k exits (Leavable b xs) = IsEmittableStatement ms k (suc (statement_count xs) + exits) b ×
      AreEmittableStatements ms k exits xs
  IsEmittableStatement ms k exits (Leave n) = n < exits

  pub AreEmittableStatements : File → ℕ → ℕ → Statements → Type 0
  AreEmittableStatements ms k exits Done = Unit {0}
  AreEmittableStatements ms k exits (Then s ss) = IsEmittableStatement ms k exits s ×
      AreEmittableStatements ms k exits ss

-- each method has at least its `this`, at most 2 ^ 16 locals, and a body that has code
pub record IsEmittableMethod (ms : File) (m : Method) : Type 0 where
  pub this : 1 ≤ m.arguments
  pub locals : m.arguments + m.locals ≤ 65536
  pub body : IsEmittableStatement ms (m.arguments + m.locals) 0 m.body

abbrev pub AllEmittable : File → List Method → Type 0
AllEmittable ms [] = Unit {0}
AllEmittable ms (m ∷ rest) = IsEmittableMethod ms m × AllEmittable ms rest

abbrev pub IsEmittableFile : File → Type 0
IsEmittableFile ms = AllEmittable ms ms
