-- Bodies in which the object itself is no value: `this` is only what a field is read of or written to, or a method is
-- called on. So no such body writes a given field of the object.
use Rattle.std.specs.Prelude.{◌≡◌, ◌≢◌, ◌⊎◌, ℕ, zero, Bool, true, false, List, [], ◌∷◌, Some, slice_get}
use Rattle.ls_events.specs.declared.value.Value.{Value}
use Rattle.ls_events.specs.declared.action.Action.{Action}
use Rattle.ls_events.specs.declared.action.Action.TheVariants as act
use Rattle.ls_events.specs.declared.action.Answer.{Answer}
use Rattle.ls_events.specs.declared.action.Answer.TheVariants.{Gives}
use Rattle.ls_checked.specs.declared.tree.Called.{Called}
use Rattle.ls_checked.specs.declared.tree.Called.TheVariants as calls
use Rattle.ls_checked.specs.CheckedTree.{Class, Expression, Literal, Slot, Field, Item, Negate, Not, Binary, And, Or}
use Rattle.ls_checked.specs.CheckedTree.{Call, MakeObject, MakeLock, MakeMarkable, MakeArray, Expressions, End, More}
use Rattle.ls_checked.specs.CheckedTree.{Statement, Block, SetSlot, SetField, AddField, SetItem, Evaluate, If, While}
use Rattle.ls_checked.specs.CheckedTree.{Break, Continue, ReturnNothing, ReturnValue, Try, Statements, Done, Then}
use Rattle.ls_checked.specs.CheckedTree.{Method, File}
use Rattle.ls_meaning.specs.Values.{reference_of}
use Rattle.ls_meaning.specs.Expressions.{constructor_of}
use Rattle.ls_meaning.specs.Course.{Answers}

-- ---- the criterion

-- what may be called on another object than the one
abbrev pub IsOperation : (ℕ → Type 0) → Called → Type 0
IsOperation Helps (calls.Method m) = Helps m
IsOperation Helps calls.LockIt = ⊥
IsOperation Helps calls.UnlockIt = ⊥
IsOperation Helps calls.TryIt = ⊥
IsOperation Helps calls.AskIt = ⊥
IsOperation Helps (calls.HoldMonitor c) = ⊥
IsOperation Helps (calls.FreeMonitor c) = ⊥
IsOperation Helps _ = Unit {0}

-- what may be called on the object
abbrev pub IsOwn : (ℕ → Type 0) → Called → Type 0
IsOwn OnThis (calls.Method m) = OnThis m
IsOwn OnThis _ = ⊥

-- slot 0 is no value where it is the object
abbrev pub IsValueSlot : Bool → ℕ → Type 0
IsValueSlot true zero = ⊥
IsValueSlot _ _ = Unit {0}

-- `this`, where it is the object
abbrev pub IsThis : Bool → Expression → Type 0
IsThis this (Slot zero) = this ≡ true
IsThis this _ = ⊥

-- Methods OnThis may be called on the object, and Helps on all else. Field f of the object is never written.
module _ (OnThis Helps : ℕ → Type 0) (classes : List Class) (f : ℕ) (this : Bool) where
  abbrev mutual
    -- the object is no value in the expression: `this` stands before a field or a call alone
    pub IsClean : Expression → Type 0
    IsClean (Literal v) = reference_of v ≡ 0
    IsClean (Slot n) = IsValueSlot this n
    IsClean (Field e c i) = IsThis this e ⊎ IsClean e
    IsClean (Item a i) = IsClean a × IsClean i
    IsClean (Negate e) = IsClean e
    IsClean (Not e) = IsClean e
    IsClean (Binary op a b) = IsClean a × IsClean b
    IsClean (And a b) = IsClean a × IsClean b
    IsClean (Or a b) = IsClean a × IsClean b
    IsClean (Call e called es) = ((IsThis this e × IsOwn OnThis called) ⊎ (IsClean e × IsOperation Helps called)) ×
        AreClean es
    IsClean (MakeObject c es) = Helps (constructor_of classes c) × AreClean es
    IsClean MakeLock = Unit {0}
    IsClean (MakeMarkable c es) = AreClean es
    IsClean (MakeArray e) = IsClean e

    -- of expressions
    pub AreClean : Expressions → Type 0
    AreClean End = Unit {0}
    AreClean (More e es) = IsClean e × AreClean es

  -- a field of `this` that isn't the given one, or any field of another object
  abbrev pub IsPlace : Expression → ℕ → Type 0
  IsPlace e i = (IsThis this e × (i ≢ f)) ⊎ IsClean e

  abbrev mutual
    -- of a statement
    pub RunsClean : Statement → Type 0
    RunsClean (Block ss) = RunClean ss
    RunsClean (SetSlot n e) = IsValueSlot this n × IsClean e
    RunsClean (SetField e i v) = IsPlace e i × IsClean v
    RunsClean (AddField e i v) = IsPlace e i × IsClean v
    RunsClean (SetItem a i v) = IsClean a × IsClean i × IsClean v
    RunsClean (Evaluate e) = IsClean e
    RunsClean (If e a b) = IsClean e × RunsClean a × RunsClean b
    RunsClean (While e s) = IsClean e × RunsClean s
    RunsClean (Break n) = Unit {0}
    RunsClean (Continue n) = Unit {0}
    RunsClean ReturnNothing = Unit {0}
    RunsClean (ReturnValue e) = IsClean e
    RunsClean (Try b c) = RunsClean b × RunsClean c

    -- of statements
    pub RunClean : Statements → Type 0
    RunClean Done = Unit {0}
    RunClean (Then s ss) = RunsClean s × RunClean ss

-- methods that are called on the object, and on others
pub record AreCleanMethods (OnThis Helps : ℕ → Type 0) (f : ℕ) (file : File) : Type 0 where
  pub own : (m : ℕ) (method : Method) → OnThis m → slice_get file.methods m ≡ Some method →
      RunsClean OnThis Helps file.classes f true method.body
  pub others : (m : ℕ) (method : Method) → Helps m → slice_get file.methods m ≡ Some method →
      RunsClean OnThis Helps file.classes f false method.body

-- ---- what it keeps

module _ (o : ℕ) where
  -- no reference to the object
  pub record IsOther (v : Value) : Type 0 where
    pub is : reference_of v ≢ o

  -- an answer that gives no reference to the object
  abbrev pub AnswersOther : Answer Value → Type 0
  AnswersOther (Gives v) = IsOther v
  AnswersOther _ = Unit {0}

  -- of answers
  abbrev pub AllOther : Answers → Type 0
  AllOther [] = Unit {0}
  AllOther (x ∷ q) = AnswersOther x × AllOther q

  -- an action that stores no reference to the object, and doesn't write its field
  abbrev pub IsSafe : ℕ → Action Value → Type 0
  IsSafe f (act.WriteField n i v) = ((n ≢ o) ⊎ (i ≢ f)) × IsOther v
  IsSafe f (act.WriteItem n i v) = IsOther v
  IsSafe f (act.NewMarkable p) = IsOther p
  IsSafe f (act.SetPair n p) = IsOther p
  IsSafe f (act.SwapPair n p q) = IsOther q
  IsSafe f (act.AttemptMark n r m) = r ≢ o
  IsSafe f (act.Lock n) = ⊥
  IsSafe f (act.Unlock n) = ⊥
  IsSafe f (act.TryLock n) = ⊥
  IsSafe f (act.IsHeld n) = ⊥
  IsSafe f (act.LockMonitor n) = ⊥
  IsSafe f (act.UnlockMonitor n) = ⊥
  IsSafe f (act.ReadName n) = ⊥
  IsSafe f (act.WriteName n v) = ⊥
  IsSafe f (act.Call n) = ⊥
  IsSafe f (act.Return n v) = ⊥
  IsSafe f (act.Trap n kind) = ⊥
  IsSafe f _ = Unit {0}
