-- What may stand in a body that runs alone: all but what may wait, monitors, and calls of methods that have these.
use Rattle.std.specs.Prelude.{◌≡◌, ◌≢◌, ◌<◌, ℕ, List, length, Some, slice_get}
use Rattle.ls_events.specs.declared.value.Value.{Value}
use Rattle.ls_events.specs.declared.action.Action.{Action}
use Rattle.ls_events.specs.declared.action.Action.TheVariants as act
use Rattle.ls_checked.specs.declared.tree.Called.{Called}
use Rattle.ls_checked.specs.declared.tree.Called.TheVariants.{Method as OfMethod, LockIt, HoldMonitor, FreeMonitor}
use Rattle.ls_checked.specs.CheckedTree.{Class, Expression, Literal, Slot, Field, Item, Negate, Not, Binary, And, Or}
use Rattle.ls_checked.specs.CheckedTree.{Call, MakeObject, MakeLock, MakeMarkable, MakeArray, Expressions, End, More}
use Rattle.ls_checked.specs.CheckedTree.{Statement, Block, SetSlot, SetField, AddField, SetItem, Evaluate, If, While}
use Rattle.ls_checked.specs.CheckedTree.{Break, Continue, ReturnNothing, ReturnValue, Try, Statements, Done, Then}
use Rattle.ls_checked.specs.CheckedTree.{Method, File}
use Rattle.ls_meaning.specs.Expressions.{constructor_of}

-- an action of a body: it waits for no lock, and is none of a monitor, no setup name, no event
abbrev pub IsInner : Action Value → Type 0
IsInner (act.Lock o) = ⊥
IsInner (act.LockMonitor o) = ⊥
IsInner (act.UnlockMonitor o) = ⊥
IsInner (act.ReadName n) = ⊥
IsInner (act.WriteName n v) = ⊥
IsInner (act.Call n) = ⊥
IsInner (act.Return n v) = ⊥
IsInner (act.Trap n kind) = ⊥
IsInner _ = Unit {0}

-- some methods, and the classes of a file
module _ (Helps : ℕ → Type 0) (classes : List Class) where
  -- one of the methods is called, or what neither waits nor is of a monitor
  abbrev pub MayCall : Called → Type 0
  MayCall (OfMethod m) = Helps m
  MayCall LockIt = ⊥
  MayCall (HoldMonitor c) = ⊥
  MayCall (FreeMonitor c) = ⊥
  MayCall _ = Unit {0}

  abbrev mutual
    -- an expression that locks nothing and calls helpers alone
    pub IsPlain : Expression → Type 0
    IsPlain (Literal v) = Unit {0}
    IsPlain (Slot n) = Unit {0}
    IsPlain (Field e c f) = IsPlain e
    IsPlain (Item a i) = IsPlain a × IsPlain i
    IsPlain (Negate e) = IsPlain e
    IsPlain (Not e) = IsPlain e
    IsPlain (Binary op a b) = IsPlain a × IsPlain b
    IsPlain (And a b) = IsPlain a × IsPlain b
    IsPlain (Or a b) = IsPlain a × IsPlain b
    IsPlain (Call e called es) = IsPlain e × MayCall called × ArePlain es
    IsPlain (MakeObject c es) = Helps (constructor_of classes c) × ArePlain es
    IsPlain MakeLock = Unit {0}
    IsPlain (MakeMarkable c es) = ArePlain es
    IsPlain (MakeArray e) = IsPlain e

    -- of expressions
    pub ArePlain : Expressions → Type 0
    ArePlain End = Unit {0}
    ArePlain (More e es) = IsPlain e × ArePlain es

  -- and one slot is never assigned
  module _ (slot : ℕ) where
    abbrev mutual
      -- of a statement, which never assigns the slot either
      pub RunsPlain : Statement → Type 0
      RunsPlain (Block ss) = RunPlain ss
      RunsPlain (SetSlot n e) = (slot ≢ n) × IsPlain e
      RunsPlain (SetField e f v) = IsPlain e × IsPlain v
      RunsPlain (AddField e f v) = IsPlain e × IsPlain v
      RunsPlain (SetItem a i v) = IsPlain a × IsPlain i × IsPlain v
      RunsPlain (Evaluate e) = IsPlain e
      RunsPlain (If e a b) = IsPlain e × RunsPlain a × RunsPlain b
      RunsPlain (While e s) = IsPlain e × RunsPlain s
      RunsPlain (Break n) = Unit {0}
      RunsPlain (Continue n) = Unit {0}
      RunsPlain ReturnNothing = Unit {0}
      RunsPlain (ReturnValue e) = IsPlain e
      RunsPlain (Try b f) = RunsPlain b × RunsPlain f

      -- of statements
      pub RunPlain : Statements → Type 0
      RunPlain Done = Unit {0}
      RunPlain (Then s ss) = RunsPlain s × RunPlain ss

-- each of the methods is plain: it holds no monitor, and calls only such methods
abbrev pub AreHelpers : (ℕ → Type 0) → File → Type 0
AreHelpers Helps file = (m : ℕ) (method : Method) → Helps m → slice_get file.methods m ≡ Some method →
    (slot : ℕ) × RunsPlain Helps file.classes slot method.body

-- The body of a synchronized method (JLS 8.4.3.6): `this` goes into a slot, its monitor is locked, and it is unlocked
-- however the body completes.
abbrev pub synchronized_body : ℕ → ℕ → Statement → Statement
synchronized_body slot class inner =
    Block (Then (Block (
    Then (SetSlot slot (Slot 0)) (
    Then (Evaluate (Call (Slot slot) (HoldMonitor class) End)) (
    Then (Try inner (Evaluate (Call (Slot slot) (FreeMonitor class) End)))
    Done)))) Done)

-- a synchronized method whose body holds no other monitor
pub record IsSynchronized (Helps : ℕ → Type 0) (file : File) (m : ℕ) : Type 0 where
  pub method : Method
  pub slot : ℕ
  pub class : ℕ
  pub inner : Statement
  pub there : slice_get file.methods m ≡ Some method
  pub is : method.body ≡ synchronized_body slot class inner
  pub within : slot < length method.slots
  pub plain : RunsPlain Helps file.classes slot inner
