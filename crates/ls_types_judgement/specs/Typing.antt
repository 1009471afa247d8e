-- Typed trees: what each form asks of its parts. A checked file is typed.
use Rattle.std.specs.Prelude.{◌≡◌, ◌≤◌, ℕ, List, [], ◌∷◌, length, take, drop, Option, Some, None, slice_get}
use Rattle.ls_events.specs.declared.value.ValueType.{ValueType}
use Rattle.ls_events.specs.declared.value.ValueType.TheVariants as types
use Rattle.ls_checked.specs.declared.tree.Operator.{Operator}
use Rattle.ls_checked.specs.declared.tree.Operator.TheVariants.{Add, Subtract, Multiply, Divide, Remainder, Equal}
use Rattle.ls_checked.specs.declared.tree.Operator.TheVariants.{NotEqual}
use Rattle.ls_checked.specs.declared.tree.Called.TheVariants.{Method as OfMethod, LockIt, UnlockIt, TryIt, AskIt}
use Rattle.ls_checked.specs.declared.tree.Called.TheVariants.{HoldMonitor, FreeMonitor, GetReference, IsMarked, GetBoth}
use Rattle.ls_checked.specs.declared.tree.Called.TheVariants.{SetBoth, CompareAndSet, Attempt}
use Rattle.ls_checked.specs.CheckedTree.{Method, File, Expression, Literal, Slot, Field, Item, Negate, Not, Binary, And}
use Rattle.ls_checked.specs.CheckedTree.{Or, Call, MakeObject, MakeLock, MakeMarkable, MakeArray, Expressions, End}
use Rattle.ls_checked.specs.CheckedTree.{More, Statement, Block, SetSlot, SetField, AddField, SetItem, Evaluate, If}
use Rattle.ls_checked.specs.CheckedTree.{While, Break, Continue, ReturnNothing, ReturnValue, Try, Statements, Done}
use Rattle.ls_checked.specs.CheckedTree.{Then}
use Rattle.ls_meaning.specs.declared.sort.Sort.{Sort}
use Rattle.ls_meaning.specs.declared.sort.Sort.TheVariants.{NoValue, ValueOf}
use Rattle.ls_meaning.specs.Expressions.{field_of, constructor_of}
use Rattle.ls_types_judgement.specs.Sorts.{HasSort}

-- the type of an operator's answer, and that of its operands
abbrev pub result_type : Operator → ValueType
result_type Add = types.Int
result_type Subtract = types.Int
result_type Multiply = types.Int
result_type Divide = types.Int
result_type Remainder = types.Int
result_type _ = types.Boolean

abbrev pub IsOperand : Operator → ValueType → Type 0
IsOperand Equal t = Unit {0}
IsOperand NotEqual t = Unit {0}
IsOperand _ t = t ≡ types.Int

-- the sort of a method's answer
abbrev pub answer_sort : Option ValueType → Sort
answer_sort None = NoValue
answer_sort (Some t) = ValueOf t

-- the types of a method's parameters, without that of `this`
abbrev pub parameters_of : Method → List ValueType
parameters_of m = take m.parameters (drop 1 m.slots)

abbrev mutual
  -- an expression that has a sort; null has the sort of each reference
  pub IsTyped : File → List ValueType → Sort → Expression → Type 0
  IsTyped file slots s (Literal v) = HasSort (λ n t. n ≡ 0) s v
  IsTyped file slots s (Slot n) = (t : ValueType) × (s ≡ ValueOf t) × (slice_get slots n ≡ Some t)
  IsTyped file slots s (Field e c f) = (t : ValueType) × (s ≡ ValueOf t) × (field_of file.classes c f ≡ ValueOf t) ×
      IsTyped file slots (ValueOf (types.Class c)) e
  IsTyped file slots s (Item a i) = (s ≡ ValueOf types.Boolean) × IsTyped file slots (ValueOf types.BooleanArray) a ×
      IsTyped file slots (ValueOf types.Int) i
  IsTyped file slots s (Negate e) = (s ≡ ValueOf types.Int) × IsTyped file slots (ValueOf types.Int) e
  IsTyped file slots s (Not e) = (s ≡ ValueOf types.Boolean) × IsTyped file slots (ValueOf types.Boolean) e
  IsTyped file slots s (Binary op a b) =
      (t : ValueType) × (s ≡ ValueOf (result_type op)) × IsOperand op t × IsTyped file slots (ValueOf t) a ×
      IsTyped file slots (ValueOf t) b
  IsTyped file slots s (And a b) = (s ≡ ValueOf types.Boolean) × IsTyped file slots (ValueOf types.Boolean) a ×
      IsTyped file slots (ValueOf types.Boolean) b
  IsTyped file slots s (Or a b) = (s ≡ ValueOf types.Boolean) × IsTyped file slots (ValueOf types.Boolean) a ×
      IsTyped file slots (ValueOf types.Boolean) b
  IsTyped file slots s (Call e (OfMethod m) es) =
      (g : Method) × (slice_get file.methods m ≡ Some g) × (s ≡ answer_sort g.result) ×
      IsTyped file slots (ValueOf (types.Class g.class)) e × AreTyped file slots (parameters_of g) es
  IsTyped file slots s (Call e LockIt es) = (s ≡ NoValue) × IsTyped file slots (ValueOf types.Lock) e ×
      AreTyped file slots [] es
  IsTyped file slots s (Call e UnlockIt es) = (s ≡ NoValue) × IsTyped file slots (ValueOf types.Lock) e ×
      AreTyped file slots [] es
  IsTyped file slots s (Call e TryIt es) = (s ≡ ValueOf types.Boolean) × IsTyped file slots (ValueOf types.Lock) e ×
      AreTyped file slots [] es
  IsTyped file slots s (Call e AskIt es) = (s ≡ ValueOf types.Boolean) × IsTyped file slots (ValueOf types.Lock) e ×
      AreTyped file slots [] es
  IsTyped file slots s (Call e (HoldMonitor c) es) = (s ≡ NoValue) × IsTyped file slots (ValueOf (types.Class c)) e ×
      AreTyped file slots [] es
  IsTyped file slots s (Call e (FreeMonitor c) es) = (s ≡ NoValue) × IsTyped file slots (ValueOf (types.Class c)) e ×
      AreTyped file slots [] es
  IsTyped file slots s (Call e (GetReference c) es) =
      (s ≡ ValueOf (types.Class c)) × IsTyped file slots (ValueOf (types.Markable c)) e × AreTyped file slots [] es
  IsTyped file slots s (Call e (IsMarked c) es) =
      (s ≡ ValueOf types.Boolean) × IsTyped file slots (ValueOf (types.Markable c)) e × AreTyped file slots [] es
  IsTyped file slots s (Call e (GetBoth c) es) =
      (s ≡ ValueOf (types.Class c)) × IsTyped file slots (ValueOf (types.Markable c)) e ×
      AreTyped file slots (types.BooleanArray ∷ []) es
  IsTyped file slots s (Call e SetBoth es) =
      (c : ℕ) × (s ≡ NoValue) × IsTyped file slots (ValueOf (types.Markable c)) e ×
      AreTyped file slots (types.Class c ∷ types.Boolean ∷ []) es
  IsTyped file slots s (Call e CompareAndSet es) =
      (c : ℕ) × (s ≡ ValueOf types.Boolean) × IsTyped file slots (ValueOf (types.Markable c)) e
      × AreTyped file slots (types.Class c ∷ types.Class c ∷ types.Boolean ∷ types.Boolean ∷ []) es
  IsTyped file slots s (Call e Attempt es) =
      (c : ℕ) × (s ≡ ValueOf types.Boolean) × IsTyped file slots (ValueOf (types.Markable c)) e ×
      AreTyped file slots (types.Class c ∷ types.Boolean ∷ []) es
  IsTyped file slots s (MakeObject c es) =
      (g : Method) × (slice_get file.methods (constructor_of file.classes c) ≡ Some g) × (s ≡ ValueOf (types.Class c)) ×
      (g.class ≡ c) × AreTyped file slots (parameters_of g) es
  IsTyped file slots s MakeLock = s ≡ ValueOf types.Lock
  IsTyped file slots s (MakeMarkable c es) = (s ≡ ValueOf (types.Markable c)) ×
      AreTyped file slots (types.Class c ∷ types.Boolean ∷ []) es
  IsTyped file slots s (MakeArray e) = (s ≡ ValueOf types.BooleanArray) × IsTyped file slots (ValueOf types.Int) e

  pub AreTyped : File → List ValueType → List ValueType → Expressions → Type 0
  AreTyped file slots [] End = Unit {0}
  AreTyped file slots (t ∷ ts) (More e es) = IsTyped file slots (ValueOf t) e × AreTyped file slots ts es
  AreTyped file slots _ _ = ⊥

abbrev mutual
  -- a statement of a method that answers this
  pub IsTypedStatement : File → List ValueType → Option ValueType → Statement → Type 0
  IsTypedStatement file slots r (Block ss) = AreTypedStatements file slots r ss
  IsTypedStatement file slots r (SetSlot n e) = (t : ValueType) × (slice_get slots n ≡ Some t) ×
      IsTyped file slots (ValueOf t) e
  IsTypedStatement file slots r (SetField e f v) =
      (c : ℕ) × (t : ValueType) × (field_of file.classes c f ≡ ValueOf t) ×
      IsTyped file slots (ValueOf (types.Class c)) e × IsTyped file slots (ValueOf t) v
  IsTypedStatement file slots r (AddField e f v) =
      (c : ℕ) × (field_of file.classes c f ≡ ValueOf types.Int) × IsTyped file slots (ValueOf (types.Class c)) e ×
      IsTyped file slots (ValueOf types.Int) v
  IsTypedStatement file slots r (SetItem a i v) =
      IsTyped file slots (ValueOf types.BooleanArray) a × IsTyped file slots (ValueOf types.Int) i ×
      IsTyped file slots (ValueOf types.Boolean) v
  IsTypedStatement file slots r (Evaluate e) = (s : Sort) × IsTyped file slots s e
  IsTypedStatement file slots r (If e a b) = IsTyped file slots (ValueOf types.Boolean) e ×
      IsTypedStatement file slots r a × IsTypedStatement file slots r b
  IsTypedStatement file slots r (While e s) = IsTyped file slots (ValueOf types.Boolean) e ×
      IsTypedStatement file slots r s
  IsTypedStatement file slots r (Break n) = Unit {0}
  IsTypedStatement file slots r (Continue n) = Unit {0}
  IsTypedStatement file slots r ReturnNothing = r ≡ None
  IsTypedStatement file slots r (ReturnValue e) = (t : ValueType) × (r ≡ Some t) × IsTyped file slots (ValueOf t) e
  IsTypedStatement file slots r (Try b f) = IsTypedStatement file slots r b × IsTypedStatement file slots r f

  pub AreTypedStatements : File → List ValueType → Option ValueType → Statements → Type 0
  AreTypedStatements file slots r Done = Unit {0}
  AreTypedStatements file slots r (Then s ss) = IsTypedStatement file slots r s × AreTypedStatements file slots r ss

-- slot 0 is `this`; after it come the parameters
pub record IsTypedMethod (file : File) (m : Method) : Type 0 where
  pub locals : List ValueType
  pub this : m.slots ≡ types.Class m.class ∷ locals
  pub parameters : m.parameters ≤ length locals
  pub body : IsTypedStatement file m.slots m.result m.body

abbrev pub IsTypedFile : File → Type 0
IsTypedFile file = (n : ℕ) (m : Method) → slice_get file.methods n ≡ Some m → IsTypedMethod file m
