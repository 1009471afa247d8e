-- Files and programs whose constants name no object.
use Rattle.std.specs.Prelude.{◌≡◌, ℕ, List, [], ◌∷◌, Some, slice_get}
use Rattle.ls_events.specs.declared.value.Value.{Value}
use Rattle.ls_events.specs.declared.value.Value.TheVariants.{Int, Boolean, Reference, Pair}
use Rattle.ls_checked.specs.CheckedTree.{Expression, Literal, Slot, Field, Item, Negate, Not, Binary, And, Or, Call}
use Rattle.ls_checked.specs.CheckedTree.{MakeObject, MakeLock, MakeMarkable, MakeArray, Expressions, End, More}
use Rattle.ls_checked.specs.CheckedTree.{Statement, Block, SetSlot, SetField, AddField, SetItem, Evaluate, If, While}
use Rattle.ls_checked.specs.CheckedTree.{Break, Continue, ReturnNothing, ReturnValue, Try, Statements, Done, Then}
use Rattle.ls_checked.specs.CheckedTree.{Method, File}
use Rattle.ls_checked.specs.CheckedProgram.{Program, ThreadProgram, ProgramCall, Making, Calling}

-- an int, a boolean or null (JLS 15.8.1)
abbrev pub IsConstant : Value → Type 0
IsConstant (Int z) = Unit {0}
IsConstant (Boolean b) = Unit {0}
IsConstant (Reference n) = n ≡ 0
IsConstant (Pair n m) = ⊥

abbrev mutual
  pub HasConstants : Expression → Type 0
  HasConstants (Literal v) = IsConstant v
  HasConstants (Slot n) = Unit {0}
  HasConstants (Field e c f) = HasConstants e
  HasConstants (Item a i) = HasConstants a × HasConstants i
  HasConstants (Negate e) = HasConstants e
  HasConstants (Not e) = HasConstants e
  HasConstants (Binary op a b) = HasConstants a × HasConstants b
  HasConstants (And a b) = HasConstants a × HasConstants b
  HasConstants (Or a b) = HasConstants a × HasConstants b
  HasConstants (Call e m es) = HasConstants e × HaveConstants es
  HasConstants (MakeObject c es) = HaveConstants es
  HasConstants MakeLock = Unit {0}
  HasConstants (MakeMarkable c es) = HaveConstants es
  HasConstants (MakeArray e) = HasConstants e

  pub HaveConstants : Expressions → Type 0
  HaveConstants End = Unit {0}
  HaveConstants (More e es) = HasConstants e × HaveConstants es

abbrev mutual
  pub UsesConstants : Statement → Type 0
  UsesConstants (Block ss) = UseConstants ss
  UsesConstants (SetSlot n e) = HasConstants e
  UsesConstants (SetField e f v) = HasConstants e × HasConstants v
  UsesConstants (AddField e f v) = HasConstants e × HasConstants v
  UsesConstants (SetItem a i v) = HasConstants a × HasConstants i × HasConstants v
  UsesConstants (Evaluate e) = HasConstants e
  UsesConstants (If e a b) = HasConstants e × UsesConstants a × UsesConstants b
  UsesConstants (While e s) = HasConstants e × UsesConstants s
  UsesConstants (Break n) = Unit {0}
  UsesConstants (Continue n) = Unit {0}
  UsesConstants ReturnNothing = Unit {0}
  UsesConstants (ReturnValue e) = HasConstants e
  UsesConstants (Try b f) = UsesConstants b × UsesConstants f

  pub UseConstants : Statements → Type 0
  UseConstants Done = Unit {0}
  UseConstants (Then s ss) = UsesConstants s × UseConstants ss

abbrev pub FileHasConstants : File → Type 0
FileHasConstants file = (n : ℕ) (m : Method) → slice_get file.methods n ≡ Some m → UsesConstants m.body

abbrev pub AllConstant : List Value → Type 0
AllConstant [] = Unit {0}
AllConstant (v ∷ vs) = IsConstant v × AllConstant vs

abbrev pub CallHasConstants : ProgramCall → Type 0
CallHasConstants (Making name c text values) = AllConstant values
CallHasConstants (Calling name m text result values) = AllConstant values

abbrev pub CallsHaveConstants : List ProgramCall → Type 0
CallsHaveConstants [] = Unit {0}
CallsHaveConstants (c ∷ cs) = CallHasConstants c × CallsHaveConstants cs

abbrev pub ProgramHasConstants : Program → Type 0
ProgramHasConstants program = (n : ℕ) (t : ThreadProgram) → slice_get program.threads n ≡ Some t →
    CallsHaveConstants t.calls
