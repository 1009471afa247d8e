-- How much pending work there is: what each expression, statement and frame counts for.
use Rattle.std.proofs.Common.{ℕ, ◌+◌, ◌<◌, ◌≤◌, Bool, true, false, cond, List, [], ◌∷◌, Option, Some, None, arith}
use Rattle.std.specs.Prelude.{slice_get}
use Rattle.ls_checked.specs.CheckedTree.{Method, File, Expression, Literal, Slot, Field, Item, Negate, Not, Binary}
use Rattle.ls_checked.specs.CheckedTree.{And, Or, Call, MakeObject, MakeLock, MakeMarkable, MakeArray, Expressions}
use Rattle.ls_checked.specs.CheckedTree.{End, More, Statement, Block, SetSlot, SetField, AddField, SetItem, Evaluate}
use Rattle.ls_checked.specs.CheckedTree.{If, While, Break, Continue, ReturnNothing, ReturnValue, Try, Statements}
use Rattle.ls_checked.specs.CheckedTree.{Done, Then}
use Rattle.ls_source_pending.specs.Pending.{Operand, InField, InItem, InIndex, InNegate, InNot, InLength, InLeft}
use Rattle.ls_source_pending.specs.Pending.{InRight, InAnd, InOr, InTarget, InArgument, InMade, InConstructor}
use Rattle.ls_source_pending.specs.Pending.{InReference, InMark, InBoth, InWritten, Waiting, ToSlot, ToTarget}
use Rattle.ls_source_pending.specs.Pending.{ToField, ToCounter, ToAddend, ToSum, ToArray, ToIndex, ToItem, ToNothing}
use Rattle.ls_source_pending.specs.Pending.{ToIf, ToTest, ToReturn, Ending, OfSequence, OfBody, OfTry, OfFinally}
use Rattle.ls_source_pending.specs.Pending.{Frame, In, On, Up, Leaves, Control, Evaluates, Argues, Invokes, Opens}
use Rattle.ls_source_pending.specs.Pending.{Executes, Loops, Gives, Ends, Asks, Enters, Turns, State}

abbrev mutual
  pub weight : Expression → ℕ
  weight (Literal v) = 2
  weight (Slot n) = 2
  weight (Field e c f) = weight e + 2
  weight (Item a b) = weight a + weight b + 2
  weight (Negate e) = weight e + 2
  weight (Not e) = weight e + 2
  weight (Binary op a b) = weight a + weight b + 2
  weight (And a b) = weight a + weight b + 2
  weight (Or a b) = weight a + weight b + 2
  weight (Call e m es) = weight e + weight_all es + 2
  weight (MakeObject c es) = weight_all es + 4
  weight MakeLock = 2
  weight (MakeMarkable c es) = weight_all es + 2
  weight (MakeArray e) = weight e + 2

  pub weight_all : Expressions → ℕ
  weight_all End = 5
  weight_all (More e es) = weight e + weight_all es + 1

abbrev mutual
  pub heaviness : Statement → ℕ
  heaviness (Block ss) = heaviness_all ss + 1
  heaviness (SetSlot n e) = weight e + 2
  heaviness (SetField a f b) = weight a + weight b + 3
  heaviness (AddField a f b) = weight a + weight b + 4
  heaviness (SetItem a b c) = weight a + weight b + weight c + 3
  heaviness (Evaluate e) = weight e + 2
  heaviness (If e a b) = weight e + heaviness a + heaviness b + 1
  heaviness (While e s) = weight e + heaviness s + 3
  heaviness (Break n) = 2
  heaviness (Continue n) = 2
  heaviness ReturnNothing = 2
  heaviness (ReturnValue e) = weight e + 2
  heaviness (Try a b) = heaviness a + heaviness b + 2

  pub heaviness_all : Statements → ℕ
  heaviness_all Done = 2
  heaviness_all (Then s ss) = heaviness s + heaviness_all ss + 1

abbrev pub operand_load : Operand → ℕ
operand_load (InField c f) = 1
operand_load (InItem i) = weight i + 1
operand_load (InIndex o) = 1
operand_load InNegate = 1
operand_load InNot = 1
operand_load InLength = 1
operand_load (InLeft op b) = weight b + 1
operand_load (InRight op x) = 1
operand_load (InAnd b) = weight b + 1
operand_load (InOr b) = weight b + 1
operand_load (InTarget m es) = weight_all es + 1
operand_load (InArgument p before es) = weight_all es + 1
operand_load (InMade c es) = weight_all es + 1
operand_load (InConstructor o) = 1
operand_load InReference = 1
operand_load InMark = 1
operand_load (InBoth array) = 2
operand_load (InWritten pair) = 1

abbrev pub waiting_load : Waiting → ℕ
waiting_load (ToSlot n) = 1
waiting_load (ToTarget f e) = weight e + 2
waiting_load (ToField o f) = 2
waiting_load (ToCounter f e) = weight e + 3
waiting_load (ToAddend o f e) = weight e + 2
waiting_load (ToSum o f x) = 2
waiting_load (ToArray i e) = weight i + weight e + 2
waiting_load (ToIndex o e) = weight e + 2
waiting_load (ToItem o n) = 2
waiting_load ToNothing = 1
waiting_load (ToIf a b) = heaviness a + heaviness b
waiting_load (ToTest e s) = heaviness s + 1
waiting_load ToReturn = 1

abbrev pub ending_load : Ending → ℕ
ending_load (OfSequence ss) = heaviness_all ss
ending_load (OfBody e s) = 1
ending_load (OfTry f) = heaviness f + 1
ending_load (OfFinally reason) = 1

abbrev pub frame_load : Frame → ℕ
frame_load (In f) = operand_load f
frame_load (On f) = waiting_load f
frame_load (Up f) = ending_load f
frame_load (Leaves result saved outer) = 1

abbrev pub body_load : Option Method → ℕ
body_load None = 2
body_load (Some m) = heaviness m.body + 2

abbrev pub control_load : File → Control → ℕ
control_load file (Evaluates e) = weight e
control_load file (Argues p vs es) = weight_all es + 1
control_load file (Invokes m vs) = 2
control_load file (Opens m vs) = body_load (slice_get file.methods m)
control_load file (Executes s) = heaviness s
control_load file (Loops e s) = weight e + heaviness s + 3
control_load file (Gives v) = 1
control_load file (Ends c) = 1
control_load file (Asks a s) = 1
control_load file (Enters m vs) = 1
control_load file (Turns e s) = 1

abbrev pub load : List Frame → ℕ
load [] = 0
load (f ∷ fs) = frame_load f + load fs

-- how much a state has to do before it asks or ends
abbrev pub burden : File → State → ℕ
burden file s = control_load file s.control + load s.frames

pub two : (e : Expression) → 2 ≤ weight e
two (Literal v) = omega arith
two (Slot n) = omega arith
two (Field e c f) = omega arith
two (Item a b) = omega arith
two (Negate e) = omega arith
two (Not e) = omega arith
two (Binary op a b) = omega arith
two (And a b) = omega arith
two (Or a b) = omega arith
two (Call e m es) = omega arith
two (MakeObject c es) = omega arith
two MakeLock = omega arith
two (MakeMarkable c es) = omega arith
two (MakeArray e) = omega arith

two_all : (es : Expressions) → 2 ≤ weight_all es
two_all End = omega arith
two_all (More e es) = omega (arith, two e)

pub some_statements : (ss : Statements) → 2 ≤ heaviness_all ss
some_statements Done = omega arith
some_statements (Then s ss) = omega (arith, some_statements ss)

some_statement : (s : Statement) → 2 ≤ heaviness s
some_statement (Block ss) = omega (arith, some_statements ss)
some_statement (SetSlot n e) = omega arith
some_statement (SetField a f b) = omega arith
some_statement (AddField a f b) = omega arith
some_statement (SetItem a b c) = omega arith
some_statement (Evaluate e) = omega arith
some_statement (If e a b) = omega (arith, two e)
some_statement (While e s) = omega arith
some_statement (Break n) = omega arith
some_statement (Continue n) = omega arith
some_statement ReturnNothing = omega arith
some_statement (ReturnValue e) = omega arith
some_statement (Try a b) = omega arith

pub operand_loads : (f : Operand) → 1 ≤ operand_load f
operand_loads (InField c f) = omega arith
operand_loads (InItem i) = omega arith
operand_loads (InIndex o) = omega arith
operand_loads InNegate = omega arith
operand_loads InNot = omega arith
operand_loads InLength = omega arith
operand_loads (InLeft op b) = omega arith
operand_loads (InRight op x) = omega arith
operand_loads (InAnd b) = omega arith
operand_loads (InOr b) = omega arith
operand_loads (InTarget m es) = omega arith
operand_loads (InArgument p before es) = omega arith
operand_loads (InMade c es) = omega arith
operand_loads (InConstructor o) = omega arith
operand_loads InReference = omega arith
operand_loads InMark = omega arith
operand_loads (InBoth array) = omega arith
operand_loads (InWritten pair) = omega arith

pub waiting_loads : (f : Waiting) → 1 ≤ waiting_load f
waiting_loads (ToSlot n) = omega arith
waiting_loads (ToTarget f e) = omega arith
waiting_loads (ToField o f) = omega arith
waiting_loads (ToCounter f e) = omega arith
waiting_loads (ToAddend o f e) = omega arith
waiting_loads (ToSum o f x) = omega arith
waiting_loads (ToArray i e) = omega arith
waiting_loads (ToIndex o e) = omega arith
waiting_loads (ToItem o n) = omega arith
waiting_loads ToNothing = omega arith
waiting_loads (ToIf a b) = omega (arith, some_statement a)
waiting_loads (ToTest e s) = omega arith
waiting_loads ToReturn = omega arith

pub ending_loads : (f : Ending) → 1 ≤ ending_load f
ending_loads (OfSequence ss) = omega (arith, some_statements ss)
ending_loads (OfBody e s) = omega arith
ending_loads (OfTry f) = omega arith
ending_loads (OfFinally reason) = omega arith

pub branch_less : (b : Bool) (x y : Statement) → heaviness (cond b x y) < 1 + heaviness x + heaviness y
branch_less true x y = omega arith
branch_less false x y = omega arith
