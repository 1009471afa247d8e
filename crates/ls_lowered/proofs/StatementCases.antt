-- Small cases of each form of statement, and of calls, evaluated.
use Rattle.std.proofs.Common.{◌≡◌, ℕ, List, [], ◌∷◌, refl}
use Rattle.std.specs.Prelude.{pos}
use Rattle.ls_events.specs.declared.kind.Kind.TheVariants.{Arithmetic, NullPointer, StackOverflow}
use Rattle.ls_events.specs.declared.action.Action.TheVariants as act
use Rattle.ls_events.specs.declared.action.Answer.TheVariants as answer
use Rattle.ls_lowered.specs.declared.tree.BinaryOperator.TheVariants as op
use Rattle.ls_lowered.specs.LoweredTree.{Word, Local, Binary, Call, End, MakeLock, Statement, Block, SetLocal, SetField}
use Rattle.ls_lowered.specs.LoweredTree.{AddField, SetItem, Evaluate, If, While, Return, Try, Guarded, Throw, Leavable}
use Rattle.ls_lowered.specs.LoweredTree.{Leave, Statements, Done, Then, Method}
use Rattle.ls_lowered.specs.Course.{Answers, Course, Asks, Ends, Stuck, Told, Asked, Gave, Raised, Lost}
use Rattle.ls_lowered.specs.Statements.{Completion, Normal, Returned, Threw, Left, execute}
use Rattle.ls_lowered.specs.Methods.{invoke}

abbrev calls : ℕ → List ℕ → Answers → Told
calls m ws q = Gave 0 q

abbrev at : Statement → Answers → Course Completion
at s q = execute calls s (7 ∷ 0 ∷ 4 ∷ []) q

-- completes so with these locals and no answers left
abbrev ends : Completion → ℕ → ℕ → Course Completion
ends c x y = Ends c (7 ∷ x ∷ y ∷ []) []

abbrev both : Statement → Statement → Statement
both a b = Block (Then a (Then b Done))

-- throws ArithmeticException
abbrev division : Statement
division = Evaluate (Binary op.Divide (Word 1) (Word 0))

block : at (both (SetLocal 1 (Word 5)) (SetLocal 2 (Local 1))) [] ≡ ends Normal 5 5
block = refl

block_left : at (both (Leave 2) (SetLocal 2 (Local 1))) [] ≡ ends (Left 2) 0 4
block_left = refl

field_set : at (SetField (Local 0) 3 (Word 5)) [] ≡ Asks (act.WriteField 7 4 5)
field_set = refl

-- the value comes before the test for null
field_of_null : at (SetField (Local 1) 3 MakeLock) [] ≡ Asks act.NewLock
field_of_null = refl

field_added_to : at (AddField (Local 0) 3 (Word 5)) [] ≡ Asks (act.ReadField 7 4)
field_added_to = refl

field_and_sum : at (AddField (Local 0) 3 (Word 5)) (answer.Gives 4294967294 ∷ []) ≡ Asks (act.WriteField 7 4 3)
field_and_sum = refl

-- the test for null comes before the value
none_added_to : at (AddField (Local 1) 3 MakeLock) [] ≡ ends (Threw NullPointer) 0 4
none_added_to = refl

item_set : at (SetItem (Local 0) (Word 3) (Word 1)) [] ≡ Asks (act.WriteItem 7 (pos 3) 1)
item_set = refl

item_of_null : at (SetItem (Local 1) (Word 3) (Word 1)) [] ≡ ends (Threw NullPointer) 0 4
item_of_null = refl

evaluated : at (Evaluate MakeLock) (answer.Gives 3 ∷ []) ≡ ends Normal 0 4
evaluated = refl

thrown : at division [] ≡ ends (Threw Arithmetic) 0 4
thrown = refl

first_branch : at (If (Word 1) (SetLocal 1 (Word 1)) (SetLocal 1 (Word 2))) [] ≡ ends Normal 1 4
first_branch = refl

second_branch : at (If (Word 0) (SetLocal 1 (Word 1)) (SetLocal 1 (Word 2))) [] ≡ ends Normal 2 4
second_branch = refl

-- a turn at the end of a body
loop_turns : at (While (Word 1) (Block Done)) [] ≡ Asks act.Turn
loop_turns = refl

-- a leave of a body with no exits ends the body: so a loop goes on, or ends, by a leave
loop_goes_on : at (While (Word 1) (Leavable (both (Leave 0) division) Done)) (answer.Done ∷ []) ≡ Asks act.Turn
loop_goes_on = refl

loop_ends : at (While (Binary op.Less (Local 1) (Word 2)) (SetLocal 1 (Binary op.Add (Local 1) (Word 1))))
    (answer.Done ∷ answer.Done ∷ []) ≡ ends Normal 2 4
loop_ends = refl

loop_ended : at (Leavable (While (Word 1) (Leavable (Leave 1) Done)) Done) [] ≡ ends Normal 0 4
loop_ended = refl

loop_left : at (While (Word 1) (Leave 1)) [] ≡ ends (Left 1) 0 4
loop_left = refl

given_back : at (Return (Local 2)) [] ≡ ends (Returned 4) 0 4
given_back = refl

-- the value is computed before the finally block
try_returns : at (Try (Return (Local 2)) (SetLocal 2 (Word 9))) [] ≡ ends (Returned 4) 0 9
try_returns = refl

try_throws : at (Try division (SetLocal 2 (Word 9))) [] ≡ ends (Threw Arithmetic) 0 9
try_throws = refl

finally_returns : at (Try division (Return (Word 3))) [] ≡ ends (Returned 3) 0 4
finally_returns = refl

finally_throws : at (Try (Leave 0) division) [] ≡ ends (Threw Arithmetic) 0 4
finally_throws = refl

-- the handler has the locals of the throw, and the kind
guarded : at (Guarded (both (SetLocal 2 (Word 9)) division) 1 (Block Done)) [] ≡ ends Normal 1 9
guarded = refl

guarded_passes : at (Guarded (Leave 1) 1 division) [] ≡ ends (Left 1) 0 4
guarded_passes = refl

thrown_on : at (Guarded division 1 (Throw 1)) [] ≡ ends (Threw Arithmetic) 1 4
thrown_on = refl

no_kind : at (Throw 1) [] ≡ Stuck
no_kind = refl

-- two exits
abbrev exits : Statements
exits = Then (SetLocal 1 (Word 5)) (Then (SetLocal 2 (Word 6)) Done)

first_exit : at (Leavable (both (Leave 0) division) exits) [] ≡ ends Normal 5 4
first_exit = refl

second_exit : at (Leavable (both (Leave 1) division) exits) [] ≡ ends Normal 0 6
second_exit = refl

left_to_the_end : at (Leavable (both (Leave 2) division) exits) [] ≡ ends Normal 0 4
left_to_the_end = refl

left_further : at (Leavable (Leave 4) exits) [] ≡ ends (Left 1) 0 4
left_further = refl

leavable_passes : at (Leavable (SetLocal 1 (Word 5)) (Then division Done)) [] ≡ ends Normal 5 4
leavable_passes = refl

-- f(x) = x + 1, and g calls itself for ever
abbrev methods : List Method
methods = record { arguments = 2; locals = 1; body = Return (Binary op.Add (Local 1) (Word 1)) }
    ∷ record { arguments = 1; locals = 0; body = Evaluate (Call 1 (Local 0) End) }
    ∷ []

called : invoke methods 64 0 (7 ∷ 41 ∷ []) [] ≡ Asked (act.Enter 0)
unfolding invoke
called = refl

answered : invoke methods 64 0 (7 ∷ 41 ∷ []) (answer.Done ∷ answer.Done ∷ []) ≡ Gave 42 (answer.Done ∷ [])
unfolding invoke
answered = refl

overflows : invoke methods 2 1 (7 ∷ []) (answer.Done ∷ answer.Done ∷ answer.Done ∷ []) ≡ Raised StackOverflow
    (answer.Done ∷ [])
unfolding invoke
overflows = refl

unknown : invoke methods 2 5 (7 ∷ []) (answer.Done ∷ []) ≡ Lost
unfolding invoke
unknown = refl
