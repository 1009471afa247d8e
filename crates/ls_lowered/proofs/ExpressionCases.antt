-- One small case of each form of expression, evaluated.
use Rattle.std.proofs.Common.{◌≡◌, ℕ, ◌+◌, List, [], ◌∷◌, refl}
use Rattle.std.specs.Prelude.{pos, negsuc, true}
use Rattle.ls_events.specs.declared.kind.Kind.TheVariants.{Arithmetic, NullPointer, NegativeArraySize}
use Rattle.ls_events.specs.declared.kind.Kind.TheVariants.{ArrayIndexOutOfBounds}
use Rattle.ls_events.specs.declared.action.Action.TheVariants as act
use Rattle.ls_events.specs.declared.action.Answer.TheVariants as answer
use Rattle.ls_lowered.specs.declared.tree.UnaryOperator.TheVariants.{Negate, Not, ReferenceOf, MarkOf}
use Rattle.ls_lowered.specs.declared.tree.BinaryOperator.TheVariants as op
use Rattle.ls_lowered.specs.declared.tree.LockOperation.TheVariants as lock
use Rattle.ls_lowered.specs.LoweredTree.{Expression, Word, Local, Unary, Binary, And, Or, Hold, Keep, After, Field}
use Rattle.ls_lowered.specs.LoweredTree.{Item, SetFirst, ReadPair, SetPair, SwapPair, AttemptMark, OnLock, Call}
use Rattle.ls_lowered.specs.LoweredTree.{MakeObject, MakeLock, MakeMarkable, MakeArray, End, More}
use Rattle.ls_lowered.specs.Course.{Answers, Course, Asks, Ends, Outcome, Results, Throws, Told, Gave, Raised}
use Rattle.ls_lowered.specs.Expressions.{evaluate}

-- a method answers the number of its arguments, 0 traps
abbrev calls : ℕ → List ℕ → Answers → Told
calls m [] q = Gave 0 q
calls m (x ∷ []) q = Gave (m + 1) q
calls m (x ∷ y ∷ ws) q = Raised Arithmetic q

abbrev at : Expression → Answers → Course (Outcome ℕ)
at e q = evaluate calls e (7 ∷ 0 ∷ 4 ∷ []) q

abbrev is : ℕ → Course (Outcome ℕ)
is w = Ends (Results w) (7 ∷ 0 ∷ 4 ∷ []) []

-- -1 and the least int
abbrev minus_one : Expression
minus_one = Unary Negate (Word 1)

abbrev least : Expression
least = Word 2147483648

word : at (Word 5) [] ≡ is 5
word = refl

local : at (Local 2) [] ≡ is 4
local = refl

negative : at minus_one [] ≡ is 4294967295
negative = refl

least_negative : at (Unary Negate least) [] ≡ is 2147483648
least_negative = refl

complement : at (Unary Not (Word 1)) [] ≡ is 0
complement = refl

reference_of_pair : at (Unary ReferenceOf (Word 11)) [] ≡ is 5
reference_of_pair = refl

mark_of_pair : at (Unary MarkOf (Word 11)) [] ≡ is 1
mark_of_pair = refl

sum_wraps : at (Binary op.Add minus_one (Word 2)) [] ≡ is 1
sum_wraps = refl

difference_wraps : at (Binary op.Subtract (Word 0) (Word 1)) [] ≡ is 4294967295
difference_wraps = refl

product_wraps : at (Binary op.Multiply least (Word 2)) [] ≡ is 0
product_wraps = refl

-- division goes toward zero, and a remainder has the dividend's sign
quotient : at (Binary op.Divide (Unary Negate (Word 7)) (Word 2)) [] ≡ is 4294967293
quotient = refl

quotient_of_least : at (Binary op.Divide least minus_one) [] ≡ is 2147483648
quotient_of_least = refl

remainder : at (Binary op.Remainder (Unary Negate (Word 7)) (Word 2)) [] ≡ is 4294967295
remainder = refl

remainder_of_least : at (Binary op.Remainder least minus_one) [] ≡ is 0
remainder_of_least = refl

by_zero : at (Binary op.Divide (Word 1) (Word 0)) [] ≡ Ends (Throws Arithmetic) (7 ∷ 0 ∷ 4 ∷ []) []
by_zero = refl

less : at (Binary op.Less minus_one (Word 0)) [] ≡ is 1
less = refl

at_most : at (Binary op.LessEqual (Word 3) (Word 3)) [] ≡ is 1
at_most = refl

greater : at (Binary op.Greater (Word 3) (Word 3)) [] ≡ is 0
greater = refl

at_least : at (Binary op.GreaterEqual (Word 3) least) [] ≡ is 1
at_least = refl

equal : at (Binary op.Equal (Word 3) (Word 3)) [] ≡ is 1
equal = refl

not_equal : at (Binary op.NotEqual (Word 3) (Word 3)) [] ≡ is 0
not_equal = refl

packed : at (Binary op.Pack (Word 5) (Word 1)) [] ≡ is 11
packed = refl

-- the second operand isn't evaluated if the first decides
and_left : at (And (Word 0) MakeLock) [] ≡ is 0
and_left = refl

and_right : at (And (Word 1) (Word 1)) [] ≡ is 1
and_right = refl

or_left : at (Or (Word 1) MakeLock) [] ≡ is 1
or_left = refl

or_right : at (Or (Word 0) MakeLock) [] ≡ Asks act.NewLock
or_right = refl

-- the word on the left stays while the local is set
held : at (Hold (Local 1) 1 (Word 9)) [] ≡ Ends (Results 0) (7 ∷ 9 ∷ 4 ∷ []) []
held = refl

kept : at (Keep 1 (Word 9) (Local 1)) [] ≡ Ends (Results 9) (7 ∷ 9 ∷ 4 ∷ []) []
kept = refl

after : at (After MakeLock (Word 3)) (answer.Gives 8 ∷ []) ≡ is 3
after = refl

field : at (Field (Local 0) 2) [] ≡ Asks (act.ReadField 7 3)
field = refl

field_of_null : at (Field (Local 1) 2) [] ≡ Ends (Throws NullPointer) (7 ∷ 0 ∷ 4 ∷ []) []
field_of_null = refl

item : at (Item (Local 0) (Unary Negate (Word 1))) [] ≡ Asks (act.ReadItem 7 (negsuc 0))
item = refl

-- the index comes before the test for null
item_of_null : at (Item (Local 1) MakeLock) [] ≡ Asks act.NewLock
item_of_null = refl

first_set : at (SetFirst (Local 0) (Word 1)) [] ≡ Asks (act.WriteItem 7 (pos 0) 1)
first_set = refl

first_set_fails : at (SetFirst (Local 0) (Word 1)) (answer.Fails ArrayIndexOutOfBounds ∷ []) ≡ Ends
    (Throws ArrayIndexOutOfBounds) (7 ∷ 0 ∷ 4 ∷ []) []
first_set_fails = refl

-- a write gives no word
first_set_done : at (SetFirst (Local 0) (Word 1)) (answer.Gives 6 ∷ []) ≡ is 0
first_set_done = refl

pair_read : at (ReadPair (Local 0)) [] ≡ Asks (act.ReadPair 7)
pair_read = refl

pair_set : at (SetPair (Local 0) (Word 11)) [] ≡ Asks (act.SetPair 7 11)
pair_set = refl

pair_swapped : at (SwapPair (Local 0) (Word 10) (Word 11)) [] ≡ Asks (act.SwapPair 7 10 11)
pair_swapped = refl

swap_at_null : at (SwapPair (Local 1) (Word 10) MakeLock) [] ≡ Asks act.NewLock
swap_at_null = refl

mark_attempted : at (AttemptMark (Local 0) (Word 5) (Word 1)) [] ≡ Asks (act.AttemptMark 7 5 true)
mark_attempted = refl

locked : at (OnLock lock.Lock (Local 0)) [] ≡ Asks (act.Lock 7)
locked = refl

unlocked : at (OnLock lock.Unlock (Local 0)) [] ≡ Asks (act.Unlock 7)
unlocked = refl

tried : at (OnLock lock.TryLock (Local 0)) (answer.Gives 1 ∷ []) ≡ is 1
tried = refl

held_by_null : at (OnLock lock.IsHeld (Local 1)) [] ≡ Ends (Throws NullPointer) (7 ∷ 0 ∷ 4 ∷ []) []
held_by_null = refl

called : at (Call 4 (Local 0) End) [] ≡ is 5
called = refl

call_traps : at (Call 4 (Local 0) (More (Word 1) End)) [] ≡ Ends (Throws Arithmetic) (7 ∷ 0 ∷ 4 ∷ []) []
call_traps = refl

-- the arguments come before the test for null
call_on_null : at (Call 4 (Local 1) (More MakeLock End)) [] ≡ Asks act.NewLock
call_on_null = refl

-- the object is made before the arguments, and is the result
made : at (MakeObject 3 4 (More MakeLock End)) [] ≡ Asks (act.New 3)
made = refl

made_then : at (MakeObject 3 4 End) (answer.Gives 8 ∷ []) ≡ is 8
made_then = refl

lock_made : at MakeLock (answer.Gives 8 ∷ []) ≡ is 8
lock_made = refl

markable_made : at (MakeMarkable (Word 11)) [] ≡ Asks (act.NewMarkable 11)
markable_made = refl

array_made : at (MakeArray (Word 3)) [] ≡ Asks (act.NewArray (pos 3))
array_made = refl

array_of_less : at (MakeArray minus_one) [] ≡ Ends (Throws NegativeArraySize) (7 ∷ 0 ∷ 4 ∷ []) []
array_of_less = refl
