-- The lowered operator of a checked one, and the lowered tree of a call whose target and arguments are lowered. Its
-- temporaries are numbered from the first free local.
use Rattle.std.specs.Prelude.{ℕ, ◌+◌}
use Rattle.ls_checked.specs.declared.tree.Operator.{Operator}
use Rattle.ls_checked.specs.declared.tree.Operator.TheVariants as written
use Rattle.ls_checked.specs.declared.tree.Called.{Called}
use Rattle.ls_checked.specs.declared.tree.Called.TheVariants.{Method as OfMethod, LockIt, UnlockIt, TryIt, AskIt}
use Rattle.ls_checked.specs.declared.tree.Called.TheVariants.{HoldMonitor, FreeMonitor, GetReference, IsMarked, GetBoth}
use Rattle.ls_checked.specs.declared.tree.Called.TheVariants.{SetBoth, CompareAndSet, Attempt}
use Rattle.ls_lowered.specs.declared.tree.UnaryOperator.TheVariants as unary
use Rattle.ls_lowered.specs.declared.tree.BinaryOperator.{BinaryOperator}
use Rattle.ls_lowered.specs.declared.tree.BinaryOperator.TheVariants as binary
use Rattle.ls_lowered.specs.declared.tree.LockOperation.TheVariants as lock
use Rattle.ls_lowered.specs.LoweredTree.{Expression, Word, Local, Unary, Binary, Hold, Keep, After, SetFirst, ReadPair}
use Rattle.ls_lowered.specs.LoweredTree.{SetPair, SwapPair, AttemptMark, OnLock, Call, Expressions, End, More}

abbrev pub lowered_operator : Operator → BinaryOperator
lowered_operator written.Add = binary.Add
lowered_operator written.Subtract = binary.Subtract
lowered_operator written.Multiply = binary.Multiply
lowered_operator written.Divide = binary.Divide
lowered_operator written.Remainder = binary.Remainder
lowered_operator written.Less = binary.Less
lowered_operator written.LessEqual = binary.LessEqual
lowered_operator written.Greater = binary.Greater
lowered_operator written.GreaterEqual = binary.GreaterEqual
lowered_operator written.Equal = binary.Equal
lowered_operator written.NotEqual = binary.NotEqual

-- how many temporaries a call itself needs
abbrev pub own_temporaries : Called → ℕ
own_temporaries CompareAndSet = 4
own_temporaries (GetBoth class) = 2
own_temporaries _ = 0

-- the first argument, and those after it; a checked call has as many as what it calls
abbrev pub first_of : Expressions → Expression
first_of End = Word 0
first_of (More e es) = e

abbrev pub rest_of : Expressions → Expressions
rest_of End = End
rest_of (More e es) = es

abbrev pub second_of : Expressions → Expression
second_of es = first_of (rest_of es)

-- a reference and a mark
abbrev pub pack : Expression → Expression → Expression
pack r m = Binary binary.Pack r m

-- the arguments go into temporaries from `free` on in their order, while the target's word is kept
abbrev pub compare_and_set : ℕ → Expression → Expressions → Expression
compare_and_set free target es =
    SwapPair
    (Hold (Hold (Hold (Hold target
    free (first_of es))
    (free + 1) (second_of es))
    (free + 2) (second_of (rest_of es)))
    (free + 3) (second_of (rest_of (rest_of es))))
    (pack (Local free) (Local (free + 2)))
    (pack (Local (free + 1)) (Local (free + 3)))

-- the array goes into one temporary, and the pair that is read into the next; then the mark is written
abbrev pub get_both : ℕ → Expression → Expression → Expression
get_both free target array =
    Keep (free + 1) (ReadPair (Hold target free array))
    (After (SetFirst (Local free) (Unary unary.MarkOf (Local (free + 1))))
    (Unary unary.ReferenceOf (Local (free + 1))))

-- a call whose target and arguments are lowered
abbrev pub lowered_call : ℕ → Called → Expression → Expressions → Expression
lowered_call free (OfMethod m) o es = Call m o es
lowered_call free LockIt o es = OnLock lock.Lock o
lowered_call free UnlockIt o es = OnLock lock.Unlock o
lowered_call free TryIt o es = OnLock lock.TryLock o
lowered_call free AskIt o es = OnLock lock.IsHeld o
lowered_call free (HoldMonitor class) o es = OnLock lock.LockMonitor o
lowered_call free (FreeMonitor class) o es = OnLock lock.UnlockMonitor o
lowered_call free (GetReference class) o es = Unary unary.ReferenceOf (ReadPair o)
lowered_call free (IsMarked class) o es = Unary unary.MarkOf (ReadPair o)
lowered_call free (GetBoth class) o es = get_both free o (first_of es)
lowered_call free SetBoth o es = SetPair o (pack (first_of es) (second_of es))
lowered_call free CompareAndSet o es = compare_and_set free o es
lowered_call free Attempt o es = AttemptMark o (first_of es) (second_of es)
