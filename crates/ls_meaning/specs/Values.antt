-- Values, and what the operators compute from them.
use Rattle.std.specs.Prelude.{ℕ, ℤ, pos, ◌+ℤ◌, ◌-ℤ◌, ◌*ℤ◌, Bool, true, false, not, int_lt, int_le, int_rem, nat_eq}
use Rattle.std.specs.Int.{int_wrap, int_wrapping_div}
use Rattle.std.specs.Ordering.{int_eq}
use mir.Syntax.{w32}
use Rattle.ls_events.specs.declared.value.Value.{Value}
use Rattle.ls_events.specs.declared.value.Value.TheVariants.{Int, Boolean, Reference, Pair}
use Rattle.ls_events.specs.declared.value.ValueType.{ValueType}
use Rattle.ls_events.specs.declared.value.ValueType.TheVariants.{Int as IntType, Boolean as BooleanType}
use Rattle.ls_checked.specs.declared.tree.Operator.{Operator}
use Rattle.ls_checked.specs.declared.tree.Operator.TheVariants.{Add, Subtract, Multiply, Divide, Remainder, Less}
use Rattle.ls_checked.specs.declared.tree.Operator.TheVariants.{LessEqual, Greater, GreaterEqual, Equal, NotEqual}

-- the parts of a value; a checked tree never reads a value as one of another type
abbrev pub int_of : Value → ℤ
int_of (Int z) = z
int_of (Boolean b) = pos 0
int_of (Reference n) = pos 0
int_of (Pair n m) = pos 0

abbrev pub truth_of : Value → Bool
truth_of (Int z) = false
truth_of (Boolean b) = b
truth_of (Reference n) = false
truth_of (Pair n m) = false

abbrev pub reference_of : Value → ℕ
reference_of (Int z) = 0
reference_of (Boolean b) = 0
reference_of (Reference n) = n
reference_of (Pair n m) = n

abbrev pub mark_of : Value → Bool
mark_of (Int z) = false
mark_of (Boolean b) = false
mark_of (Reference n) = false
mark_of (Pair n m) = m

-- the pair of a reference and a mark
abbrev pub pair_of : Value → Value → Value
pair_of r m = Pair (reference_of r) (truth_of m)

-- the value of a call that answers no value
abbrev pub nothing : Value
nothing = Reference 0

-- the value with which a field, an element or a local starts (JLS 4.12.5)
abbrev pub start_of : ValueType → Value
start_of IntType = Int (pos 0)
start_of BooleanType = Boolean false
start_of _ = Reference 0

-- an int of 32 bits, two's complement (JLS 4.2.2)
abbrev pub wrapped : ℤ → Value
wrapped z = Int (int_wrap w32 z)

-- two ints, two booleans or two references are equal (JLS 15.21)
abbrev pub same : Value → Value → Bool
same (Int x) (Int y) = int_eq x y
same (Boolean true) (Boolean b) = b
same (Boolean false) (Boolean b) = not b
same (Reference x) (Reference y) = nat_eq x y
same _ _ = false

-- an operator on two values that isn't a division (JLS 15.17.1, 15.18.2, 15.20.1, 15.21)
abbrev pub operated : Operator → Value → Value → Value
operated Add x y = wrapped (int_of x +ℤ int_of y)
operated Subtract x y = wrapped (int_of x -ℤ int_of y)
operated Multiply x y = wrapped (int_of x *ℤ int_of y)
operated Divide x y = Int (int_wrapping_div w32 (int_of x) (int_of y))
operated Remainder x y = wrapped (int_rem (int_of x) (int_of y))
operated Less x y = Boolean (int_lt (int_of x) (int_of y))
operated LessEqual x y = Boolean (int_le (int_of x) (int_of y))
operated Greater x y = Boolean (int_lt (int_of y) (int_of x))
operated GreaterEqual x y = Boolean (int_le (int_of y) (int_of x))
operated Equal x y = Boolean (same x y)
operated NotEqual x y = Boolean (not (same x y))

-- a division or remainder by 0 throws (JLS 15.17.2, 15.17.3)
abbrev pub divides_by_zero : Operator → Value → Bool
divides_by_zero Divide y = int_eq (int_of y) (pos 0)
divides_by_zero Remainder y = int_eq (int_of y) (pos 0)
divides_by_zero _ y = false
