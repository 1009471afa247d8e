-- The moves of expressions: operands, operators, calls and their arguments, and what a value fills.
use Rattle.std.specs.Prelude.{ℕ, pos, neg_ℤ, true, false, not, int_lt, nat_eq, List, [], ◌∷◌, ◌++◌, Option, Some, None}
use Rattle.std.specs.Prelude.{slice_index_or, if◌then◌else◌}
use Rattle.ls_events.specs.declared.value.Value.{Value}
use Rattle.ls_events.specs.declared.value.Value.TheVariants as values
use Rattle.ls_events.specs.declared.value.ValueType.TheVariants as types
use Rattle.ls_events.specs.declared.kind.Kind.TheVariants.{Arithmetic, NegativeArraySize, NullPointer, StackOverflow}
use Rattle.ls_events.specs.declared.action.Action.TheVariants.{ReadField, ReadItem, WriteItem, New, NewLock}
use Rattle.ls_events.specs.declared.action.Action.TheVariants.{NewMarkable, NewArray, Lock, Unlock, TryLock, IsHeld}
use Rattle.ls_events.specs.declared.action.Action.TheVariants.{LockMonitor, UnlockMonitor, ReadPair, SetPair, SwapPair}
use Rattle.ls_events.specs.declared.action.Action.TheVariants.{AttemptMark}
use Rattle.ls_checked.specs.declared.tree.Operator.{Operator}
use Rattle.ls_checked.specs.declared.tree.Called.{Called}
use Rattle.ls_checked.specs.declared.tree.Called.TheVariants.{Method as OfMethod, LockIt, UnlockIt, TryIt, AskIt}
use Rattle.ls_checked.specs.declared.tree.Called.TheVariants.{HoldMonitor, FreeMonitor, GetReference, IsMarked, GetBoth}
use Rattle.ls_checked.specs.declared.tree.Called.TheVariants.{SetBoth, CompareAndSet, Attempt}
use Rattle.ls_checked.specs.CheckedTree.{Class, Expression, Literal, Slot, Field, Item, Negate, Not, Binary, And, Or}
use Rattle.ls_checked.specs.CheckedTree.{Call, MakeObject, MakeLock, MakeMarkable, MakeArray, Expressions, End, More}
use Rattle.ls_meaning.specs.declared.sort.Sort.TheVariants.{NoValue, ValueOf, NewOf, PairOf}
use Rattle.ls_meaning.specs.declared.completion.Completion.TheVariants.{Threw}
use Rattle.ls_meaning.specs.Values.{int_of, truth_of, reference_of, mark_of, pair_of, nothing, wrapped, operated}
use Rattle.ls_meaning.specs.Values.{divides_by_zero}
use Rattle.ls_meaning.specs.Expressions.{argument, field_of, constructor_of}
use Rattle.ls_source_pending.specs.Pending.{Purpose, ToCall, ToMake, ToMark, Operand, InField, InItem, InIndex}
use Rattle.ls_source_pending.specs.Pending.{InNegate, InNot, InLength, InLeft, InRight, InAnd, InOr, InTarget}
use Rattle.ls_source_pending.specs.Pending.{InArgument, InMade, InConstructor, InReference, InMark, InBoth, InWritten}
use Rattle.ls_source_pending.specs.Pending.{Frame, In, Control, Evaluates, Argues, Gives, Ends, Asks, Enters, State}

abbrev pub at : Control → List Frame → List Value → ℕ → State
at c fs ls d = record { control = c; frames = fs; locals = ls; depth = d }

abbrev pub thrown_on_null : ℕ → Control → Control
thrown_on_null n c = if nat_eq n 0 then Ends (Threw NullPointer) else c

-- the value of an operand at hand: a literal or a local
abbrev pub at_hand : Expression → List Value → Option Value
at_hand (Literal v) ls = Some v
at_hand (Slot n) ls = Some (slice_index_or ls n nothing)
at_hand (Field e c f) ls = None
at_hand (Item a i) ls = None
at_hand (Negate e) ls = None
at_hand (Not e) ls = None
at_hand (Binary op a b) ls = None
at_hand (And a b) ls = None
at_hand (Or a b) ls = None
at_hand (Call e m es) ls = None
at_hand (MakeObject c es) ls = None
at_hand MakeLock ls = None
at_hand (MakeMarkable c es) ls = None
at_hand (MakeArray e) ls = None

-- what an operator computes of operands that are known, unless it divides by 0
abbrev pub computed : Operator → Option Value → Option Value → Option Value
computed op None y = None
computed op (Some x) None = None
computed op (Some x) (Some y) = if divides_by_zero op y then None else Some (operated op x y)

-- an operand at hand, or an operator on such operands
abbrev pub near : Expression → List Value → Option Value
near (Literal v) ls = Some v
near (Slot n) ls = Some (slice_index_or ls n nothing)
near (Field e c f) ls = None
near (Item a i) ls = None
near (Negate e) ls = None
near (Not e) ls = None
near (Binary op a b) ls = computed op (at_hand a ls) (at_hand b ls)
near (And a b) ls = None
near (Or a b) ls = None
near (Call e m es) ls = None
near (MakeObject c es) ls = None
near MakeLock ls = None
near (MakeMarkable c es) ls = None
near (MakeArray e) ls = None

-- the value of an expression that asks for nothing and is found at once
abbrev pub known : Expression → List Value → Option Value
known (Literal v) ls = Some v
known (Slot n) ls = Some (slice_index_or ls n nothing)
known (Field e c f) ls = None
known (Item a i) ls = None
known (Negate e) ls = None
known (Not e) ls = None
known (Binary op a b) ls = computed op (near a ls) (near b ls)
known (And a b) ls = None
known (Or a b) ls = None
known (Call e m es) ls = None
known (MakeObject c es) ls = None
known MakeLock ls = None
known (MakeMarkable c es) ls = None
known (MakeArray e) ls = None

-- the read of a field, with its object if that is at hand
abbrev pub on_read : List Class → Option Value → Expression → ℕ → ℕ → List Frame → List Value → ℕ → State
on_read classes None e c f fs ls d = at (Evaluates (Field e c f)) fs ls d
on_read classes (Some v) e c f fs ls d = at (thrown_on_null (reference_of v)
    (Asks (ReadField (reference_of v) f) (field_of classes c f))) fs ls d

-- an operand that begins; the read of a field of an object at hand is asked for at once
abbrev pub started : List Class → Expression → List Frame → List Value → ℕ → State
started classes (Field e c f) fs ls d = on_read classes (at_hand e ls) e c f fs ls d
started classes (Literal v) fs ls d = at (Evaluates (Literal v)) fs ls d
started classes (Slot n) fs ls d = at (Evaluates (Slot n)) fs ls d
started classes (Item a i) fs ls d = at (Evaluates (Item a i)) fs ls d
started classes (Negate e) fs ls d = at (Evaluates (Negate e)) fs ls d
started classes (Not e) fs ls d = at (Evaluates (Not e)) fs ls d
started classes (Binary op a b) fs ls d = at (Evaluates (Binary op a b)) fs ls d
started classes (And a b) fs ls d = at (Evaluates (And a b)) fs ls d
started classes (Or a b) fs ls d = at (Evaluates (Or a b)) fs ls d
started classes (Call e m es) fs ls d = at (Evaluates (Call e m es)) fs ls d
started classes (MakeObject c es) fs ls d = at (Evaluates (MakeObject c es)) fs ls d
started classes MakeLock fs ls d = at (Evaluates MakeLock) fs ls d
started classes (MakeMarkable c es) fs ls d = at (Evaluates (MakeMarkable c es)) fs ls d
started classes (MakeArray e) fs ls d = at (Evaluates (MakeArray e)) fs ls d

-- an operator whose left operand has its value, with the right operand if that is known
abbrev pub on_right : List Class → Option Value → Operator → Value → Expression → List Frame → List Value → ℕ → State
on_right classes None op x b fs ls d = started classes b (In (InRight op x) ∷ fs) ls d
on_right classes (Some y) op x b fs ls d = at (if divides_by_zero op y then Ends (Threw Arithmetic) else
    Gives (operated op x y)) fs ls d

-- an operator that begins, with its left operand if that is known
abbrev pub on_left : List Class →
    Option Value →
    Operator →
    Expression →
    Expression →
    List Frame →
    List Value →
    ℕ →
    State
on_left classes None op a b fs ls d = started classes a (In (InLeft op b) ∷ fs) ls d
on_left classes (Some x) op a b fs ls d = on_right classes (known b ls) op x b fs ls d

-- the read of a field, with its object if that is known
abbrev pub on_target : List Class → Option Value → Expression → ℕ → ℕ → List Frame → List Value → ℕ → State
on_target classes None e c f fs ls d = started classes e (In (InField c f) ∷ fs) ls d
on_target classes (Some v) e c f fs ls d = at (thrown_on_null (reference_of v)
    (Asks (ReadField (reference_of v) f) (field_of classes c f))) fs ls d

-- a method is to be entered, if the depth allows it
abbrev pub invoking : ℕ → List Value → List Frame → List Value → ℕ → State
invoking m vs fs ls d = at (if nat_eq d 0 then Ends (Threw StackOverflow) else Enters m vs) fs ls d

abbrev pub calling : Called → Value → List Value → List Frame → List Value → ℕ → State
calling (OfMethod m) o vs fs ls d = invoking m (o ∷ vs) fs ls d
calling LockIt o vs fs ls d = at (Asks (Lock (reference_of o)) NoValue) fs ls d
calling UnlockIt o vs fs ls d = at (Asks (Unlock (reference_of o)) NoValue) fs ls d
calling TryIt o vs fs ls d = at (Asks (TryLock (reference_of o)) (ValueOf types.Boolean)) fs ls d
calling AskIt o vs fs ls d = at (Asks (IsHeld (reference_of o)) (ValueOf types.Boolean)) fs ls d
calling (HoldMonitor c) o vs fs ls d = at (Asks (LockMonitor (reference_of o)) NoValue) fs ls d
calling (FreeMonitor c) o vs fs ls d = at (Asks (UnlockMonitor (reference_of o)) NoValue) fs ls d
calling (GetReference c) o vs fs ls d = at (Asks (ReadPair (reference_of o)) (PairOf c)) (In InReference ∷ fs) ls d
calling (IsMarked c) o vs fs ls d = at (Asks (ReadPair (reference_of o)) (PairOf c)) (In InMark ∷ fs) ls d
calling (GetBoth c) o vs fs ls d = at (Asks (ReadPair (reference_of o)) (PairOf c))
    (In (InBoth (reference_of (argument vs 0))) ∷ fs) ls d
calling SetBoth o vs fs ls d = at (Asks (SetPair (reference_of o) (pair_of (argument vs 0) (argument vs 1))) NoValue) fs
    ls d
calling CompareAndSet o vs fs ls d = at
    (Asks (SwapPair (reference_of o) (pair_of (argument vs 0) (argument vs 2))
    (pair_of (argument vs 1) (argument vs 3))) (ValueOf types.Boolean)) fs ls d
calling Attempt o vs fs ls d = at
    (Asks (AttemptMark (reference_of o) (reference_of (argument vs 0)) (truth_of (argument vs 1)))
    (ValueOf types.Boolean)) fs ls d

abbrev pub applying : List Class → Purpose → List Value → List Frame → List Value → ℕ → State
applying classes (ToCall m o) vs fs ls d =
    if nat_eq (reference_of o) 0 then at (Ends (Threw NullPointer)) fs ls d else calling m o vs fs ls d
applying classes (ToMake c o) vs fs ls d =
    invoking (constructor_of classes c) (o ∷ vs) (In (InConstructor o) ∷ fs) ls d
applying classes (ToMark c) vs fs ls d =
    at (Asks (NewMarkable (pair_of (argument vs 0) (argument vs 1))) (NewOf (types.Markable c))) fs ls d

-- the use of arguments, if none is left
abbrev pub ready : List Class → Purpose → List Value → Expressions → List Frame → List Value → ℕ → State
ready classes p vs End fs ls d = applying classes p vs fs ls d
ready classes p vs (More e es) fs ls d = at (Argues p vs (More e es)) fs ls d

-- a call, with its object if that is known
abbrev pub on_called : List Class →
    Option Value →
    Expression →
    Called →
    Expressions →
    List Frame →
    List Value →
    ℕ →
    State
on_called classes None e m es fs ls d = started classes e (In (InTarget m es) ∷ fs) ls d
on_called classes (Some o) e m es fs ls d = ready classes (ToCall m o) [] es fs ls d

abbrev pub evaluating : List Class → Expression → List Frame → List Value → ℕ → State
evaluating classes (Literal v) fs ls d = at (Gives v) fs ls d
evaluating classes (Slot n) fs ls d = at (Gives (slice_index_or ls n nothing)) fs ls d
evaluating classes (Field e c f) fs ls d = on_target classes (known e ls) e c f fs ls d
evaluating classes (Item a i) fs ls d = started classes a (In (InItem i) ∷ fs) ls d
evaluating classes (Negate e) fs ls d = started classes e (In InNegate ∷ fs) ls d
evaluating classes (Not e) fs ls d = started classes e (In InNot ∷ fs) ls d
evaluating classes (Binary op a b) fs ls d = on_left classes (known a ls) op a b fs ls d
evaluating classes (And a b) fs ls d = started classes a (In (InAnd b) ∷ fs) ls d
evaluating classes (Or a b) fs ls d = started classes a (In (InOr b) ∷ fs) ls d
evaluating classes (Call e m es) fs ls d = on_called classes (known e ls) e m es fs ls d
evaluating classes (MakeObject c es) fs ls d = at (Asks (New c) (NewOf (types.Class c))) (In (InMade c es) ∷ fs) ls d
evaluating classes MakeLock fs ls d = at (Asks NewLock (NewOf types.Lock)) fs ls d
evaluating classes (MakeMarkable c es) fs ls d = ready classes (ToMark c) [] es fs ls d
evaluating classes (MakeArray e) fs ls d = started classes e (In InLength ∷ fs) ls d

-- an argument, with its value if that is known
abbrev pub on_argument : List Class →
    Option Value →
    Purpose →
    List Value →
    Expression →
    Expressions →
    List Frame →
    List Value →
    ℕ →
    State
on_argument classes None p vs e es fs ls d = started classes e (In (InArgument p vs es) ∷ fs) ls d
on_argument classes (Some v) p vs e es fs ls d = at (Argues p (vs ++ v ∷ []) es) fs ls d

abbrev pub arguing : List Class → Purpose → List Value → Expressions → List Frame → List Value → ℕ → State
arguing classes p vs End fs ls d = applying classes p vs fs ls d
arguing classes p vs (More e es) fs ls d = on_argument classes (known e ls) p vs e es fs ls d

abbrev pub filling : List Class → Operand → Value → List Frame → List Value → ℕ → State
filling classes (InField c f) v fs ls d = at (thrown_on_null (reference_of v)
    (Asks (ReadField (reference_of v) f) (field_of classes c f))) fs ls d
filling classes (InItem i) v fs ls d = started classes i (In (InIndex v) ∷ fs) ls d
filling classes (InIndex o) v fs ls d = at (thrown_on_null (reference_of o)
    (Asks (ReadItem (reference_of o) (int_of v)) (ValueOf types.Boolean))) fs ls d
filling classes InNegate v fs ls d = at (Gives (wrapped (neg_ℤ (int_of v)))) fs ls d
filling classes InNot v fs ls d = at (Gives (values.Boolean (not (truth_of v)))) fs ls d
filling classes InLength v fs ls d = at (if int_lt (int_of v) (pos 0) then Ends (Threw NegativeArraySize) else
    Asks (NewArray (int_of v)) (NewOf types.BooleanArray)) fs ls d
filling classes (InLeft op b) v fs ls d = on_right classes (known b ls) op v b fs ls d
filling classes (InRight op x) v fs ls d = at (if divides_by_zero op v then Ends (Threw Arithmetic) else
    Gives (operated op x v)) fs ls d
filling classes (InAnd b) v fs ls d = at (if truth_of v then Evaluates b else Gives (values.Boolean false)) fs ls d
filling classes (InOr b) v fs ls d = at (if truth_of v then Gives (values.Boolean true) else Evaluates b) fs ls d
filling classes (InTarget m es) v fs ls d = ready classes (ToCall m v) [] es fs ls d
filling classes (InArgument p before es) v fs ls d = at (Argues p (before ++ v ∷ []) es) fs ls d
filling classes (InMade c es) v fs ls d = ready classes (ToMake c v) [] es fs ls d
filling classes (InConstructor o) v fs ls d = at (Gives o) fs ls d
filling classes InReference v fs ls d = at (Gives (values.Reference (reference_of v))) fs ls d
filling classes InMark v fs ls d = at (Gives (values.Boolean (mark_of v))) fs ls d
filling classes (InBoth array) v fs ls d = at (thrown_on_null array
    (Asks (WriteItem array (pos 0) (values.Boolean (mark_of v))) NoValue)) (In (InWritten v) ∷ fs) ls d
filling classes (InWritten pair) v fs ls d = at (Gives (values.Reference (reference_of pair))) fs ls d
