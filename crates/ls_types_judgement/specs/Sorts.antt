-- Values of their sorts, by what is asked of a reference to an object of each type.
use Rattle.std.specs.Prelude.{◌≡◌, ◌≢◌, ℕ, FitsSigned, List, [], ◌∷◌}
use mir.Syntax.{w32}
use Rattle.ls_events.specs.declared.value.Value.{Value}
use Rattle.ls_events.specs.declared.value.Value.TheVariants.{Int, Boolean, Reference, Pair}
use Rattle.ls_events.specs.declared.value.ValueType.{ValueType}
use Rattle.ls_events.specs.declared.value.ValueType.TheVariants as types
use Rattle.ls_meaning.specs.declared.sort.Sort.{Sort}
use Rattle.ls_meaning.specs.declared.sort.Sort.TheVariants.{NoValue, ValueOf, NewOf, PairOf}

abbrev pub HasType : (ℕ → ValueType → Type 0) → Value → ValueType → Type 0
HasType P (Int z) types.Int = FitsSigned w32 z
HasType P (Boolean b) types.Boolean = Unit {0}
HasType P (Reference n) types.BooleanArray = P n types.BooleanArray
HasType P (Reference n) (types.Class c) = P n (types.Class c)
HasType P (Reference n) types.Lock = P n types.Lock
HasType P (Reference n) (types.Markable c) = P n (types.Markable c)
HasType P _ _ = ⊥

-- a call that answers no value leaves null; a new object is never null
abbrev pub IsNothing : Value → Type 0
IsNothing (Reference n) = n ≡ 0
IsNothing _ = ⊥

abbrev pub IsNew : Value → Type 0
IsNew (Reference n) = n ≢ 0
IsNew _ = ⊥

abbrev pub IsPair : (ℕ → ValueType → Type 0) → ℕ → Value → Type 0
IsPair P c (Pair n m) = P n (types.Class c)
IsPair P c _ = ⊥

abbrev pub HasSort : (ℕ → ValueType → Type 0) → Sort → Value → Type 0
HasSort P NoValue v = IsNothing v
HasSort P (ValueOf t) v = HasType P v t
HasSort P (NewOf t) v = IsNew v × HasType P v t
HasSort P (PairOf c) v = IsPair P c v

abbrev pub HaveTypes : (ℕ → ValueType → Type 0) → List ValueType → List Value → Type 0
HaveTypes P [] [] = Unit {0}
HaveTypes P (t ∷ ts) (v ∷ vs) = HasType P v t × HaveTypes P ts vs
HaveTypes P _ _ = ⊥
