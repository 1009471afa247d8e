-- Values that are read one after another, and what holds of them.
use Rattle.std.proofs.Common.{◌≡◌, ℕ, zero, suc, ◌+◌, ◌*◌, ◌-◌, ◌<◌, ◌≤◌, refl, Bool, true, false, List, [], ◌∷◌, ◌++◌}
use Rattle.std.proofs.Common.{length, Option, Some, None, min, pos, negsuc, nat_lt, ◌==◌, ltb-true, eqb-true, lit<}
use Rattle.std.proofs.Common.{lit≤, arith, if◌then◌else◌}
use Rattle.std.specs.Prelude.{slice_get, FitsSigned}
use mir.Syntax.{w32}
use Rattle.ls_events.specs.declared.value.Value.{Value}
use Rattle.ls_events.specs.declared.value.Value.TheVariants as values
use Rattle.ls_events.specs.declared.value.ValueType.{ValueType}
use Rattle.ls_events.specs.declared.value.ValueType.TheVariants as types
use Rattle.ls_types_judgement.specs.Programs.{IsArgument, AreArguments, IsPlainResult}
use Rattle.ls_types_elaboration.specs.Trees.{Text}
use Rattle.ls_types_elaboration.specs.TypedExpressions.{digits_value}
use Rattle.ls_types_programs.specs.ProgramCalls.{is_plain, fits, plain_number, minus_number}

-- what is read has a property
abbrev pub Reads : {A : Type 0} → (A → Type 0) → Option A → Type 0
Reads P (Some a) = P a
Reads P None = Unit {0}

pub no_truth : false ≡ true → ⊥
no_truth e = cc

-- if it is an int, it has 32 bits
abbrev pub IsRanged : Value → Type 0
IsRanged (values.Int z) = FitsSigned w32 z
IsRanged _ = Unit {0}

digits_small : (n : ℕ) (text : Text) → n ≤ 2147483648 → digits_value n text ≤ 2147483648
digits_small n [] h = h
digits_small n (d ∷ text) h = digits_small (min (n * 10 + (d - 48)) 2147483648) text (at_most (n * 10 + (d - 48)))
  where
    at_most : (m : ℕ) → min m 2147483648 ≤ 2147483648
    at_most m = omega arith

plain_ranged : (b : Bool) (n : ℕ) →
    nat_lt n 2147483648 ≡ b →
    Reads IsRanged (if b then Some (values.Int (pos n)) else None)
plain_ranged true n e = record { sfits = ltb-true n 2147483648 e }
plain_ranged false n e = tt

-- a number without a minus is an int of 32 bits
pub plain_number_ranged : (text : Text) → Reads IsRanged (plain_number text)
plain_number_ranged text = plain_ranged (nat_lt (digits_value 0 text) 2147483648) (digits_value 0 text) refl

negated_ranged : (n : ℕ) →
    n ≤ 2147483648 →
    (b : Bool) →
    (n == 0) ≡ b →
    FitsSigned w32 (if b then pos 0 else negsuc (n - 1))
negated_ranged n h true e = record { sfits = lit< tt }
negated_ranged zero h false e = record { sfits = lit< tt }
negated_ranged (suc n) h false e = record { sfits = below n h }
  where
    below : (n : ℕ) → suc n ≤ 2147483648 → suc n - 1 < 2147483648
    below n h = omega (arith, h)

-- a number after a minus is an int of 32 bits
pub minus_number_ranged : (text : Text) → IsRanged (minus_number text)
minus_number_ranged text = negated_ranged (digits_value 0 text) (digits_small 0 text (lit≤ tt))
    (digits_value 0 text == 0) refl

-- arguments for the first of the parameters
abbrev pub Front : List ValueType → List Value → Type 0
Front ts [] = Unit {0}
Front [] (v ∷ vs) = ⊥
Front (t ∷ ts) (v ∷ vs) = IsArgument t v × Front ts vs

fitting : (t : ValueType) (v : Value) → fits (Some t) v ≡ true → IsRanged v → IsArgument t v
fitting types.Int (values.Int z) e r = r
fitting types.Boolean (values.Boolean b) e r = tt
fitting _ _ e r = absurd (no_truth e)

-- one more argument that fits
pub front_push : (ts : List ValueType) (vs : List Value) (v : Value) →
    Front ts vs →
    fits (slice_get ts (length vs)) v ≡ true →
    IsRanged v →
    Front ts (vs ++ v ∷ [])
front_push [] [] v h e r = absurd (no_truth (none v e))
  where
    none : (v : Value) → fits None v ≡ true → false ≡ true
    none (values.Int z) e = e
    none (values.Boolean b) e = e
    none (values.Reference n) e = e
    none (values.Pair n m) e = e
front_push (t ∷ ts) [] v h e r = (fitting t v e r, tt)
front_push [] (u ∷ vs) v h e r = absurd h
front_push (t ∷ ts) (u ∷ vs) v h e r = (h.0, front_push ts vs v h.1 e r)

front_full : (ts : List ValueType) (vs : List Value) → Front ts vs → length vs ≡ length ts → AreArguments ts vs
front_full [] [] h e = tt
front_full (t ∷ ts) [] h e = absurd (omega (arith, e))
front_full [] (v ∷ vs) h e = absurd h
front_full (t ∷ ts) (v ∷ vs) h e = (h.0, front_full ts vs h.1 (omega (arith, e)))

-- a call with as many arguments as parameters has all its arguments
pub is_full_so : (ts : List ValueType) (vs : List Value) →
    Front ts vs →
    (length vs == length ts) ≡ true →
    AreArguments ts vs
is_full_so ts vs h e = front_full ts vs h (eqb-true (length vs) (length ts) e)

-- a method that answers no reference may be called
pub plain_result : (r : Option ValueType) → is_plain r ≡ true → IsPlainResult r
plain_result None e = tt
plain_result (Some types.Int) e = tt
plain_result (Some types.Boolean) e = tt
plain_result (Some types.BooleanArray) e = absurd (no_truth e)
plain_result (Some (types.Class c)) e = absurd (no_truth e)
plain_result (Some types.Lock) e = absurd (no_truth e)
plain_result (Some (types.Markable c)) e = absurd (no_truth e)
