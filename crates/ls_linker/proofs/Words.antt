-- The word of a typed literal has 32 bits.
use Rattle.std.proofs.Common.{◌≡◌, ℕ, ◌<◌, ◌^◌, Bool, true, false, sym, subst, lit<}
use mir.Syntax.{w32}
use mir.ValLaws.{of_z_fits}
use Rattle.ls_events.specs.declared.value.Value.{Value}
use Rattle.ls_events.specs.declared.value.Value.TheVariants.{Int, Boolean, Reference, Pair}
use Rattle.ls_events.specs.declared.value.ValueType.{ValueType}
use Rattle.ls_events.specs.declared.value.ValueType.TheVariants as types
use Rattle.ls_meaning.specs.declared.sort.Sort.{Sort}
use Rattle.ls_meaning.specs.declared.sort.Sort.TheVariants.{NoValue, ValueOf, NewOf, PairOf}
use Rattle.ls_types_judgement.specs.Sorts.{HasType, HasSort}
use Rattle.ls_refs.specs.ValueWords.{value_word}

abbrev IsNull : ℕ → ValueType → Type 0
IsNull n t = n ≡ 0

zero_small : (n : ℕ) → n ≡ 0 → n < 2 ^ 32
zero_small n e = subst (λ x. x < 2 ^ 32) (sym e) (lit< tt)

of_type : (v : Value) (t : ValueType) → HasType IsNull v t → value_word v < 2 ^ 32
of_type (Int z) types.Int h = (of_z_fits w32 z h).fits
of_type (Int z) types.Boolean h = absurd h
of_type (Int z) types.BooleanArray h = absurd h
of_type (Int z) (types.Class c) h = absurd h
of_type (Int z) types.Lock h = absurd h
of_type (Int z) (types.Markable c) h = absurd h
of_type (Boolean true) t h = lit< tt
of_type (Boolean false) t h = lit< tt
of_type (Reference n) types.Int h = absurd h
of_type (Reference n) types.Boolean h = absurd h
of_type (Reference n) types.BooleanArray h = zero_small n h
of_type (Reference n) (types.Class c) h = zero_small n h
of_type (Reference n) types.Lock h = zero_small n h
of_type (Reference n) (types.Markable c) h = zero_small n h
of_type (Pair n m) t h = absurd h

of_nothing : (v : Value) → HasSort IsNull NoValue v → value_word v < 2 ^ 32
of_nothing (Int z) h = absurd h
of_nothing (Boolean b) h = absurd h
of_nothing (Reference n) h = zero_small n h
of_nothing (Pair n m) h = absurd h

pair_small : (n : ℕ) (m : Bool) → n ≡ 0 → value_word (Pair n m) < 2 ^ 32
pair_small n true e = subst (λ x. value_word (Pair x true) < 2 ^ 32) (sym e) (lit< tt)
pair_small n false e = subst (λ x. value_word (Pair x false) < 2 ^ 32) (sym e) (lit< tt)

of_pair : (c : ℕ) (v : Value) → HasSort IsNull (PairOf c) v → value_word v < 2 ^ 32
of_pair c (Int z) h = absurd h
of_pair c (Boolean b) h = absurd h
of_pair c (Reference n) h = absurd h
of_pair c (Pair n m) h = pair_small n m h

-- the word of a constant is an operand
pub small_word : (s : Sort) (v : Value) → HasSort IsNull s v → value_word v < 2 ^ 32
small_word NoValue v h = of_nothing v h
small_word (ValueOf t) v h = of_type v t h
small_word (NewOf t) v h = of_type v t h.1
small_word (PairOf c) v h = of_pair c v h
