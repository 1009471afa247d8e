-- The words of a value of a known sort determine it.
use Rattle.std.proofs.Common.{◌≡◌, ◌<◌, ◌^◌, ℕ, Bool, true, false, ℤ, List, length, refl, sym, ap, ◌∙◌, arith}
use Rattle.std.proofs.Common.{FitsSigned}
use Rattle.std.proofs.lemmas.Int.{to_z-of_z}
use Rattle.std.specs.Int.{w32, cast_signed, cast_unsigned}
use Rattle.ls_events.specs.declared.value.Value.{Value}
use Rattle.ls_events.specs.declared.value.Value.TheVariants.{Int, Boolean, Reference, Pair}
use Rattle.ls_events.specs.declared.value.ValueType.{ValueType}
use Rattle.ls_events.specs.declared.value.ValueType.TheVariants as type
use Rattle.ls_meaning.specs.declared.sort.Sort.{Sort}
use Rattle.ls_meaning.specs.declared.sort.Sort.TheVariants.{NoValue, ValueOf, NewOf, PairOf}
use Rattle.ls_code.specs.Words.{bool_word, pair_word}
use Rattle.ls_preservation.specs.InWords.{written, ArePlaces}
use Rattle.ls_preservation.specs.Sorts.{Refers, HasSortBy, HasType}
use Rattle.ls_preservation.proofs.Cells.{refers_within}

same_bit : (b c : Bool) → bool_word b ≡ bool_word c → b ≡ c
same_bit false false e = refl
same_bit true true e = refl
same_bit false true e = absurd (omega arith)
same_bit true false e = absurd (omega arith)

same_int : (z y : ℤ) → FitsSigned w32 z → FitsSigned w32 y → cast_unsigned w32 z ≡ cast_unsigned w32 y → z ≡ y
same_int z y h g e = sym (to_z-of_z w32 z h) ∙ ap (cast_signed w32) e ∙ to_z-of_z w32 y g

same_half : (a b : ℕ) (c d : Bool) →
    a < 2 ^ 32 →
    b < 2 ^ 32 →
    pair_word a (bool_word c) ≡ pair_word b (bool_word d) →
    (a ≡ b) × (c ≡ d)
same_half a b true true h g e = (omega arith, refl)
same_half a b false false h g e = (omega arith, refl)
same_half a b true false h g e = absurd (omega arith)
same_half a b false true h g e = absurd (omega arith)

module _ (σ : List ValueType) (ρ : ℕ → ℕ) (one : ArePlaces (length σ) ρ) where
  same_object : (m n : ℕ) (t u : ValueType) → Refers σ m t → Refers σ n u → ρ m ≡ ρ n → m ≡ n
  same_object m n t u h g e = one.distinct m n (refers_within σ m t h) (refers_within σ n u g) e

  type_one : (t : ValueType) (v w : Value) → HasType σ v t → HasType σ w t → written ρ v ≡ written ρ w → v ≡ w
  type_one type.Int (Int z) (Int y) h g e = ap Int (same_int z y h g e)
  type_one type.Boolean (Boolean b) (Boolean c) h g e = ap Boolean (same_bit b c e)
  type_one type.BooleanArray (Reference m) (Reference n) h g e = ap Reference
      (same_object m n type.BooleanArray type.BooleanArray h g e)
  type_one (type.Class c) (Reference m) (Reference n) h g e = ap Reference
      (same_object m n (type.Class c) (type.Class c) h g e)
  type_one type.Lock (Reference m) (Reference n) h g e = ap Reference (same_object m n type.Lock type.Lock h g e)
  type_one (type.Markable c) (Reference m) (Reference n) h g e = ap Reference
      (same_object m n (type.Markable c) (type.Markable c) h g e)
  type_one type.Int (Int z) (Boolean b) h g e = absurd g
  type_one type.Int (Int z) (Reference n) h g e = absurd g
  type_one type.Int (Int z) (Pair n m) h g e = absurd g
  type_one type.Int (Boolean b) w h g e = absurd h
  type_one type.Int (Reference n) w h g e = absurd h
  type_one type.Int (Pair n m) w h g e = absurd h
  type_one type.Boolean (Boolean b) (Int z) h g e = absurd g
  type_one type.Boolean (Boolean b) (Reference n) h g e = absurd g
  type_one type.Boolean (Boolean b) (Pair n m) h g e = absurd g
  type_one type.Boolean (Int z) w h g e = absurd h
  type_one type.Boolean (Reference n) w h g e = absurd h
  type_one type.Boolean (Pair n m) w h g e = absurd h
  type_one type.BooleanArray (Reference k) (Int z) h g e = absurd g
  type_one type.BooleanArray (Reference k) (Boolean b) h g e = absurd g
  type_one type.BooleanArray (Reference k) (Pair n m) h g e = absurd g
  type_one type.BooleanArray (Int z) w h g e = absurd h
  type_one type.BooleanArray (Boolean b) w h g e = absurd h
  type_one type.BooleanArray (Pair n m) w h g e = absurd h
  type_one (type.Class c) (Reference k) (Int z) h g e = absurd g
  type_one (type.Class c) (Reference k) (Boolean b) h g e = absurd g
  type_one (type.Class c) (Reference k) (Pair n m) h g e = absurd g
  type_one (type.Class c) (Int z) w h g e = absurd h
  type_one (type.Class c) (Boolean b) w h g e = absurd h
  type_one (type.Class c) (Pair n m) w h g e = absurd h
  type_one type.Lock (Reference k) (Int z) h g e = absurd g
  type_one type.Lock (Reference k) (Boolean b) h g e = absurd g
  type_one type.Lock (Reference k) (Pair n m) h g e = absurd g
  type_one type.Lock (Int z) w h g e = absurd h
  type_one type.Lock (Boolean b) w h g e = absurd h
  type_one type.Lock (Pair n m) w h g e = absurd h
  type_one (type.Markable c) (Reference k) (Int z) h g e = absurd g
  type_one (type.Markable c) (Reference k) (Boolean b) h g e = absurd g
  type_one (type.Markable c) (Reference k) (Pair n m) h g e = absurd g
  type_one (type.Markable c) (Int z) w h g e = absurd h
  type_one (type.Markable c) (Boolean b) w h g e = absurd h
  type_one (type.Markable c) (Pair n m) w h g e = absurd h

  -- values of one sort that have the same word are the same
  pub written_one : (s : Sort) (v w : Value) →
      HasSortBy (Refers σ) v s →
      HasSortBy (Refers σ) w s →
      written ρ v ≡ written ρ w →
      v ≡ w
  written_one (ValueOf t) v w h g e = type_one t v w h g e
  written_one (NewOf t) (Reference m) (Reference n) h g e = ap Reference (same_object m n t t h.1 g.1 e)
  written_one (PairOf c) (Pair m b) (Pair n d) h g e =
      let both = same_half (ρ m) (ρ n) b d (one.small m (refers_within σ m (type.Class c) h))
      (one.small n (refers_within σ n (type.Class c) g)) e in
      ap (λ k. Pair k b) (same_object m n (type.Class c) (type.Class c) h g both.0) ∙ ap (Pair n) both.1
  written_one NoValue (Int z) w h g e = absurd h
  written_one NoValue (Boolean b) w h g e = absurd h
  written_one NoValue (Reference n) w h g e = absurd h
  written_one NoValue (Pair n m) w h g e = absurd h
  written_one (NewOf t) (Reference k) (Int z) h g e = absurd g
  written_one (NewOf t) (Reference k) (Boolean b) h g e = absurd g
  written_one (NewOf t) (Reference k) (Pair n m) h g e = absurd g
  written_one (NewOf t) (Int z) w h g e = absurd h
  written_one (NewOf t) (Boolean b) w h g e = absurd h
  written_one (NewOf t) (Pair n m) w h g e = absurd h
  written_one (PairOf c) (Pair k d) (Int z) h g e = absurd g
  written_one (PairOf c) (Pair k d) (Boolean b) h g e = absurd g
  written_one (PairOf c) (Pair k d) (Reference n) h g e = absurd g
  written_one (PairOf c) (Int z) w h g e = absurd h
  written_one (PairOf c) (Boolean b) w h g e = absurd h
  written_one (PairOf c) (Reference n) w h g e = absurd h
