-- Values of their types and sorts, and what is in them.
use Rattle.std.proofs.Common.{rules, ◌≡◌, ℕ, zero, suc, List, [], ◌∷◌, Some, None, refl, subst, arith}
use Rattle.std.specs.Prelude.{ℤ, int_div, slice_get, slice_index_or, FitsSigned}
use Rattle.std.specs.Int.{int_wrapping_div, cast_unsigned}
use borrow.Author.Differences.{fits_in, read_fits}
use mir.Syntax.{w32}
use Rattle.ls_events.specs.declared.value.Value.{Value}
use Rattle.ls_events.specs.declared.value.Value.TheVariants.{Int, Boolean, Reference, Pair}
use Rattle.ls_events.specs.declared.value.ValueType.{ValueType}
use Rattle.ls_events.specs.declared.value.ValueType.TheVariants as types
use Rattle.ls_meaning.specs.declared.sort.Sort.{Sort}
use Rattle.ls_meaning.specs.declared.sort.Sort.TheVariants.{NoValue, ValueOf, NewOf, PairOf}
use Rattle.ls_meaning.specs.Values.{reference_of, nothing, start_of}
use Rattle.ls_types_judgement.specs.Sorts.{HasType, HasSort, HaveTypes, IsPair}
use Rattle.ls_preservation.specs.Sorts.{HasTypeBy, HasSortBy}

-- a quotient fits in 32 bits
pub div_fits : (x y : ℤ) → FitsSigned w32 (int_wrapping_div w32 x y)
div_fits x y = omega (arith, fits_in, read_fits w32 (cast_unsigned w32 (int_div x y)))

-- a reference type
abbrev pub IsReference : ValueType → Type 0
IsReference types.Int = ⊥
IsReference types.Boolean = ⊥
IsReference types.BooleanArray = Unit {0}
IsReference (types.Class c) = Unit {0}
IsReference types.Lock = Unit {0}
IsReference (types.Markable c) = Unit {0}

-- a new thing is of a type of things
abbrev pub Makes : Sort → Type 0
Makes (NewOf t) = IsReference t
Makes _ = Unit {0}

module _ (P : ℕ → ValueType → Type 0) where
  -- both readings of a value's type
  pub type_of : (v : Value) (t : ValueType) → HasTypeBy P v t → HasType P v t
  type_of v t h = h

  pub type_by : (v : Value) (t : ValueType) → HasType P v t → HasTypeBy P v t
  type_by v t h = h

  made_type : (n : ℕ) (t : ValueType) → IsReference t → P n t → HasType P (Reference n) t
  made_type n types.Int r h = absurd r
  made_type n types.Boolean r h = absurd r
  made_type n types.BooleanArray r h = h
  made_type n (types.Class c) r h = h
  made_type n types.Lock r h = h
  made_type n (types.Markable c) r h = h

  -- an answer of a sort
  pub sort_of_answer : (v : Value) (s : Sort) → Makes s → HasSortBy P v s → HasSort P s v
  sort_of_answer v (ValueOf t) m h = type_of v t h
  sort_of_answer (Reference n) (NewOf t) m h = (h.0, made_type n t m h.1)
  sort_of_answer (Pair n b) (PairOf c) m h = h
  sort_of_answer (Int z) (NewOf t) m h = absurd h
  sort_of_answer (Boolean b) (NewOf t) m h = absurd h
  sort_of_answer (Pair n b) (NewOf t) m h = absurd h
  sort_of_answer (Int z) (PairOf c) m h = absurd h
  sort_of_answer (Boolean b) (PairOf c) m h = absurd h
  sort_of_answer (Reference n) (PairOf c) m h = absurd h
  sort_of_answer (Int z) NoValue m h = absurd h
  sort_of_answer (Boolean b) NoValue m h = absurd h
  sort_of_answer (Reference n) NoValue m h = absurd h
  sort_of_answer (Pair n b) NoValue m h = absurd h

  -- the reference in a value
  pub reference_has : (v : Value) (t : ValueType) → IsReference t → HasType P v t → P (reference_of v) t
  reference_has v types.Int r h = absurd r
  reference_has v types.Boolean r h = absurd r
  reference_has (Reference n) types.BooleanArray r h = h
  reference_has (Reference n) (types.Class c) r h = h
  reference_has (Reference n) types.Lock r h = h
  reference_has (Reference n) (types.Markable c) r h = h
  reference_has (Int z) types.BooleanArray r h = absurd h
  reference_has (Int z) (types.Class c) r h = absurd h
  reference_has (Int z) types.Lock r h = absurd h
  reference_has (Int z) (types.Markable c) r h = absurd h
  reference_has (Boolean b) types.BooleanArray r h = absurd h
  reference_has (Boolean b) (types.Class c) r h = absurd h
  reference_has (Boolean b) types.Lock r h = absurd h
  reference_has (Boolean b) (types.Markable c) r h = absurd h
  reference_has (Pair n b) types.BooleanArray r h = absurd h
  reference_has (Pair n b) (types.Class c) r h = absurd h
  reference_has (Pair n b) types.Lock r h = absurd h
  reference_has (Pair n b) (types.Markable c) r h = absurd h

  -- the reference of a pair is one to an object of the class
  pub pair_reference : (v : Value) (c : ℕ) → IsPair P c v → P (reference_of v) (types.Class c)
  pair_reference (Int z) c h = absurd h
  pair_reference (Boolean b) c h = absurd h
  pair_reference (Reference n) c h = absurd h
  pair_reference (Pair n b) c h = h

  -- the n-th of values of their types
  pub value_at : (ts : List ValueType) (vs : List Value) (i : ℕ) (t : ValueType) →
      HaveTypes P ts vs →
      slice_get ts i ≡ Some t →
      HasType P (slice_index_or vs i nothing) t
  value_at [] vs i t h e = absurd (none e)
    where
      none : None ≡ Some t → ⊥
      none e = cc
  value_at (u ∷ ts) [] i t h e = absurd h
  value_at (u ∷ ts) (v ∷ vs) zero t h e = let is : u ≡ t = cc in subst (λ z. HasType P v z) is h.0
  value_at (u ∷ ts) (v ∷ vs) (suc i) t h e = value_at ts vs i t h.1 e

  module _ (null : (n : ℕ) (t : ValueType) → n ≡ 0 → P n t) where
    -- a literal, whose reference is null
    literal_type : (v : Value) (t : ValueType) → HasType (λ n t. n ≡ 0) v t → HasType P v t
    literal_type (Int z) types.Int h = h
    literal_type (Boolean b) types.Boolean h = tt
    literal_type (Reference n) types.BooleanArray h = null n types.BooleanArray h
    literal_type (Reference n) (types.Class c) h = null n (types.Class c) h
    literal_type (Reference n) types.Lock h = null n types.Lock h
    literal_type (Reference n) (types.Markable c) h = null n (types.Markable c) h
    literal_type (Int z) types.Boolean h = absurd h
    literal_type (Int z) types.BooleanArray h = absurd h
    literal_type (Int z) (types.Class c) h = absurd h
    literal_type (Int z) types.Lock h = absurd h
    literal_type (Int z) (types.Markable c) h = absurd h
    literal_type (Boolean b) types.Int h = absurd h
    literal_type (Boolean b) types.BooleanArray h = absurd h
    literal_type (Boolean b) (types.Class c) h = absurd h
    literal_type (Boolean b) types.Lock h = absurd h
    literal_type (Boolean b) (types.Markable c) h = absurd h
    literal_type (Reference n) types.Int h = absurd h
    literal_type (Reference n) types.Boolean h = absurd h
    literal_type (Pair n b) types.Int h = absurd h
    literal_type (Pair n b) types.Boolean h = absurd h
    literal_type (Pair n b) types.BooleanArray h = absurd h
    literal_type (Pair n b) (types.Class c) h = absurd h
    literal_type (Pair n b) types.Lock h = absurd h
    literal_type (Pair n b) (types.Markable c) h = absurd h

    -- a constant has its sort, whatever is asked of references
    pub literal_sort : (v : Value) (s : Sort) → HasSort (λ n t. n ≡ 0) s v → HasSort P s v
    literal_sort v NoValue h = h
    literal_sort v (ValueOf t) h = literal_type v t h
    literal_sort v (NewOf t) h = (h.0, literal_type v t h.1)
    literal_sort (Pair n b) (PairOf c) h = null n (types.Class c) h
    literal_sort (Int z) (PairOf c) h = absurd h
    literal_sort (Boolean b) (PairOf c) h = absurd h
    literal_sort (Reference n) (PairOf c) h = absurd h

    -- a start value has its type
    pub start_has : (t : ValueType) → HasType P (start_of t) t
    start_has types.Int = search rules
    start_has types.Boolean = tt
    start_has types.BooleanArray = null 0 types.BooleanArray refl
    start_has (types.Class c) = null 0 (types.Class c) refl
    start_has types.Lock = null 0 types.Lock refl
    start_has (types.Markable c) = null 0 (types.Markable c) refl
