-- The words of values of their sorts.
use Rattle.std.proofs.Common.{◌≡◌, ◌≢◌, ℕ, ◌/◌, ◌%◌, ◌<◌, ◌^◌, true, false, refl, ap, ◌∙◌}
use Rattle.std.specs.Prelude.{FitsSigned}
use mir.Syntax.{w32}
use Rattle.ls_events.specs.declared.value.Value.{Value}
use Rattle.ls_events.specs.declared.value.Value.TheVariants.{Int, Boolean, Reference, Pair}
use Rattle.ls_events.specs.declared.value.ValueType.{ValueType}
use Rattle.ls_events.specs.declared.value.ValueType.TheVariants as types
use Rattle.ls_meaning.specs.declared.sort.Sort.TheVariants.{NoValue}
use Rattle.ls_meaning.specs.Values.{int_of, truth_of, reference_of, mark_of, pair_of, same}
use Rattle.ls_lowered.specs.Words as words
use Rattle.ls_refs.specs.ValueWords.{value_word}
use Rattle.ls_types_judgement.specs.Sorts.{HasType, HasSort, IsNew, IsPair}
use Rattle.ls_refs.proofs.Numbers.{same_ints, half_is, odd_is}

-- the types whose values are references alone
abbrev pub IsReference : ValueType → Type 0
IsReference types.Int = ⊥
IsReference types.Boolean = ⊥
IsReference types.BooleanArray = Unit {0}
IsReference (types.Class c) = Unit {0}
IsReference types.Lock = Unit {0}
IsReference (types.Markable c) = Unit {0}

module _ (P : ℕ → ValueType → Type 0) where
  -- the word of no value is 0
  pub nothing_word : (v : Value) → HasSort P NoValue v → value_word v ≡ 0
  nothing_word (Int z) h = absurd h
  nothing_word (Boolean b) h = absurd h
  nothing_word (Reference n) h = h
  nothing_word (Pair n b) h = absurd h

  -- the word of a new object isn't 0
  pub new_word : (v : Value) → IsNew v → value_word v ≢ 0
  new_word (Int z) h = absurd h
  new_word (Boolean b) h = absurd h
  new_word (Reference n) h = h
  new_word (Pair n b) h = absurd h

  -- the word of a reference is its number
  pub reference_word : (v : Value) (t : ValueType) → IsReference t → HasType P v t → value_word v ≡ reference_of v
  reference_word (Reference n) t r h = refl
  reference_word (Int z) types.Int r h = absurd r
  reference_word (Int z) types.Boolean r h = absurd h
  reference_word (Int z) types.BooleanArray r h = absurd h
  reference_word (Int z) (types.Class c) r h = absurd h
  reference_word (Int z) types.Lock r h = absurd h
  reference_word (Int z) (types.Markable c) r h = absurd h
  reference_word (Boolean b) types.Int r h = absurd h
  reference_word (Boolean b) types.Boolean r h = absurd r
  reference_word (Boolean b) types.BooleanArray r h = absurd h
  reference_word (Boolean b) (types.Class c) r h = absurd h
  reference_word (Boolean b) types.Lock r h = absurd h
  reference_word (Boolean b) (types.Markable c) r h = absurd h
  reference_word (Pair n b) types.Int r h = absurd h
  reference_word (Pair n b) types.Boolean r h = absurd h
  reference_word (Pair n b) types.BooleanArray r h = absurd h
  reference_word (Pair n b) (types.Class c) r h = absurd h
  reference_word (Pair n b) types.Lock r h = absurd h
  reference_word (Pair n b) (types.Markable c) r h = absurd h

  -- a value of a class is an object of that class, or null
  pub reference_has : (v : Value) (c : ℕ) → HasType P v (types.Class c) → P (reference_of v) (types.Class c)
  reference_has (Int z) c h = absurd h
  reference_has (Boolean b) c h = absurd h
  reference_has (Reference n) c h = h
  reference_has (Pair n b) c h = absurd h

  -- the word of a boolean is 1 or 0
  pub truth_word : (v : Value) → HasType P v types.Boolean → value_word v ≡ words.bool_word (truth_of v)
  truth_word (Int z) h = absurd h
  truth_word (Boolean b) h = refl
  truth_word (Reference n) h = absurd h
  truth_word (Pair n b) h = absurd h

  -- the word of an int is its two's complement
  pub int_word : (v : Value) → HasType P v types.Int → value_word v ≡ words.word_of (int_of v)
  int_word (Int z) h = refl
  int_word (Boolean b) h = absurd h
  int_word (Reference n) h = absurd h
  int_word (Pair n b) h = absurd h

  -- an int fits 32 bits
  pub int_fits : (v : Value) → HasType P v types.Int → FitsSigned w32 (int_of v)
  int_fits (Int z) h = h
  int_fits (Boolean b) h = absurd h
  int_fits (Reference n) h = absurd h
  int_fits (Pair n b) h = absurd h

  -- values of one type are the same exactly if their words are
  pub same_values : (t : ValueType) (v w : Value) →
      HasType P v t →
      HasType P w t →
      words.same_word (value_word v) (value_word w) ≡ words.bool_word (same v w)
  same_values types.Int (Int x) (Int y) h g = same_ints x y h g
  same_values types.Int (Int x) (Boolean y) h g = absurd g
  same_values types.Int (Int x) (Reference y) h g = absurd g
  same_values types.Int (Int x) (Pair y b) h g = absurd g
  same_values types.Int (Boolean x) w h g = absurd h
  same_values types.Int (Reference x) w h g = absurd h
  same_values types.Int (Pair x b) w h g = absurd h
  same_values types.Boolean (Boolean true) (Boolean true) h g = refl
  same_values types.Boolean (Boolean true) (Boolean false) h g = refl
  same_values types.Boolean (Boolean false) (Boolean true) h g = refl
  same_values types.Boolean (Boolean false) (Boolean false) h g = refl
  same_values types.Boolean (Boolean x) (Int y) h g = absurd g
  same_values types.Boolean (Boolean x) (Reference y) h g = absurd g
  same_values types.Boolean (Boolean x) (Pair y b) h g = absurd g
  same_values types.Boolean (Int x) w h g = absurd h
  same_values types.Boolean (Reference x) w h g = absurd h
  same_values types.Boolean (Pair x b) w h g = absurd h
  same_values t (Reference x) (Reference y) h g = refl
  same_values types.BooleanArray (Reference x) (Int y) h g = absurd g
  same_values types.BooleanArray (Reference x) (Boolean y) h g = absurd g
  same_values types.BooleanArray (Reference x) (Pair y b) h g = absurd g
  same_values (types.Class c) (Reference x) (Int y) h g = absurd g
  same_values (types.Class c) (Reference x) (Boolean y) h g = absurd g
  same_values (types.Class c) (Reference x) (Pair y b) h g = absurd g
  same_values types.Lock (Reference x) (Int y) h g = absurd g
  same_values types.Lock (Reference x) (Boolean y) h g = absurd g
  same_values types.Lock (Reference x) (Pair y b) h g = absurd g
  same_values (types.Markable c) (Reference x) (Int y) h g = absurd g
  same_values (types.Markable c) (Reference x) (Boolean y) h g = absurd g
  same_values (types.Markable c) (Reference x) (Pair y b) h g = absurd g
  same_values types.BooleanArray (Int x) w h g = absurd h
  same_values types.BooleanArray (Boolean x) w h g = absurd h
  same_values types.BooleanArray (Pair x b) w h g = absurd h
  same_values (types.Class c) (Int x) w h g = absurd h
  same_values (types.Class c) (Boolean x) w h g = absurd h
  same_values (types.Class c) (Pair x b) w h g = absurd h
  same_values types.Lock (Int x) w h g = absurd h
  same_values types.Lock (Boolean x) w h g = absurd h
  same_values types.Lock (Pair x b) w h g = absurd h
  same_values (types.Markable c) (Int x) w h g = absurd h
  same_values (types.Markable c) (Boolean x) w h g = absurd h
  same_values (types.Markable c) (Pair x b) w h g = absurd h

  -- the word of a pair is made of those of its reference and mark
  pub packed : (x m : Value) (c : ℕ) →
      HasType P x (types.Class c) →
      HasType P m types.Boolean →
      words.pair_word (value_word x) (value_word m) ≡ value_word (pair_of x m)
  packed x m c hx hm = ap (λ n. words.pair_word n (value_word m)) (reference_word x (types.Class c) tt hx) ∙
      ap (λ b. words.pair_word (reference_of x) b) (truth_word m hm)

  module _ (small : (n : ℕ) (t : ValueType) → P n t → n < 2 ^ 32) where
    -- half of the word of a pair is its reference
    pub half_word : (v : Value) (c : ℕ) → IsPair P c v → value_word v / 2 ≡ reference_of v
    half_word (Int z) c h = absurd h
    half_word (Boolean b) c h = absurd h
    half_word (Reference n) c h = absurd h
    half_word (Pair n b) c h = half_is n b (small n (types.Class c) h)

    -- the lowest bit of the word of a pair is its mark
    pub odd_word : (v : Value) (c : ℕ) → IsPair P c v → value_word v % 2 ≡ words.bool_word (mark_of v)
    odd_word (Int z) c h = absurd h
    odd_word (Boolean b) c h = absurd h
    odd_word (Reference n) c h = absurd h
    odd_word (Pair n b) c h = odd_is n b (small n (types.Class c) h)

  -- the reference of a pair is an object of its class, or null
  pub pair_has : (v : Value) (c : ℕ) → IsPair P c v → P (reference_of v) (types.Class c)
  pair_has (Int z) c h = absurd h
  pair_has (Boolean b) c h = absurd h
  pair_has (Reference n) c h = absurd h
  pair_has (Pair n b) c h = h
