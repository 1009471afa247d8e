-- The locals of a method as it is entered.
use Rattle.std.proofs.Common.{rules, ◌≡◌, ℕ, zero, suc, ◌+◌, ◌≤◌, List, [], ◌∷◌, ◌++◌, length, map, take, replicate}
use Rattle.std.proofs.Common.{Option, Some, None, refl, sym, ap, ◌∙◌, subst, arith}
use Rattle.std.specs.Prelude.{slice_index, slice_index_or, slice_get}
use Rattle.std.proofs.lemmas.List.{length-map, length-replicate}
use Rattle.ls_events.specs.declared.value.Value.{Value}
use Rattle.ls_events.specs.declared.value.ValueType.{ValueType}
use Rattle.ls_events.specs.declared.value.ValueType.TheVariants as types
use Rattle.ls_meaning.specs.Values.{start_of, nothing}
use Rattle.ls_meaning.specs.Methods.{frame}
use Rattle.ls_refs.specs.ValueWords.{value_word}
use Rattle.ls_types_judgement.specs.Sorts.{HasType, HaveTypes}
use Rattle.ls_refs.proofs.Good.{Holds, get_within}

-- each start value has the word 0
pub start_word : (t : ValueType) → value_word (start_of t) ≡ 0
start_word types.Int = refl
start_word types.Boolean = refl
start_word types.BooleanArray = refl
start_word (types.Class c) = refl
start_word types.Lock = refl
start_word (types.Markable c) = refl

starts_word : (ts : List ValueType) (i : ℕ) → value_word (slice_index_or (map start_of ts) i nothing) ≡ 0
starts_word [] i = refl
starts_word (t ∷ ts) zero = start_word t
starts_word (t ∷ ts) (suc i) = starts_word ts i

zeros : (k i : ℕ) → slice_index (replicate k 0) i ≡ 0
zeros zero i = refl
zeros (suc k) zero = refl
zeros (suc k) (suc i) = zeros k i

abbrev or_int : Option ValueType → ValueType
or_int None = types.Int
or_int (Some t) = t

module _ (P : ℕ → ValueType → Type 0) (null : (n : ℕ) (t : ValueType) → n ≡ 0 → P n t) where
  -- the first value of a local has the local's type
  pub start_has : (t : ValueType) → HasType P (start_of t) t
  start_has types.Int = search rules
  start_has types.Boolean = tt
  start_has types.BooleanArray = null 0 types.BooleanArray refl
  start_has (types.Class c) = null 0 (types.Class c) refl
  start_has types.Lock = null 0 types.Lock refl
  start_has (types.Markable c) = null 0 (types.Markable c) refl

  starts_typed : (ts : List ValueType) (i : ℕ) (t : ValueType) →
      slice_get ts i ≡ Some t →
      HasType P (slice_index_or (map start_of ts) i nothing) t
  starts_typed [] i t e = absurd (let l = get_within {A = ValueType} [] i t e in let f : ⊥ = omega arith in f)
  starts_typed (u ∷ ts) zero t e = subst (λ z. HasType P (start_of u) z) (ap or_int e) (start_has u)
  starts_typed (u ∷ ts) (suc i) t e = starts_typed ts i t e

  -- the values are of the first slots' types
  abbrev pub Starts : List Value → List ValueType → Type 0
  Starts [] slots = Unit {0}
  Starts (v ∷ vs) [] = ⊥
  Starts (v ∷ vs) (t ∷ slots) = HasType P v t × Starts vs slots

  -- arguments of the parameters' types begin a frame
  pub starts_of : (vs : List Value) (p : ℕ) (slots : List ValueType) → HaveTypes P (take p slots) vs → Starts vs slots
  starts_of [] p slots h = tt
  starts_of (v ∷ vs) zero slots h = absurd h
  starts_of (v ∷ vs) (suc p) [] h = absurd h
  starts_of (v ∷ vs) (suc p) (t ∷ slots) h = (h.0, starts_of vs p slots h.1)

  -- there are as many arguments as parameters
  pub as_long : (vs : List Value) (p : ℕ) (slots : List ValueType) →
      p ≤ length slots →
      HaveTypes P (take p slots) vs →
      length vs ≡ p
  as_long [] zero slots l h = refl
  as_long [] (suc p) [] l h = absurd (let f : ⊥ = omega arith in f)
  as_long [] (suc p) (t ∷ slots) l h = absurd h
  as_long (v ∷ vs) zero slots l h = absurd h
  as_long (v ∷ vs) (suc p) [] l h = absurd h
  as_long (v ∷ vs) (suc p) (t ∷ slots) l h = ap suc (as_long vs p slots (omega arith) h.1)

  frame_long : (vs : List Value) (slots : List ValueType) → Starts vs slots → length (frame slots vs) ≡ length slots
  frame_long [] slots h = length-map slots start_of
  frame_long (v ∷ vs) [] h = absurd h
  frame_long (v ∷ vs) (t ∷ slots) h = ap suc (frame_long vs slots h.1)

  frame_typed : (vs : List Value) (slots : List ValueType) →
      Starts vs slots →
      (i : ℕ) (t : ValueType) →
      slice_get slots i ≡ Some t →
      HasType P (slice_index_or (frame slots vs) i nothing) t
  frame_typed [] slots h i t e = starts_typed slots i t e
  frame_typed (v ∷ vs) [] h i t e = absurd h
  frame_typed (v ∷ vs) (u ∷ slots) h zero t e = subst (λ z. HasType P v z) (ap or_int e) h.0
  frame_typed (v ∷ vs) (u ∷ slots) h (suc i) t e = frame_typed vs slots h.1 i t e

  frame_worded : (vs : List Value) (slots : List ValueType) (k : ℕ) →
      Starts vs slots →
      (i : ℕ) →
      slice_index (map value_word vs ++ replicate k 0) i ≡ value_word (slice_index_or (frame slots vs) i nothing)
  frame_worded [] slots k h i = zeros k i ∙ sym (starts_word slots i)
  frame_worded (v ∷ vs) [] k h i = absurd h
  frame_worded (v ∷ vs) (t ∷ slots) k h zero = refl
  frame_worded (v ∷ vs) (t ∷ slots) k h (suc i) = frame_worded vs slots k h.1 i

  -- a frame of such arguments is held by their words, with zeros after them
  pub frame_holds : (vs : List Value) (slots : List ValueType) (k : ℕ) →
      Starts vs slots →
      Holds P slots (frame slots vs) (map value_word vs ++ replicate k 0)
  frame_holds vs slots k h = record {
    long = frame_long vs slots h;
    typed = frame_typed vs slots h;
    worded = λ i l. frame_worded vs slots k h i;
  }

-- as many locals as there are values and further ones
pub frame_room : (vs : List Value) (k : ℕ) → length (map value_word vs ++ replicate k 0) ≡ length vs + k
frame_room [] k = length-replicate k 0 ∙ omega arith
frame_room (v ∷ vs) k = let e = frame_room vs k in omega (arith, e)
