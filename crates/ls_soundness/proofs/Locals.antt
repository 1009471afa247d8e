-- Locals of the types of their slots.
use Rattle.std.proofs.Common.{◌≡◌, ◌≢◌, ℕ, zero, suc, ◌<◌, ⊎_elim, List, [], ◌∷◌, length, map, take, Option, Some, None}
use Rattle.std.proofs.Common.{sym, ap, ◌∙◌, subst, arith}
use Rattle.std.specs.Prelude.{slice_index_or, slice_get, slice_set}
use Rattle.std.proofs.lemmas.List.{length-map, length-set, get_or-set_same, get_or-set_other}
use Rattle.std.proofs.lemmas.Bool.{cases_lt}
use Rattle.ls_events.specs.declared.value.Value.{Value}
use Rattle.ls_events.specs.declared.value.ValueType.{ValueType}
use Rattle.ls_meaning.specs.Values.{start_of, nothing}
use Rattle.ls_meaning.specs.Methods.{frame}
use Rattle.ls_types_judgement.specs.Sorts.{HasType, HaveTypes}
use Rattle.ls_soundness.proofs.Values.{start_has}

-- there are as many locals as slots, and each has the type of its slot
pub record Locals (P : ℕ → ValueType → Type 0) (slots : List ValueType) (ls : List Value) : Type 0 where
  pub long : length ls ≡ length slots
  pub typed : (i : ℕ) (t : ValueType) → slice_get slots i ≡ Some t → HasType P (slice_index_or ls i nothing) t

get_within : {A : Type 0} (xs : List A) (i : ℕ) (x : A) → slice_get xs i ≡ Some x → i < length xs
get_within [] i x e = absurd (none e)
  where
    none : {A : Type 0} {x : A} → None ≡ Some x → ⊥
    none e = cc
get_within (y ∷ xs) zero x e = omega arith
get_within (y ∷ xs) (suc i) x e = let l = get_within xs i x e in omega arith

at_or : (Q : ℕ → Type 0) (i j : ℕ) → Q i → (i ≢ j → Q j) → Q j
at_or Q i j a b = ⊎_elim (λ l. b (λ e. omega arith)) (λ l. ⊎_elim (λ k. b (λ e. omega arith))
    (λ k. let e : i ≡ j = omega arith in subst Q e a) (cases_lt i j)) (cases_lt j i)

one_type : (o : Option ValueType) (t u : ValueType) → o ≡ Some t → o ≡ Some u → t ≡ u
one_type o t u e f = let g : Some t ≡ Some u = sym e ∙ f in cc

module _ (P : ℕ → ValueType → Type 0) where
  -- a local is set
  pub locals_set : (slots : List ValueType) (ls : List Value) (i : ℕ) (t : ValueType) (v : Value) →
      slice_get slots i ≡ Some t →
      HasType P v t →
      Locals P slots ls →
      Locals P slots (slice_set ls i v)
  locals_set slots ls i t v e hv h =
      let within = get_within slots i t e in
      let here : i < length ls = omega (arith, within, h.long) in
      record {
        long = length-set ls i v ∙ h.long;
        typed = λ j s2 e2. at_or (λ k. (s3 : ValueType) → slice_get slots k ≡ Some s3 →
            HasType P (slice_index_or (slice_set ls i v) k nothing) s3) i j
            (λ s3 e3. subst (λ z. HasType P z s3) (sym (get_or-set_same ls i v nothing here))
            (subst (λ z. HasType P v z) (one_type _ _ _ e e3) hv))
            (λ ne s3 e3. subst (λ z. HasType P z s3) (sym (get_or-set_other ls i j v nothing (λ z. ne (sym z))))
            (h.typed j s3 e3)) s2 e2;
      }

  -- the values are of the first slots' types
  abbrev pub Starts : List Value → List ValueType → Type 0
  Starts [] slots = Unit {0}
  Starts (v ∷ vs) [] = ⊥
  Starts (v ∷ vs) (t ∷ slots) = HasType P v t × Starts vs slots

  -- if values have the types of the first p slots, the slots begin with their types
  pub starts_of : (vs : List Value) (p : ℕ) (slots : List ValueType) → HaveTypes P (take p slots) vs → Starts vs slots
  starts_of [] p slots h = tt
  starts_of (v ∷ vs) zero slots h = absurd h
  starts_of (v ∷ vs) (suc p) [] h = absurd h
  starts_of (v ∷ vs) (suc p) (t ∷ slots) h = (h.0, starts_of vs p slots h.1)

  module _ (null : (n : ℕ) (t : ValueType) → n ≡ 0 → P n t) where
    starts_typed : (ts : List ValueType) (i : ℕ) (t : ValueType) →
        slice_get ts i ≡ Some t →
        HasType P (slice_index_or (map start_of ts) i nothing) t
    starts_typed [] i t e = absurd (let l = get_within {A = ValueType} [] i t e in let f : ⊥ = omega arith in f)
    starts_typed (u ∷ ts) zero t e = let is : u ≡ t = cc in subst (λ z. HasType P (start_of u) z) is
        (start_has P null u)
    starts_typed (u ∷ ts) (suc i) t e = starts_typed ts i t e

    frame_long : (vs : List Value) (slots : List ValueType) → Starts vs slots → length (frame slots vs) ≡ length slots
    frame_long [] slots h = length-map slots start_of
    frame_long (v ∷ vs) [] h = absurd h
    frame_long (v ∷ vs) (t ∷ slots) h = ap suc (frame_long vs slots h.1)

    frame_typed : (vs : List Value) (slots : List ValueType) →
        Starts vs slots →
        (i : ℕ) (t : ValueType) →
        slice_get slots i ≡ Some t →
        HasType P (slice_index_or (frame slots vs) i nothing) t
    frame_typed [] slots h i t e = starts_typed slots i t e
    frame_typed (v ∷ vs) [] h i t e = absurd h
    frame_typed (v ∷ vs) (u ∷ slots) h zero t e = let is : u ≡ t = cc in subst (λ z. HasType P v z) is h.0
    frame_typed (v ∷ vs) (u ∷ slots) h (suc i) t e = frame_typed vs slots h.1 i t e

    -- as a method is entered
    pub frame_locals : (vs : List Value) (slots : List ValueType) → Starts vs slots → Locals P slots (frame slots vs)
    frame_locals vs slots h = record { long = frame_long vs slots h; typed = frame_typed vs slots h }
