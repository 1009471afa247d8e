-- What it means that an action does to the cells what it does to the store.
use Rattle.std.proofs.Common.{◌≡◌, ℕ, zero, suc, ◌+◌, ◌<◌, ◌≤◌, List, [], ◌∷◌, ◌++◌, length, Some, refl, ap, ◌∙◌, subst}
use Rattle.std.proofs.Common.{slice_get, slice_set}
use Rattle.ls_events.specs.declared.value.Value.{Value}
use Rattle.ls_events.specs.declared.value.Value.TheVariants.{Int, Boolean, Reference, Pair}
use Rattle.ls_events.specs.declared.value.ValueType.{ValueType}
use Rattle.ls_events.specs.declared.value.ValueType.TheVariants as type
use Rattle.ls_events.specs.declared.action.Action.{Action}
use Rattle.ls_events.specs.declared.action.Answer.{Answer}
use Rattle.ls_checked.specs.CheckedTree.{Class}
use Rattle.ls_meaning.specs.declared.sort.Sort.{Sort}
use Rattle.ls_meaning.specs.declared.sort.Sort.TheVariants.{ValueOf, NewOf, PairOf}
use Rattle.ls_meaning.specs.Store.{Hold, Free, HeldBy, Thing, Object, LockOf, Markable, Array, Store}
use Rattle.ls_meaning.specs.Effect.{Effect, Waits, Does}
use Rattle.ls_meaning.specs.Threads.{Goes}
use Rattle.ls_code.specs.Cells.{Cells}
use Rattle.ls_code.specs.Cells as machine
use Rattle.ls_preservation.specs.InWords.{written, map_answer}
use Rattle.ls_preservation.specs.Sorts.{Refers, HasTypeBy, HasSortBy, HasType, fields_of, Suits}
use Rattle.ls_preservation.specs.Same.{total}
use Rattle.ls_preservation.proofs.Lists.{get_left, get_within}
use Rattle.ls_preservation.proofs.Cells.{sizes_of, address, all_cells, AgreeTo}

-- as many values as types, each of its type
abbrev pub HaveTypes : List ValueType → List Value → List ValueType → Type 0
HaveTypes σ [] [] = Unit {0}
HaveTypes σ (v ∷ vs) (s ∷ ss) = HasType σ v s × HaveTypes σ vs ss
HaveTypes σ _ _ = ⊥

-- a hold that can come about
abbrev pub IsHold : Hold → Type 0
IsHold Free = Unit {0}
IsHold (HeldBy owner holds) = (1 ≤ holds) × (holds ≤ 2147483647)

-- a thing of a type: its parts have the types that they should have
abbrev pub ThingHas : List Class → List ValueType → Thing → ValueType → Type 0
ThingHas classes σ (Object monitor vs) (type.Class c) = (c < length classes) × HaveTypes σ vs (fields_of classes c) ×
    IsHold monitor
ThingHas classes σ (LockOf hold) type.Lock = IsHold hold
ThingHas classes σ (Markable v) (type.Markable c) = HasSortBy (Refers σ) v (PairOf c)
ThingHas classes σ (Array size items) type.BooleanArray = (i : ℕ) → i < size → HasType σ (items i) type.Boolean
ThingHas classes σ _ _ = ⊥

-- as many things as types, each of its type
abbrev pub ThingsHave : List Class → List ValueType → List Thing → List ValueType → Type 0
ThingsHave classes σ [] [] = Unit {0}
ThingsHave classes σ (o ∷ os) (s ∷ ss) = ThingHas classes σ o s × ThingsHave classes σ os ss
ThingsHave classes σ _ _ = ⊥

-- all that had a type has it still
abbrev pub Extends : List ValueType → List ValueType → Type 0
Extends σ σ' = (n : ℕ) (s : ValueType) → slice_get σ n ≡ Some s → slice_get σ' n ≡ Some s

pub type_more : (P Q : ℕ → ValueType → Type 0) →
    ((n : ℕ) (s : ValueType) → P n s → Q n s) →
    (v : Value) (s : ValueType) →
    HasTypeBy P v s →
    HasTypeBy Q v s
type_more P Q f (Int z) type.Int h = h
type_more P Q f (Boolean b) type.Boolean h = tt
type_more P Q f (Reference n) type.BooleanArray h = f n type.BooleanArray h
type_more P Q f (Reference n) (type.Class c) h = f n (type.Class c) h
type_more P Q f (Reference n) type.Lock h = f n type.Lock h
type_more P Q f (Reference n) (type.Markable c) h = f n (type.Markable c) h
type_more P Q f _ _ h = absurd h

-- a value keeps its sort if less is asked of a reference
pub sort_more : (P Q : ℕ → ValueType → Type 0) →
    ((n : ℕ) (s : ValueType) → P n s → Q n s) →
    (v : Value) (s : Sort) →
    HasSortBy P v s →
    HasSortBy Q v s
sort_more P Q f v (ValueOf t) h = type_more P Q f v t h
sort_more P Q f (Reference n) (NewOf t) h = (h.0, f n t h.1)
sort_more P Q f (Pair n m) (PairOf c) h = f n (type.Class c) h
sort_more P Q f _ _ h = absurd h

-- a reference keeps its type if there are more things
pub refers_more : (σ σ' : List ValueType) → Extends σ σ' → (n : ℕ) (s : ValueType) → Refers σ n s → Refers σ' n s
refers_more σ σ' e zero s h = tt
refers_more σ σ' e (suc n) s h = e n s h

-- values keep their types if there are more things
pub many_more : (σ σ' : List ValueType) →
    Extends σ σ' →
    (vs : List Value) (ss : List ValueType) →
    HaveTypes σ vs ss →
    HaveTypes σ' vs ss
many_more σ σ' e [] [] h = tt
many_more σ σ' e [] (s ∷ ss) h = absurd h
many_more σ σ' e (v ∷ vs) [] h = absurd h
many_more σ σ' e (v ∷ vs) (s ∷ ss) h = (
  type_more (Refers σ) (Refers σ') (refers_more σ σ' e) v s h.0,
  many_more σ σ' e vs ss h.1,
)

-- there are as many values as types
pub many_length : (σ : List ValueType) (vs : List Value) (ss : List ValueType) →
    HaveTypes σ vs ss →
    length vs ≡ length ss
many_length σ [] [] h = refl
many_length σ [] (s ∷ ss) h = absurd h
many_length σ (v ∷ vs) [] h = absurd h
many_length σ (v ∷ vs) (s ∷ ss) h = ap suc (many_length σ vs ss h.1)

module _ (classes : List Class) where
  -- a thing keeps its type if there are more things
  pub thing_more : (σ σ' : List ValueType) →
      Extends σ σ' →
      (o : Thing) (s : ValueType) →
      ThingHas classes σ o s →
      ThingHas classes σ' o s
  thing_more σ σ' e (Object monitor vs) (type.Class c) h = (h.0, many_more σ σ' e vs (fields_of classes c) h.1, h.2)
  thing_more σ σ' e (LockOf hold) type.Lock h = h
  thing_more σ σ' e (Markable v) (type.Markable c) h = sort_more (Refers σ) (Refers σ') (refers_more σ σ' e) v
      (PairOf c) h
  thing_more σ σ' e (Array n items) type.BooleanArray h = λ i l.
      type_more (Refers σ) (Refers σ') (refers_more σ σ' e) (items i) type.Boolean (h i l)
  thing_more σ σ' e _ _ h = absurd h

  -- things keep their types if there are more things
  pub things_more : (σ σ' : List ValueType) →
      Extends σ σ' →
      (os : List Thing) (ss : List ValueType) →
      ThingsHave classes σ os ss →
      ThingsHave classes σ' os ss
  things_more σ σ' e [] [] h = tt
  things_more σ σ' e [] (s ∷ ss) h = absurd h
  things_more σ σ' e (o ∷ os) [] h = absurd h
  things_more σ σ' e (o ∷ os) (s ∷ ss) h = (thing_more σ σ' e o s h.0, things_more σ σ' e os ss h.1)

  -- one more thing of its type
  pub things_end : (σ : List ValueType) (os : List Thing) (ss : List ValueType) (o : Thing) (s : ValueType) →
      ThingsHave classes σ os ss →
      ThingHas classes σ o s →
      ThingsHave classes σ (os ++ o ∷ []) (ss ++ s ∷ [])
  things_end σ [] [] o s h g = (g, tt)
  things_end σ [] (r ∷ ss) o s h g = absurd h
  things_end σ (p ∷ os) [] o s h g = absurd h
  things_end σ (p ∷ os) (r ∷ ss) o s h g = (h.0, things_end σ os ss o s h.1 g)

  -- a thing is replaced by one of the same type
  pub things_set : (σ : List ValueType) (os : List Thing) (ss : List ValueType) (n : ℕ) (o : Thing) (s : ValueType) →
      ThingsHave classes σ os ss →
      slice_get ss n ≡ Some s →
      ThingHas classes σ o s →
      ThingsHave classes σ (slice_set os n o) ss
  things_set σ [] [] n o s h e g = tt
  things_set σ [] (r ∷ ss) n o s h e g = absurd h
  things_set σ (p ∷ os) [] n o s h e g = absurd h
  things_set σ (p ∷ os) (r ∷ ss) zero o s h e g = let e1 : s ≡ r = cc in (subst (λ z. ThingHas classes σ o z) e1 g, h.1)
  things_set σ (p ∷ os) (r ∷ ss) (suc n) o s h e g = (h.0, things_set σ os ss n o s h.1 e g)

  -- there are as many things as types
  pub things_length : (σ : List ValueType) (os : List Thing) (ss : List ValueType) →
      ThingsHave classes σ os ss →
      length ss ≡ length os
  things_length σ [] [] h = refl
  things_length σ [] (s ∷ ss) h = absurd h
  things_length σ (o ∷ os) [] h = absurd h
  things_length σ (o ∷ os) (s ∷ ss) h = ap suc (things_length σ os ss h.1)

  -- the thing that a reference names
  pub thing_there : (σ : List ValueType) (os : List Thing) (ss : List ValueType) (n : ℕ) (s : ValueType) →
      ThingsHave classes σ os ss →
      slice_get ss n ≡ Some s →
      (o : Thing) × (slice_get os n ≡ Some o) × ThingHas classes σ o s
  thing_there σ [] [] n s h e = cc
  thing_there σ [] (r ∷ ss) n s h e = absurd h
  thing_there σ (o ∷ os) [] n s h e = absurd h
  thing_there σ (o ∷ os) (r ∷ ss) zero s h e = let e1 : r ≡ s = cc in
      (o, refl, subst (λ z. ThingHas classes σ o z) e1 h.0)
  thing_there σ (o ∷ os) (r ∷ ss) (suc n) s h e = thing_there σ os ss n s h.1 e

-- the value of a type in the list exists
pub value_there : (σ : List ValueType) (vs : List Value) (ss : List ValueType) (f : ℕ) (s : ValueType) →
    HaveTypes σ vs ss →
    slice_get ss f ≡ Some s →
    (v : Value) × (slice_get vs f ≡ Some v) × HasType σ v s
value_there σ [] [] f s h e = cc
value_there σ [] (r ∷ ss) f s h e = absurd h
value_there σ (v ∷ vs) [] f s h e = absurd h
value_there σ (v ∷ vs) (r ∷ ss) zero s h e = let e1 : r ≡ s = cc in (v, refl, subst (λ z. HasType σ v z) e1 h.0)
value_there σ (v ∷ vs) (r ∷ ss) (suc f) s h e = value_there σ vs ss f s h.1 e

-- a value is replaced by one of the same type
pub values_set : (σ : List ValueType) (vs : List Value) (ss : List ValueType) (f : ℕ) (v : Value) (s : ValueType) →
    HaveTypes σ vs ss →
    slice_get ss f ≡ Some s →
    HasType σ v s →
    HaveTypes σ (slice_set vs f v) ss
values_set σ [] [] f v s h e g = tt
values_set σ [] (r ∷ ss) f v s h e g = absurd h
values_set σ (p ∷ vs) [] f v s h e g = absurd h
values_set σ (p ∷ vs) (r ∷ ss) zero v s h e g = let e1 : s ≡ r = cc in (subst (λ z. HasType σ v z) e1 g, h.1)
values_set σ (p ∷ vs) (r ∷ ss) (suc f) v s h e g = (h.0, values_set σ vs ss f v s h.1 e g)

-- a list of types with one more extends the list
pub extends_end : (σ : List ValueType) (s : ValueType) → Extends σ (σ ++ s ∷ [])
extends_end σ s n r h = get_left σ (s ∷ []) n (get_within σ n r h) ∙ h

-- the renaming of a store's things to their addresses, after the cells of this many names
abbrev pub renaming : ℕ → Store → ℕ → ℕ
renaming names st = address names (sizes_of st.things)

-- The cells hold the store, whose things and names have these types.
pub record Holds (classes : List Class) (named : List ValueType) (sizes : List ℕ) (room : ℕ) (σ : List ValueType)
    (st : Store) (c : Cells) : Type 0 where
  pub words : c.words ≡ all_cells (renaming (length named) st) st.names st.things
  pub limit : c.limit ≡ room
  pub count : c.names ≡ length named
  pub table : c.sizes ≡ sizes
  pub within : length c.words ≤ room
  pub typed : ThingsHave classes σ st.things σ
  pub names : HaveTypes σ st.names named

-- a later store
pub record Grows (names : ℕ) (st st' : Store) : Type 0 where
  pub places : AgreeTo (length st.things) (renaming names st) (renaming names st')
  pub things : length st.things ≤ length st'.things
  pub cells : total st.things ≤ total st'.things

-- both did the same
pub record Done (classes : List Class) (named : List ValueType) (sizes : List ℕ) (room : ℕ) (σ : List ValueType)
    (st : Store) (a : Action Value) (s : Sort) (st' : Store) (x : Answer Value) (c' : Cells) (w : Answer ℕ) : Type 0
  where
    pub sorts : List ValueType
    pub extends : Extends σ sorts
    pub holds : Holds classes named sizes room sorts st' c'
    pub suits : Suits (Refers sorts) (Goes a s) x
    pub word : w ≡ map_answer (written (renaming (length named) st')) x
    pub grows : Grows (length named) st st'

-- What an action does on both sides agrees. Both wait, or both answer and the cells hold the new store; or the machine
-- stops, since there is no room.
abbrev pub Agrees : List Class →
    List ValueType →
    List ℕ →
    ℕ →
    List ValueType →
    Store →
    Action Value →
    Sort →
    Effect →
    machine.Effect →
    Type 0
Agrees classes named sizes room σ st a s Waits machine.Waits = Unit {0}
Agrees classes named sizes room σ st a s (Does st' x) (machine.Answers c' w) = Done classes named sizes room σ st a s
    st' x c' w
Agrees classes named sizes room σ st a s (Does st' x) machine.Stops = room < length named + total st'.things
Agrees classes named sizes room σ st a s _ _ = ⊥
