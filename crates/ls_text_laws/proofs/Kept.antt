-- What an action leaves in the store, and its answer, have their types again.
use Rattle.std.proofs.Common.{◌≡◌, ◌≢◌, ℕ, zero, suc, ◌+◌, ◌-◌, ◌<◌, ◌≤◌, ℤ, pos, negsuc, Bool, true, false, List, []}
use Rattle.std.proofs.Common.{◌∷◌, ◌++◌, length, map, Option, Some, None, refl, sym, subst, arith, slice_get, nat_eq}
use Rattle.std.proofs.Common.{nat_lt, if◌then◌else◌, rules}
use Rattle.std.proofs.lemmas.Bool.Decides.{nat_tests}
use Rattle.ls_events.specs.declared.kind.Kind.TheVariants.{ArrayIndexOutOfBounds, IllegalMonitorState, Error}
use Rattle.ls_events.specs.declared.value.Value.{Value}
use Rattle.ls_events.specs.declared.value.Value.TheVariants.{Boolean, Reference}
use Rattle.ls_events.specs.declared.value.ValueType.{ValueType}
use Rattle.ls_events.specs.declared.value.ValueType.TheVariants as type
use Rattle.ls_events.specs.declared.action.Action.{Action}
use Rattle.ls_events.specs.declared.action.Action.TheVariants.{ReadField, WriteField, ReadItem, WriteItem, ReadName}
use Rattle.ls_events.specs.declared.action.Action.TheVariants.{WriteName, New, NewLock, NewMarkable, NewArray, Lock}
use Rattle.ls_events.specs.declared.action.Action.TheVariants.{Unlock, TryLock, IsHeld, LockMonitor, UnlockMonitor}
use Rattle.ls_events.specs.declared.action.Action.TheVariants.{ReadPair, SetPair, SwapPair, AttemptMark, Turn, Enter}
use Rattle.ls_events.specs.declared.action.Action.TheVariants.{Call, Return, Trap}
use Rattle.ls_events.specs.declared.action.Answer.{Answer}
use Rattle.ls_events.specs.declared.action.Answer.TheVariants.{Done, Gives, Fails}
use Rattle.ls_checked.specs.CheckedTree.{Class, File}
use Rattle.ls_checked.specs.CheckedProgram.{Program}
use Rattle.ls_meaning.specs.declared.sort.Sort.{Sort}
use Rattle.ls_meaning.specs.declared.sort.Sort.TheVariants.{NoValue, ValueOf, NewOf, PairOf}
use Rattle.ls_meaning.specs.Values.{nothing, reference_of, start_of}
use Rattle.ls_meaning.specs.Store.{Hold, Free, HeldBy, Thing, Object, LockOf, Markable, Array, Store, with_name}
use Rattle.ls_meaning.specs.Store.{name_at}
use Rattle.ls_meaning.specs.Effect.{Effect, Waits, Does, Change, Stays, Leaves, Holding, Awaits, Becomes, with_item}
use Rattle.ls_meaning.specs.Effect.{held_more, held_less, locking, trying, unlocking, asking_held, with_hold, on_lock}
use Rattle.ls_meaning.specs.Effect.{on_monitor, same_pair, change, on_thing, put_back, making, fields_in, effect}
use Rattle.ls_meaning.specs.Threads.{Goes}
use Rattle.ls_preservation.specs.Sorts.{Refers, HasSortBy, HasType, NameHas, fields_by, fields_of, ActionHas, Suits}
use Rattle.ls_preservation.proofs.Lists.{index_there, get_end}
use Rattle.ls_preservation.proofs.Effects.{HaveTypes, IsHold, ThingHas, ThingsHave, Extends, thing_more, things_more}
use Rattle.ls_preservation.proofs.Effects.{things_end, things_set, things_length, thing_there, many_more, value_there}
use Rattle.ls_preservation.proofs.Effects.{values_set, extends_end}
use Rattle.ls_preservation.proofs.FieldCases.{put, on_is, back_is}
use Rattle.ls_preservation.proofs.AllCases.{names_of, name_typed}

-- fields at their start
start_has : (σ : List ValueType) (s : ValueType) → HasType σ (start_of s) s
start_has σ type.Int = search rules
start_has σ type.Boolean = tt
start_has σ type.BooleanArray = tt
start_has σ (type.Class c) = tt
start_has σ type.Lock = tt
start_has σ (type.Markable c) = tt

starts_have : (σ : List ValueType) (ss : List ValueType) → HaveTypes σ (map start_of ss) ss
starts_have σ [] = tt
starts_have σ (s ∷ ss) = (start_has σ s, starts_have σ ss)

fields_same : (o : Option Class) → fields_in o ≡ map start_of (fields_by o)
fields_same None = refl
fields_same (Some k) = refl

-- a store whose things and names have these types
pub record Holds (classes : List Class) (named σ : List ValueType) (st : Store) : Type 0 where
  pub typed : ThingsHave classes σ st.things σ
  pub names : HaveTypes σ st.names named

-- the store that is left, and the answer
pub record Kept (classes : List Class) (named σ : List ValueType) (a : Action Value) (s : Sort) (st' : Store)
    (x : Answer Value) : Type 0 where
  pub sorts : List ValueType
  pub extends : Extends σ sorts
  pub holds : Holds classes named sorts st'
  pub suits : Suits (Refers sorts) (Goes a s) x

module _ (classes : List Class) (named σ : List ValueType) where
  -- an action waits, or it leaves things of their types, and an answer that suits
  abbrev pub KeptBy : Action Value → Sort → Effect → Type 0
  KeptBy a s Waits = Unit {0}
  KeptBy a s (Does st' x) = Kept classes named σ a s st' x

  -- what is left of a thing of a type
  abbrev Left : ValueType → Action Value → Sort → Change → Type 0
  Left t a s Stays = Unit {0}
  Left t a s (Leaves o x) = ThingHas classes σ o t × Suits (Refers σ) (Goes a s) x

  left_if : (b : Bool) (t : ValueType) (a : Action Value) (s : Sort) (c d : Change) →
      Left t a s c →
      Left t a s d →
      Left t a s (if b then c else d)
  left_if true t a s c d h k = h
  left_if false t a s c d h k = k

  -- objects
  field_read : (t f k : ℕ) (n : ℕ) (s : ValueType) (o : Thing) →
      slice_get (fields_of classes k) f ≡ Some s →
      ThingHas classes σ o (type.Class k) →
      Left (type.Class k) (ReadField n f) (ValueOf s) (change t (ReadField n f) o)
  field_read t f k n s (Object m vs) field has =
      let there = value_there σ vs (fields_of classes k) f s has.1 field in
      (has, subst (λ v. HasType σ v s) (sym (index_there vs f there.0 nothing there.1)) there.2)
  field_read t f k n s _ field has = absurd has

  field_written : (t f k : ℕ) (n : ℕ) (v : Value) (s : ValueType) (o : Thing) →
      slice_get (fields_of classes k) f ≡ Some s →
      HasType σ v s →
      ThingHas classes σ o (type.Class k) →
      Left (type.Class k) (WriteField n f v) NoValue (change t (WriteField n f v) o)
  field_written t f k n v s (Object m vs) field hv has = (
    (
      has.0,
      values_set σ vs (fields_of classes k) f v s has.1 field hv,
      has.2,
    ),
    refl,
  )
  field_written t f k n v s _ field hv has = absurd has

  -- arrays
  item_read : (t n : ℕ) (i : ℤ) (o : Thing) →
      ThingHas classes σ o type.BooleanArray →
      Left type.BooleanArray (ReadItem n i) (ValueOf type.Boolean) (change t (ReadItem n i) o)
  item_read t n (negsuc k) (Array size items) has = (has, refl)
  item_read t n (pos k) (Array size items) has = by_test (nat_lt k size) refl
    where
      by_test : (b : Bool) →
          nat_lt k size ≡ b →
          Left type.BooleanArray (ReadItem n (pos k)) (ValueOf type.Boolean)
          (if b then Leaves (Array size items) (Gives (items k)) else
          Leaves (Array size items) (Fails ArrayIndexOutOfBounds))
      by_test true e = let h : k < size = grind (arith, nat_tests) in (has, has k h)
      by_test false e = (has, refl)
  item_read t n i _ has = absurd has

  item_typed : (items : ℕ → Value) (size k : ℕ) (v : Value) →
      ((i : ℕ) → i < size → HasType σ (items i) type.Boolean) →
      HasType σ v type.Boolean →
      (i : ℕ) →
      i < size →
      HasType σ (with_item items k v i) type.Boolean
  item_typed items size k v has hv i h = by_test (nat_eq i k)
    where
      by_test : (b : Bool) → HasType σ (if b then v else items i) type.Boolean
      by_test true = hv
      by_test false = has i h

  item_written : (t n : ℕ) (i : ℤ) (v : Value) (o : Thing) →
      HasType σ v type.Boolean →
      ThingHas classes σ o type.BooleanArray →
      Left type.BooleanArray (WriteItem n i v) NoValue (change t (WriteItem n i v) o)
  item_written t n (negsuc k) v (Array size items) hv has = (has, refl)
  item_written t n (pos k) v (Array size items) hv has =
      left_if (nat_lt k size) type.BooleanArray (WriteItem n (pos k) v) NoValue _ _
      (item_typed items size k v has hv, refl) (has, refl)
  item_written t n i v _ hv has = absurd has

  -- what is left of a hold
  abbrev HoldLeft : Action Value → Sort → Holding → Type 0
  HoldLeft a s Awaits = Unit {0}
  HoldLeft a s (Becomes h x) = IsHold h × Suits (Refers σ) (Goes a s) x

  hold_if : (b : Bool) (a : Action Value) (s : Sort) (c d : Holding) →
      HoldLeft a s c →
      HoldLeft a s d →
      HoldLeft a s (if b then c else d)
  hold_if true a s c d h k = h
  hold_if false a s c d h k = k

  more_holds : (t holds : ℕ) (a : Action Value) (s : Sort) (x : Answer Value) →
      (1 ≤ holds) × (holds ≤ 2147483647) →
      Suits (Refers σ) (Goes a s) x →
      Suits (Refers σ) (Goes a s) (Fails Error) →
      HoldLeft a s (held_more t holds x)
  more_holds t holds a s x has suit fail = by_test (nat_lt holds 2147483647) refl
    where
      by_test : (b : Bool) →
          nat_lt holds 2147483647 ≡ b →
          HoldLeft a s (if b then Becomes (HeldBy t (holds + 1)) x else Becomes (HeldBy t holds) (Fails Error))
      by_test true e = let h : holds < 2147483647 = grind (arith, nat_tests) in ((omega arith, omega arith), suit)
      by_test false e = (has, fail)

  locked : (t : ℕ) (a : Action Value) →
      Suits (Refers σ) (Goes a NoValue) (Fails Error) →
      (h : Hold) →
      IsHold h →
      HoldLeft a NoValue (locking t h)
  locked t a fail Free has = ((omega arith, omega arith), refl)
  locked t a fail (HeldBy owner holds) has = hold_if (nat_eq owner t) a NoValue _ Awaits
      (more_holds t holds a NoValue Done has refl fail) tt

  tried : (t n : ℕ) (h : Hold) → IsHold h → HoldLeft (TryLock n) (ValueOf type.Boolean) (trying t h)
  tried t n Free has = ((omega arith, omega arith), tt)
  tried t n (HeldBy owner holds) has =
      hold_if (nat_eq owner t) (TryLock n) (ValueOf type.Boolean) _ _
      (more_holds t holds (TryLock n) (ValueOf type.Boolean) (Gives (Boolean true)) has tt refl) (has, tt)

  less_holds : (t holds : ℕ) → (1 ≤ holds) × (holds ≤ 2147483647) → IsHold (held_less t holds)
  less_holds t holds has = by_test (nat_lt 1 holds) refl
    where
      by_test : (b : Bool) → nat_lt 1 holds ≡ b → IsHold (if b then HeldBy t (holds - 1) else Free)
      by_test true e = let h : 1 < holds = grind (arith, nat_tests) in (omega arith, omega arith)
      by_test false e = tt

  unlocked : (t : ℕ) (a : Action Value) →
      Suits (Refers σ) (Goes a NoValue) (Fails IllegalMonitorState) →
      (h : Hold) →
      IsHold h →
      HoldLeft a NoValue (unlocking t h)
  unlocked t a fail Free has = (tt, fail)
  unlocked t a fail (HeldBy owner holds) has = hold_if (nat_eq owner t) a NoValue _ _ (less_holds t holds has, refl)
      (has, fail)

  asked_held : (t n : ℕ) (h : Hold) → IsHold h → HoldLeft (IsHeld n) (ValueOf type.Boolean) (asking_held t h)
  asked_held t n Free has = (tt, tt)
  asked_held t n (HeldBy owner holds) has = (has, tt)

  -- of a lock, and of an object's monitor
  in_lock : (a : Action Value) (s : Sort) (go : Hold → Holding) →
      ((h : Hold) → IsHold h → HoldLeft a s (go h)) →
      (o : Thing) →
      ThingHas classes σ o type.Lock →
      Left type.Lock a s (on_lock go o)
  in_lock a s go f (LockOf h) has = by_hold (go h) (f h has)
    where
      by_hold : (x : Holding) → HoldLeft a s x → Left type.Lock a s (with_hold LockOf x)
      by_hold Awaits left = tt
      by_hold (Becomes g x) left = left
  in_lock a s go f _ has = absurd has

  in_object : (k : ℕ) (a : Action Value) (s : Sort) (go : Hold → Holding) →
      ((h : Hold) → IsHold h → HoldLeft a s (go h)) →
      (o : Thing) →
      ThingHas classes σ o (type.Class k) →
      Left (type.Class k) a s (on_monitor go o)
  in_object k a s go f (Object h vs) has = by_hold (go h) (f h has.2)
    where
      by_hold : (x : Holding) → HoldLeft a s x → Left (type.Class k) a s (with_hold (λ h. Object h vs) x)
      by_hold Awaits left = tt
      by_hold (Becomes g x) left = ((has.0, has.1, left.0), left.1)
  in_object k a s go f _ has = absurd has

  -- markables
  pair_read : (t n c : ℕ) (o : Thing) →
      ThingHas classes σ o (type.Markable c) →
      Left (type.Markable c) (ReadPair n) (PairOf c) (change t (ReadPair n) o)
  pair_read t n c (Markable v) has = (has, has)
  pair_read t n c _ has = absurd has

  pair_set : (t n c : ℕ) (v : Value) (o : Thing) →
      HasSortBy (Refers σ) v (PairOf c) →
      ThingHas classes σ o (type.Markable c) →
      Left (type.Markable c) (SetPair n v) NoValue (change t (SetPair n v) o)
  pair_set t n c v (Markable p) hv has = (hv, refl)
  pair_set t n c v _ hv has = absurd has

  pair_swapped : (t n c : ℕ) (e v : Value) (o : Thing) →
      HasSortBy (Refers σ) v (PairOf c) →
      ThingHas classes σ o (type.Markable c) →
      Left (type.Markable c) (SwapPair n e v) (ValueOf type.Boolean) (change t (SwapPair n e v) o)
  pair_swapped t n c e v (Markable p) hv has = left_if (same_pair p e) (type.Markable c) (SwapPair n e v)
      (ValueOf type.Boolean) _ _ (hv, tt) (has, tt)
  pair_swapped t n c e v _ hv has = absurd has

  mark_set : (t n c r : ℕ) (m : Bool) (o : Thing) →
      Refers σ r (type.Class c) →
      ThingHas classes σ o (type.Markable c) →
      Left (type.Markable c) (AttemptMark n r m) (ValueOf type.Boolean) (change t (AttemptMark n r m) o)
  mark_set t n c r m (Markable p) hr has = left_if (nat_eq (reference_of p) r) (type.Markable c) (AttemptMark n r m)
      (ValueOf type.Boolean) _ _ (hr, tt) (has, tt)
  mark_set t n c r m _ hr has = absurd has

  module _ (st : Store) (h : Holds classes named σ st) where
    -- one thing is changed
    put_kept : (n : ℕ) (o : Thing) (t : ValueType) (a : Action Value) (s : Sort) (x : Answer Value) →
        slice_get σ n ≡ Some t →
        ThingHas classes σ o t →
        Suits (Refers σ) (Goes a s) x →
        Kept classes named σ a s (put st n o) x
    put_kept n o t a s x sort has suit = record {
      sorts = σ;
      extends = λ m r e. e;
      holds = record { typed = things_set classes σ st.things σ n o t h.typed sort has; names = h.names };
      suits = suit;
    }

    back_kept : (n : ℕ) (t : ValueType) (a : Action Value) (s : Sort) (c : Change) →
        slice_get σ n ≡ Some t →
        Left t a s c →
        KeptBy a s (put_back st (suc n) c)
    back_kept n t a s Stays sort left = tt
    back_kept n t a s (Leaves o x) sort left = subst (KeptBy a s) (sym (back_is st n o x))
        (put_kept n o t a s x sort left.0 left.1)

    on_kept : (thread n : ℕ) (t : ValueType) (a : Action Value) (r s : Sort) →
        r ≡ s →
        slice_get σ n ≡ Some t →
        ((o : Thing) → ThingHas classes σ o t → Left t a s (change thread a o)) →
        KeptBy a r (on_thing st (suc n) thread a)
    on_kept thread n t a r s e sort left =
        let there = thing_there classes σ st.things σ n t h.typed sort in
        subst (λ z. KeptBy a z (on_thing st (suc n) thread a)) (sym e)
        (subst (KeptBy a s) (sym (on_is st n thread a there.0 there.1))
        (back_kept n t a s (change thread a there.0) sort (left there.0 there.2)))

    -- a thing is made
    new_kept : (o : Thing) (t : ValueType) (a : Action Value) (s : Sort) →
        s ≡ NewOf t →
        ThingHas classes σ o t →
        KeptBy a s (making st o)
    new_kept o t a s e has =
        let long : length σ ≡ length st.things = things_length classes σ st.things σ h.typed in
        let at : slice_get (σ ++ t ∷ []) (length st.things) ≡ Some t = get_end σ (length st.things) t (sym long) in
        let one : length st.things + 1 ≡ suc (length st.things) = omega arith in
        let some : length st.things + 1 ≢ 0 = λ z. absurd (omega arith) in
        record {
          sorts = σ ++ t ∷ [];
          extends = extends_end σ t;
          holds = record {
            typed = things_end classes (σ ++ t ∷ []) st.things σ o t
                (things_more classes σ (σ ++ t ∷ []) (extends_end σ t) st.things σ h.typed)
                (thing_more classes σ (σ ++ t ∷ []) (extends_end σ t) o t has);
            names = many_more σ (σ ++ t ∷ []) (extends_end σ t) st.names named h.names;
          };
          suits = subst (λ z. HasSortBy (Refers (σ ++ t ∷ [])) (Reference (length st.things + 1)) z) (sym e)
              (some, subst (λ k. Refers (σ ++ t ∷ []) k t) (sym one) at);
        }

    -- nothing is changed
    still : (a : Action Value) (s : Sort) (x : Answer Value) →
        Suits (Refers σ) (Goes a s) x →
        Kept classes named σ a s st x
    still a s x suit = record { sorts = σ; extends = λ m r e. e; holds = h; suits = suit }

    object_made : (a : Action Value) (s : Sort) (k : ℕ) →
        s ≡ NewOf (type.Class k) →
        k < length classes →
        KeptBy a s (making st (Object Free (fields_in (slice_get classes k))))
    object_made a s k e there =
        subst (λ l. KeptBy a s (making st (Object Free l))) (sym (fields_same (slice_get classes k)))
        (new_kept (Object Free (map start_of (fields_of classes k))) (type.Class k) a s e
        (there, starts_have σ (fields_of classes k), tt))

module _ (file : File) (program : Program) (σ : List ValueType) (st : Store)
    (h : Holds file.classes (names_of program) σ st) where
  abbrev Keeps : Action Value → Sort → Effect → Type 0
  Keeps a s e = KeptBy file.classes (names_of program) σ a s e

  on : (thread n : ℕ) (t : ValueType) (a : Action Value) (r s : Sort) →
      r ≡ s →
      slice_get σ n ≡ Some t →
      ((o : Thing) → ThingHas file.classes σ o t → Left file.classes (names_of program) σ t a s (change thread a o)) →
      Keeps a r (on_thing st (suc n) thread a)
  on = on_kept file.classes (names_of program) σ st h

  name_read : (n : ℕ) (t : ValueType) (s : Sort) →
      s ≡ ValueOf t →
      NameHas program n t →
      Keeps (ReadName n) s (effect file.classes st 0 (ReadName n))
  name_read n t s e has =
      let there = value_there σ st.names (names_of program) n t h.names (name_typed program n t has) in
      still file.classes (names_of program) σ st h (ReadName n) s _
      (subst (λ z. HasSortBy (Refers σ) (name_at st n) z) (sym e)
      (subst (λ v. HasType σ v t) (sym (index_there st.names n there.0 nothing there.1)) there.2))

  name_written : (n : ℕ) (v : Value) (t : ValueType) (s : Sort) →
      s ≡ NoValue →
      NameHas program n t →
      HasType σ v t →
      Kept file.classes (names_of program) σ (WriteName n v) s (with_name st n v) Done
  name_written n v t s e has hv = record {
    sorts = σ;
    extends = λ m r k. k;
    holds = record {
      typed = h.typed;
      names = values_set σ st.names (names_of program) n v t h.names
          (name_typed program n t has) hv;
    };
    suits = e;
  }

  -- each action keeps the types
  pub effects_kept : (t : ℕ) (a : Action Value) (s : Sort) →
      ActionHas file program σ t a s →
      Keeps a s (effect file.classes st t a)
  effects_kept t (ReadField zero f) s i = absurd i.2
  effects_kept t (ReadField (suc n) f) s i = on t n (type.Class i.0) (ReadField (suc n) f) s (ValueOf i.1) i.4 i.2
      (λ o has. field_read file.classes (names_of program) σ t f i.0 (suc n) i.1 o i.3 has)
  effects_kept t (WriteField zero f v) s i = absurd i.2
  effects_kept t (WriteField (suc n) f v) s i = on t n (type.Class i.0) (WriteField (suc n) f v) s NoValue i.5 i.2
      (λ o has. field_written file.classes (names_of program) σ t f i.0 (suc n) v i.1 o i.3 i.4 has)
  effects_kept t (ReadItem zero k) s i = absurd i.0
  effects_kept t (ReadItem (suc n) k) s i = on t n type.BooleanArray (ReadItem (suc n) k) s (ValueOf type.Boolean) i.1
      i.0 (item_read file.classes (names_of program) σ t (suc n) k)
  effects_kept t (WriteItem zero k v) s i = absurd i.0
  effects_kept t (WriteItem (suc n) k v) s i = on t n type.BooleanArray (WriteItem (suc n) k v) s NoValue i.2 i.0
      (λ o has. item_written file.classes (names_of program) σ t (suc n) k v o i.1 has)
  effects_kept t (ReadName n) s i = name_read n i.0 s i.2 i.1
  effects_kept t (WriteName n v) s i = name_written n v i.0 s i.3 i.1 i.2
  effects_kept t (New k) s i = object_made file.classes (names_of program) σ st h (New k) s k i.1 i.0
  effects_kept t NewLock s i = new_kept file.classes (names_of program) σ st h (LockOf Free) type.Lock NewLock s i tt
  effects_kept t (NewMarkable v) s i = new_kept file.classes (names_of program) σ st h (Markable v) (type.Markable i.0)
      (NewMarkable v) s i.2 i.1
  effects_kept t (NewArray z) s i = new_kept file.classes (names_of program) σ st h _ type.BooleanArray (NewArray z) s
      i.2 (λ k l. tt)
  effects_kept t (Lock zero) s i = absurd i.0
  effects_kept t (Lock (suc n)) s i = on t n type.Lock (Lock (suc n)) s NoValue i.1 i.0
      (in_lock file.classes (names_of program) σ (Lock (suc n)) NoValue (locking t)
      (locked file.classes (names_of program) σ t (Lock (suc n)) refl))
  effects_kept t (Unlock zero) s i = absurd i.0
  effects_kept t (Unlock (suc n)) s i = on t n type.Lock (Unlock (suc n)) s NoValue i.1 i.0
      (in_lock file.classes (names_of program) σ (Unlock (suc n)) NoValue (unlocking t)
      (unlocked file.classes (names_of program) σ t (Unlock (suc n)) refl))
  effects_kept t (TryLock zero) s i = absurd i.0
  effects_kept t (TryLock (suc n)) s i = on t n type.Lock (TryLock (suc n)) s (ValueOf type.Boolean) i.1 i.0
      (in_lock file.classes (names_of program) σ (TryLock (suc n)) (ValueOf type.Boolean) (trying t)
      (tried file.classes (names_of program) σ t (suc n)))
  effects_kept t (IsHeld zero) s i = absurd i.0
  effects_kept t (IsHeld (suc n)) s i = on t n type.Lock (IsHeld (suc n)) s (ValueOf type.Boolean) i.1 i.0
      (in_lock file.classes (names_of program) σ (IsHeld (suc n)) (ValueOf type.Boolean) (asking_held t)
      (asked_held file.classes (names_of program) σ t (suc n)))
  effects_kept t (LockMonitor zero) s i = absurd i.1
  effects_kept t (LockMonitor (suc n)) s i = on t n (type.Class i.0) (LockMonitor (suc n)) s NoValue i.2 i.1
      (in_object file.classes (names_of program) σ i.0 (LockMonitor (suc n)) NoValue (locking t)
      (locked file.classes (names_of program) σ t (LockMonitor (suc n)) refl))
  effects_kept t (UnlockMonitor zero) s i = absurd i.1
  effects_kept t (UnlockMonitor (suc n)) s i = on t n (type.Class i.0) (UnlockMonitor (suc n)) s NoValue i.2 i.1
      (in_object file.classes (names_of program) σ i.0 (UnlockMonitor (suc n)) NoValue (unlocking t)
      (unlocked file.classes (names_of program) σ t (UnlockMonitor (suc n)) refl))
  effects_kept t (ReadPair zero) s i = absurd i.1
  effects_kept t (ReadPair (suc n)) s i = on t n (type.Markable i.0) (ReadPair (suc n)) s (PairOf i.0) i.2 i.1
      (pair_read file.classes (names_of program) σ t (suc n) i.0)
  effects_kept t (SetPair zero v) s i = absurd i.1
  effects_kept t (SetPair (suc n) v) s i = on t n (type.Markable i.0) (SetPair (suc n) v) s NoValue i.3 i.1
      (λ o has. pair_set file.classes (names_of program) σ t (suc n) i.0 v o i.2 has)
  effects_kept t (SwapPair zero e v) s i = absurd i.1
  effects_kept t (SwapPair (suc n) e v) s i = on t n (type.Markable i.0) (SwapPair (suc n) e v) s (ValueOf type.Boolean)
      i.4 i.1 (λ o has. pair_swapped file.classes (names_of program) σ t (suc n) i.0 e v o i.3 has)
  effects_kept t (AttemptMark zero r m) s i = absurd i.1
  effects_kept t (AttemptMark (suc n) r m) s i = on t n (type.Markable i.0) (AttemptMark (suc n) r m) s
      (ValueOf type.Boolean) i.3 i.1 (λ o has. mark_set file.classes (names_of program) σ t (suc n) i.0 r m o i.2 has)
  effects_kept t Turn s i = still file.classes (names_of program) σ st h Turn s Done i
  effects_kept t (Enter m) s i = still file.classes (names_of program) σ st h (Enter m) s Done i
  effects_kept t (Call n) s i = still file.classes (names_of program) σ st h (Call n) s Done i
  effects_kept t (Return n v) s i = still file.classes (names_of program) σ st h (Return n v) s Done i.1
  effects_kept t (Trap n k) s i = still file.classes (names_of program) σ st h (Trap n k) s Done i
