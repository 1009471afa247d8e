-- What the others leave of a lock that a thread has seen.
use Rattle.std.proofs.Common.{◌≡◌, ◌≢◌, ◌⊎◌, inl, inr, ℕ, zero, suc, ◌+◌, ◌-◌, ◌==◌, Bool, true, false, List, [], ◌∷◌}
use Rattle.std.proofs.Common.{length, Option, Some, None, refl, sym, ap, ◌∙◌, subst, arith, slice_get, slice_set}
use Rattle.std.proofs.Common.{nat_eq, nat_lt, if◌then◌else◌}
use Rattle.std.proofs.lemmas.Bool.Decides.{eqb_tells, nat_tests}
use Rattle.ls_events.specs.declared.value.Value.{Value}
use Rattle.ls_events.specs.declared.value.ValueType.{ValueType}
use Rattle.ls_events.specs.declared.value.ValueType.TheVariants as type
use Rattle.ls_events.specs.declared.kind.Kind.TheVariants.{Error}
use Rattle.ls_events.specs.declared.action.Action.{Action}
use Rattle.ls_events.specs.declared.action.Action.TheVariants as act
use Rattle.ls_events.specs.declared.action.Answer.{Answer}
use Rattle.ls_events.specs.declared.action.Answer.TheVariants.{Done, Fails}
use Rattle.ls_checked.specs.CheckedTree.{Class, File}
use Rattle.ls_checked.specs.CheckedProgram.{Program}
use Rattle.ls_meaning.specs.declared.sort.Sort.{Sort}
use Rattle.ls_meaning.specs.Store.{Hold, Free, HeldBy, Thing, Object, LockOf, Markable, Array, Store, thing_at}
use Rattle.ls_meaning.specs.Store.{with_thing, with_new}
use Rattle.ls_meaning.specs.Effect.{Does, Change, Stays, Leaves, Holding, Awaits, Becomes, with_hold, locking, trying}
use Rattle.ls_meaning.specs.Effect.{unlocking, asking_held, change, put_back, at_thing, on_thing, effect}
use Rattle.ls_code.specs.Locks.{is_own}
use Rattle.ls_code.specs.Cells.{Cells, cell_at}
use Rattle.ls_preservation.specs.InWords.{map_action}
use Rattle.ls_preservation.specs.Sorts.{Names, ActionHas}
use Rattle.ls_preservation.proofs.Lists.{set_same, set_other, get_within, get_left}
use Rattle.ls_preservation.proofs.Cells.{hold_word}
use Rattle.ls_preservation.proofs.Effects.{IsHold, ThingHas, thing_there, renaming, Holds}
use Rattle.ls_preservation.proofs.FieldCases.{thing_is, put_is, cell_is}
use Rattle.ls_preservation.proofs.LockCases.{held_own}
use Rattle.ls_preservation.proofs.LockWords.{Fresh, fresh_apart, zero_not_own}

-- the hold of a thing; a thing without one is as if it were free
abbrev pub hold_in : Thing → Hold
hold_in (Object monitor vs) = monitor
hold_in (LockOf hold) = hold
hold_in (Markable v) = Free
hold_in (Array size items) = Free

abbrev pub CanBeHeld : Thing → Type 0
CanBeHeld (Object monitor vs) = Unit {0}
CanBeHeld (LockOf hold) = Unit {0}
CanBeHeld (Markable v) = ⊥
CanBeHeld (Array size items) = ⊥

abbrev pub NotHeldBy : ℕ → Hold → Type 0
NotHeldBy t Free = Unit {0}
NotHeldBy t (HeldBy owner holds) = owner ≢ t

-- a hold stays, or isn't this thread's before and after
abbrev HoldApart : ℕ → Hold → Hold → Type 0
HoldApart t g g' = (g' ≡ g) ⊎ (NotHeldBy t g × NotHeldBy t g')

abbrev pub Apart : ℕ → Thing → Thing → Type 0
Apart t o o' = HoldApart t (hold_in o) (hold_in o')

abbrev ApartIn : ℕ → Thing → Change → Type 0
ApartIn t o Stays = Unit {0}
ApartIn t o (Leaves o' x) = Apart t o o'

abbrev HoldApartIn : ℕ → Hold → Holding → Type 0
HoldApartIn t g Awaits = Unit {0}
HoldApartIn t g (Becomes g' x) = HoldApart t g g'

module _ (t u : ℕ) (d : u ≢ t) where
  own_if : (owner holds : ℕ) (b : Bool) →
      nat_eq owner u ≡ b →
      (mine away : Holding) →
      (owner ≡ u → HoldApartIn t (HeldBy owner holds) mine) →
      HoldApartIn t (HeldBy owner holds) away →
      HoldApartIn t (HeldBy owner holds) (if b then mine else away)
  own_if owner holds true e mine away f g = f (grind (arith, nat_tests))
  own_if owner holds false e mine away f g = g

  more_apart : (owner holds : ℕ) (x : Answer Value) (b : Bool) →
      owner ≡ u →
      HoldApartIn t (HeldBy owner holds) (if b then Becomes (HeldBy u (holds + 1)) x else
      Becomes (HeldBy u holds) (Fails Error))
  more_apart owner holds x true e = inr (λ z. d (sym e ∙ z), d)
  more_apart owner holds x false e = inr (λ z. d (sym e ∙ z), d)

  less_apart : (holds : ℕ) (b : Bool) → NotHeldBy t (if b then HeldBy u (holds - 1) else Free)
  less_apart holds true = d
  less_apart holds false = tt

  lock_holds : (g : Hold) → HoldApartIn t g (locking u g)
  lock_holds Free = inr (tt, d)
  lock_holds (HeldBy owner holds) = own_if owner holds (nat_eq owner u) refl _ _
      (λ e. more_apart owner holds _ (nat_lt holds 2147483647) e) tt

  try_holds : (g : Hold) → HoldApartIn t g (trying u g)
  try_holds Free = inr (tt, d)
  try_holds (HeldBy owner holds) = own_if owner holds (nat_eq owner u) refl _ _
      (λ e. more_apart owner holds _ (nat_lt holds 2147483647) e) (inl refl)

  unlock_holds : (g : Hold) → HoldApartIn t g (unlocking u g)
  unlock_holds Free = inl refl
  unlock_holds (HeldBy owner holds) = own_if owner holds (nat_eq owner u) refl _ _
      (λ e. inr (λ z. d (sym e ∙ z), less_apart holds (nat_lt 1 holds))) (inl refl)

  ask_holds : (g : Hold) → HoldApartIn t g (asking_held u g)
  ask_holds Free = inl refl
  ask_holds (HeldBy owner holds) = inl refl

  in_lock : (g : Hold) (x : Holding) → HoldApartIn t g x → ApartIn t (LockOf g) (with_hold LockOf x)
  in_lock g Awaits h = tt
  in_lock g (Becomes g' y) h = h

  in_object : (vs : List Value) (g : Hold) (x : Holding) →
      HoldApartIn t g x →
      ApartIn t (Object g vs) (with_hold (λ h. Object h vs) x)
  in_object vs g Awaits h = tt
  in_object vs g (Becomes g' y) h = h

  change_apart : (a : Action Value) (o : Thing) → CanBeHeld o → ApartIn t o (change u a o)
  change_apart a (Markable v) h = absurd h
  change_apart a (Array size items) h = absurd h
  change_apart (act.ReadField o i) (LockOf g) h = inl refl
  change_apart (act.ReadField o i) (Object g vs) h = inl refl
  change_apart (act.WriteField o i v) (LockOf g) h = inl refl
  change_apart (act.WriteField o i v) (Object g vs) h = inl refl
  change_apart (act.ReadItem o i) (LockOf g) h = inl refl
  change_apart (act.ReadItem o i) (Object g vs) h = inl refl
  change_apart (act.WriteItem o i v) (LockOf g) h = inl refl
  change_apart (act.WriteItem o i v) (Object g vs) h = inl refl
  change_apart (act.ReadName o) (LockOf g) h = inl refl
  change_apart (act.ReadName o) (Object g vs) h = inl refl
  change_apart (act.WriteName o v) (LockOf g) h = inl refl
  change_apart (act.WriteName o v) (Object g vs) h = inl refl
  change_apart (act.New o) (LockOf g) h = inl refl
  change_apart (act.New o) (Object g vs) h = inl refl
  change_apart act.NewLock (LockOf g) h = inl refl
  change_apart act.NewLock (Object g vs) h = inl refl
  change_apart (act.NewMarkable v) (LockOf g) h = inl refl
  change_apart (act.NewMarkable v) (Object g vs) h = inl refl
  change_apart (act.NewArray o) (LockOf g) h = inl refl
  change_apart (act.NewArray o) (Object g vs) h = inl refl
  change_apart (act.Lock o) (LockOf g) h = in_lock g (locking u g) (lock_holds g)
  change_apart (act.Lock o) (Object g vs) h = inl refl
  change_apart (act.Unlock o) (LockOf g) h = in_lock g (unlocking u g) (unlock_holds g)
  change_apart (act.Unlock o) (Object g vs) h = inl refl
  change_apart (act.TryLock o) (LockOf g) h = in_lock g (trying u g) (try_holds g)
  change_apart (act.TryLock o) (Object g vs) h = inl refl
  change_apart (act.IsHeld o) (LockOf g) h = in_lock g (asking_held u g) (ask_holds g)
  change_apart (act.IsHeld o) (Object g vs) h = inl refl
  change_apart (act.LockMonitor o) (LockOf g) h = inl refl
  change_apart (act.LockMonitor o) (Object g vs) h = in_object vs g (locking u g) (lock_holds g)
  change_apart (act.UnlockMonitor o) (LockOf g) h = inl refl
  change_apart (act.UnlockMonitor o) (Object g vs) h = in_object vs g (unlocking u g) (unlock_holds g)
  change_apart (act.ReadPair o) (LockOf g) h = inl refl
  change_apart (act.ReadPair o) (Object g vs) h = inl refl
  change_apart (act.SetPair o v) (LockOf g) h = inl refl
  change_apart (act.SetPair o v) (Object g vs) h = inl refl
  change_apart (act.SwapPair o v w) (LockOf g) h = inl refl
  change_apart (act.SwapPair o v w) (Object g vs) h = inl refl
  change_apart (act.AttemptMark o r m) (LockOf g) h = inl refl
  change_apart (act.AttemptMark o r m) (Object g vs) h = inl refl
  change_apart act.Turn (LockOf g) h = inl refl
  change_apart act.Turn (Object g vs) h = inl refl
  change_apart (act.Enter o) (LockOf g) h = inl refl
  change_apart (act.Enter o) (Object g vs) h = inl refl
  change_apart (act.Call o) (LockOf g) h = inl refl
  change_apart (act.Call o) (Object g vs) h = inl refl
  change_apart (act.Return o v) (LockOf g) h = inl refl
  change_apart (act.Return o v) (Object g vs) h = inl refl
  change_apart (act.Trap o v) (LockOf g) h = inl refl
  change_apart (act.Trap o v) (Object g vs) h = inl refl

  module _ (classes : List Class) (st st' : Store) (y : Answer Value) (k : ℕ) (o : Thing)
      (at : slice_get st.things k ≡ Some o) (lock : CanBeHeld o) where
    abbrev After : Type 0
    After = (o' : Thing) × (slice_get st'.things k ≡ Some o') × Apart t o o'

    stays : (s1 : Store) → s1.things ≡ st.things → (x : Answer Value) → Does s1 x ≡ Does st' y → After
    stays s1 es x e = (let same : s1 ≡ st' = cc in (
      o,
      ap (λ z. slice_get z.things k) (sym same) ∙
          ap (λ l. slice_get l k) es ∙ at,
      inl refl,
    ))

    makes : (o1 : Thing) (x : Answer Value) → Does (with_new st o1) x ≡ Does st' y → After
    makes o1 x e =
        let same : with_new st o1 ≡ st' = cc in (
          o,
          ap (λ z. slice_get z.things k) (sym same) ∙ get_left st.things (o1 ∷ []) k (get_within st.things k o at) ∙
              at,
          inl refl,
        )

    puts : (j : ℕ) (c : Change) (p : Thing) →
        slice_get st.things j ≡ Some p →
        (j ≡ k → ApartIn t o c) →
        put_back st (suc j) c ≡ Does st' y →
        After
    puts j Stays p there f e = cc
    puts j (Leaves o1 x) p there f e =
        let same : with_thing st (suc j) o1 ≡ st' = cc in
        let things : st'.things ≡ slice_set st.things j o1 = ap (λ z. z.things) (sym same) ∙
        ap (λ z. z.things) (put_is st j o1) in
        at_place things (eqb_tells k j)
      where
        at_place : st'.things ≡ slice_set st.things j o1 →
            (((k == j) ≡ true) × (k ≡ j)) ⊎ (((k == j) ≡ false) × (k ≢ j)) →
            After
        at_place things (inl q) = (
          o1,
          ap (λ l. slice_get l k) things ∙ ap (slice_get (slice_set st.things j o1)) q.1 ∙
              set_same st.things j p o1 there,
          f (sym q.1),
        )
        at_place things (inr q) = (o, ap (λ l. slice_get l k) things ∙ set_other st.things j k o1 q.1 ∙ at, inl refl)

    on_place : (j : ℕ) (a : Action Value) (q : Option Thing) →
        slice_get st.things j ≡ q →
        at_thing st (suc j) q (change u a) ≡ Does st' y →
        After
    on_place j a None eq e = stays st refl Done e
    on_place j a (Some p) eq e =
        puts j (change u a p) p eq
        (λ same. (let both : p ≡ o = (let z : Some p ≡ Some o = sym eq ∙ ap (slice_get st.things) same ∙ at in cc)
        in subst (λ z. ApartIn t o (change u a z)) (sym both) (change_apart a o lock))) e

    on_apart : (n : ℕ) (a : Action Value) → on_thing st n u a ≡ Does st' y → After
    on_apart zero a e = (let none : thing_at st zero ≡ None = refl in
        stays st refl Done (sym (ap (λ q. at_thing st zero q (change u a)) none) ∙ e))
    on_apart (suc j) a e = on_place j a (slice_get st.things j) refl
        (sym (ap (λ q. at_thing st (suc j) q (change u a)) (thing_is st j)) ∙ e)

    -- what another thread's action leaves of a lock or of a monitor
    pub lock_apart : (a : Action Value) → effect classes st u a ≡ Does st' y → After
    lock_apart (act.ReadField o i) e = on_apart o (act.ReadField o i) e
    lock_apart (act.WriteField o i v) e = on_apart o (act.WriteField o i v) e
    lock_apart (act.ReadItem o i) e = on_apart o (act.ReadItem o i) e
    lock_apart (act.WriteItem o i v) e = on_apart o (act.WriteItem o i v) e
    lock_apart (act.ReadName o) e = stays st refl _ e
    lock_apart (act.WriteName o v) e = stays _ refl _ e
    lock_apart (act.New o) e = makes _ _ e
    lock_apart act.NewLock e = makes _ _ e
    lock_apart (act.NewMarkable v) e = makes _ _ e
    lock_apart (act.NewArray o) e = makes _ _ e
    lock_apart (act.Lock o) e = on_apart o (act.Lock o) e
    lock_apart (act.Unlock o) e = on_apart o (act.Unlock o) e
    lock_apart (act.TryLock o) e = on_apart o (act.TryLock o) e
    lock_apart (act.IsHeld o) e = on_apart o (act.IsHeld o) e
    lock_apart (act.LockMonitor o) e = on_apart o (act.LockMonitor o) e
    lock_apart (act.UnlockMonitor o) e = on_apart o (act.UnlockMonitor o) e
    lock_apart (act.ReadPair o) e = on_apart o (act.ReadPair o) e
    lock_apart (act.SetPair o v) e = on_apart o (act.SetPair o v) e
    lock_apart (act.SwapPair o v w) e = on_apart o (act.SwapPair o v w) e
    lock_apart (act.AttemptMark o r m) e = on_apart o (act.AttemptMark o r m) e
    lock_apart act.Turn e = stays st refl _ e
    lock_apart (act.Enter o) e = stays st refl _ e
    lock_apart (act.Call o) e = stays st refl _ e
    lock_apart (act.Return o v) e = stays st refl _ e
    lock_apart (act.Trap o v) e = stays st refl _ e

-- the word of a lock or of a monitor
abbrev pub lock_word : Thing → ℕ
lock_word o = hold_word (hold_in o)

-- the types of things that can be held
abbrev pub IsHeldType : ValueType → Type 0
IsHeldType (type.Class c) = Unit {0}
IsHeldType type.Lock = Unit {0}
IsHeldType _ = ⊥

can_be_held : (classes : List Class) (σ : List ValueType) (o : Thing) (s : ValueType) →
    IsHeldType s →
    ThingHas classes σ o s →
    CanBeHeld o
can_be_held classes σ (LockOf g) s i h = tt
can_be_held classes σ (Object g vs) s i h = tt
can_be_held classes σ (Markable v) (type.Markable c) i h = absurd i
can_be_held classes σ (Array size items) type.BooleanArray i h = absurd i
can_be_held classes σ _ _ i h = absurd h

-- the hold of a thing of a type is one that may be
pub hold_has : (classes : List Class) (σ : List ValueType) (o : Thing) (s : ValueType) →
    ThingHas classes σ o s →
    IsHold (hold_in o)
hold_has classes σ (LockOf g) type.Lock h = h
hold_has classes σ (Object g vs) (type.Class c) h = h.2
hold_has classes σ (Markable v) s h = tt
hold_has classes σ (Array size items) s h = tt
hold_has classes σ _ _ h = absurd h

not_own : (t : ℕ) (g : Hold) → IsHold g → NotHeldBy t g → is_own (hold_word g) t ≡ false
not_own t Free h n = zero_not_own t
not_own t (HeldBy owner holds) h n = (let e : nat_eq owner t ≡ false = grind (arith, nat_tests) in
    held_own owner holds t h.1 ∙ e)

-- a thread has seen a lock's word, and this holds of the word that is there now
abbrev pub Sees : Cells → ℕ → ℕ → ℕ → Type 0
Sees c t lock seen = (now : ℕ) × (cell_at c lock 0 ≡ Some now) × Fresh t seen now

module _ (classes : List Class) (named : List ValueType) (sizes : List ℕ) (room : ℕ) where
  -- the word of a lock is in the first cell of its thing
  pub word_there : (σ : List ValueType) (st : Store) (c : Cells) →
      Holds classes named sizes room σ st c →
      (k : ℕ) (o : Thing) (s : ValueType) →
      slice_get st.things k ≡ Some o →
      IsHeldType s →
      ThingHas classes σ o s →
      cell_at c (renaming (length named) st (suc k)) 0 ≡ Some (lock_word o)
  word_there σ st c holds k (LockOf g) s at i h = cell_is classes named sizes room σ st c holds k 0 (hold_word g)
      (LockOf g) at (omega arith) refl
  word_there σ st c holds k (Object g vs) s at i h = cell_is classes named sizes room σ st c holds k 0 (hold_word g)
      (Object g vs) at (omega arith) refl
  word_there σ st c holds k (Markable v) (type.Markable n) at i h = absurd i
  word_there σ st c holds k (Array size items) type.BooleanArray at i h = absurd i
  word_there σ st c holds k _ _ at i h = absurd h

  -- it stays so, whatever another thread does
  pub sees_kept : (σ σ' : List ValueType) (st st' : Store) (c c' : Cells) →
      Holds classes named sizes room σ st c →
      Holds classes named sizes room σ' st' c' →
      (t u : ℕ) →
      u ≢ t →
      (a : Action Value) (y : Answer Value) →
      effect classes st u a ≡ Does st' y →
      (n : ℕ) (s : ValueType) →
      IsHeldType s →
      Names σ n s →
      Names σ' n s →
      renaming (length named) st n ≡ renaming (length named) st' n →
      (w : ℕ) →
      Sees c t (renaming (length named) st n) w →
      Sees c' t (renaming (length named) st n) w
  sees_kept σ σ' st st' c c' holds holds' t u d a y does zero s i is is' same w sees = absurd is
  sees_kept σ σ' st st' c c' holds holds' t u d a y does (suc k) s i is is' same w (now, ec, fresh) =
      let r = thing_there classes σ st.things σ k s holds.typed is in
      let o = r.0 in
      let r' = thing_there classes σ' st'.things σ' k s holds'.typed is' in
      let after = lock_apart t u d classes st st' y k o r.1 (can_be_held classes σ o s i r.2) a does in
      let one : r'.0 ≡ after.0 = (let z : Some r'.0 ≡ Some after.0 = sym r'.1 ∙ after.1 in cc) in
      let has' : ThingHas classes σ' after.0 s = subst (λ z. ThingHas classes σ' z s) one r'.2 in
      let here : now ≡ lock_word o = (let z : Some now ≡ Some (lock_word o) = sym ec ∙
      word_there σ st c holds k o s r.1 i r.2 in cc) in (
        lock_word after.0,
        ap (λ z. cell_at c' z 0) same ∙ word_there σ' st' c' holds' k after.0 s after.1 i has',
        freshly (hold_in o) (hold_in after.0) (hold_has classes σ o s r.2) (hold_has classes σ' after.0 s has') here
            after.2,
      )
    where
      freshly : (g g' : Hold) → IsHold g → IsHold g' → now ≡ hold_word g → HoldApart t g g' → Fresh t w (hold_word g')
      freshly g g' h h' here (inl e) = subst (Fresh t w) (here ∙ ap hold_word (sym e)) fresh
      freshly g g' h h' here (inr n) = fresh_apart t w now (hold_word g') fresh
          (ap (λ z. is_own z t) here ∙ not_own t g h n.0, not_own t g' h' n.1)

-- the lock, or the object with the monitor, that an operation is on
abbrev pub lock_on : {V : Type 0} → Action V → Option ℕ
lock_on (act.Lock o) = Some o
lock_on (act.Unlock o) = Some o
lock_on (act.TryLock o) = Some o
lock_on (act.LockMonitor o) = Some o
lock_on (act.UnlockMonitor o) = Some o
lock_on _ = None

-- if an action is on a lock, that lock is a thing that can be held
abbrev pub LockNamed : List ValueType → Option ℕ → Type 0
LockNamed σ None = Unit {0}
LockNamed σ (Some o) = (s : ValueType) × IsHeldType s × Names σ o s

-- the lock of an action after a renaming
abbrev pub renamed_lock : (ℕ → ℕ) → Option ℕ → Option ℕ
renamed_lock ρ None = None
renamed_lock ρ (Some o) = Some (ρ o)

-- a renamed action is on the renamed lock
pub lock_renamed : (ρ : ℕ → ℕ) (f : Value → ℕ) (a : Action Value) →
    lock_on (map_action ρ f a) ≡ renamed_lock ρ (lock_on a)
lock_renamed ρ f (act.ReadField o i) = refl
lock_renamed ρ f (act.WriteField o i v) = refl
lock_renamed ρ f (act.ReadItem o i) = refl
lock_renamed ρ f (act.WriteItem o i v) = refl
lock_renamed ρ f (act.ReadName o) = refl
lock_renamed ρ f (act.WriteName o v) = refl
lock_renamed ρ f (act.New o) = refl
lock_renamed ρ f act.NewLock = refl
lock_renamed ρ f (act.NewMarkable v) = refl
lock_renamed ρ f (act.NewArray o) = refl
lock_renamed ρ f (act.Lock o) = refl
lock_renamed ρ f (act.Unlock o) = refl
lock_renamed ρ f (act.TryLock o) = refl
lock_renamed ρ f (act.IsHeld o) = refl
lock_renamed ρ f (act.LockMonitor o) = refl
lock_renamed ρ f (act.UnlockMonitor o) = refl
lock_renamed ρ f (act.ReadPair o) = refl
lock_renamed ρ f (act.SetPair o v) = refl
lock_renamed ρ f (act.SwapPair o v w) = refl
lock_renamed ρ f (act.AttemptMark o r m) = refl
lock_renamed ρ f act.Turn = refl
lock_renamed ρ f (act.Enter o) = refl
lock_renamed ρ f (act.Call o) = refl
lock_renamed ρ f (act.Return o v) = refl
lock_renamed ρ f (act.Trap o v) = refl

-- an action of the right types is on a thing that can be held
pub lock_named : (file : File) (program : Program) (σ : List ValueType) (t : ℕ) (a : Action Value) (q : Sort) →
    ActionHas file program σ t a q →
    LockNamed σ (lock_on a)
lock_named file program σ t (act.ReadField o i) q h = tt
lock_named file program σ t (act.WriteField o i v) q h = tt
lock_named file program σ t (act.ReadItem o i) q h = tt
lock_named file program σ t (act.WriteItem o i v) q h = tt
lock_named file program σ t (act.ReadName o) q h = tt
lock_named file program σ t (act.WriteName o v) q h = tt
lock_named file program σ t (act.New o) q h = tt
lock_named file program σ t act.NewLock q h = tt
lock_named file program σ t (act.NewMarkable v) q h = tt
lock_named file program σ t (act.NewArray o) q h = tt
lock_named file program σ t (act.Lock o) q h = (type.Lock, tt, h.0)
lock_named file program σ t (act.Unlock o) q h = (type.Lock, tt, h.0)
lock_named file program σ t (act.TryLock o) q h = (type.Lock, tt, h.0)
lock_named file program σ t (act.IsHeld o) q h = tt
lock_named file program σ t (act.LockMonitor o) q h = (type.Class h.0, tt, h.1)
lock_named file program σ t (act.UnlockMonitor o) q h = (type.Class h.0, tt, h.1)
lock_named file program σ t (act.ReadPair o) q h = tt
lock_named file program σ t (act.SetPair o v) q h = tt
lock_named file program σ t (act.SwapPair o v w) q h = tt
lock_named file program σ t (act.AttemptMark o r m) q h = tt
lock_named file program σ t act.Turn q h = tt
lock_named file program σ t (act.Enter o) q h = tt
lock_named file program σ t (act.Call o) q h = tt
lock_named file program σ t (act.Return o v) q h = tt
lock_named file program σ t (act.Trap o v) q h = tt
