-- What inner actions leave of a monitor, and what its lock and its unlock do.
use Rattle.std.proofs.Common.{◌≡◌, ◌≢◌, ◌⊎◌, inl, inr, ℕ, suc, ◌+◌, Bool, true, false, cond, List, Option, Some}
use Rattle.std.proofs.Common.{None, length, slice_set, refl, sym, ap, ◌∙◌, subst, arith, le_refl}
use Rattle.std.specs.Prelude.{nat_eq, nat_lt, ℤ}
use Rattle.std.proofs.lemmas.Bool.{cases_eq}
use Rattle.std.proofs.lemmas.Bool.Decides.{nat_tests}
use Rattle.ls_events.specs.declared.value.Value.{Value}
use Rattle.ls_events.specs.declared.action.Action.{Action}
use Rattle.ls_events.specs.declared.action.Action.TheVariants.{ReadField, WriteField, ReadItem, WriteItem, ReadName}
use Rattle.ls_events.specs.declared.action.Action.TheVariants.{WriteName, New, NewLock, NewMarkable, NewArray, Lock}
use Rattle.ls_events.specs.declared.action.Action.TheVariants.{Unlock, TryLock, IsHeld, LockMonitor, UnlockMonitor}
use Rattle.ls_events.specs.declared.action.Action.TheVariants.{ReadPair, SetPair, SwapPair, AttemptMark, Turn, Enter}
use Rattle.ls_events.specs.declared.action.Action.TheVariants.{Call, Return, Trap}
use Rattle.ls_events.specs.declared.action.Answer.{Answer}
use Rattle.ls_events.specs.declared.action.Answer.TheVariants.{Done}
use Rattle.ls_checked.specs.CheckedTree.{Class}
use Rattle.ls_meaning.specs.Store.{Hold, Free, HeldBy, Thing, Object, LockOf, Markable, Array, Store, thing_at}
use Rattle.ls_meaning.specs.Store.{with_thing, new_number}
use Rattle.ls_meaning.specs.Values.{reference_of}
use Rattle.ls_meaning.specs.Effect.{Waits, Does, Change, Holding, Stays, Leaves, asking_held, at_thing, change}
use Rattle.ls_meaning.specs.Effect.{effect, in_range, making, most_holds, put_back, same_pair, trying, unlocking}
use Rattle.ls_meaning.specs.Effect.{with_hold}
use Rattle.ls_meaning.specs.Runs.{event_of}
use Rattle.ls_search_laws.proofs.Stepping.{get_past}
use Rattle.ls_search_laws.proofs.Renaming.{at_suc, new_other, with_other, with_same}
use Rattle.ls_one_at_a_time.specs.Inner.{IsInner}

-- there is an object whose monitor is so
pub record HasMonitor (s : Store) (o : ℕ) (hold : Hold) : Type 0 where
  pub fields : List Value
  pub there : thing_at s o ≡ Some (Object hold fields)

does_store : {s s' : Store} {x y : Answer Value} → Does s x ≡ Does s' y → s' ≡ s
does_store p = cc

waits_not : {s : Store} {x : Answer Value} → Waits ≡ Does s x → ⊥
waits_not p = cc

some_is : {x y : Thing} → Some x ≡ Some y → x ≡ y
some_is p = cc

none_not : {x : Thing} → None ≡ Some x → ⊥
none_not p = cc

module _ (classes : List Class) (o : ℕ) (hold : Hold) where
  -- what is left of the monitor and of the names
  pub record Leaves' (s s' : Store) : Type 0 where
    pub monitor : HasMonitor s' o hold
    pub names : s'.names ≡ s.names

  record IsThere (t : Thing) : Type 0 where
    fields : List Value
    object : t ≡ Object hold fields

  abbrev KeepsHold : Change → Type 0
  KeepsHold Stays = Unit {0}
  KeepsHold (Leaves t answer) = IsThere t

  on_stays : (s s' : Store) (n t : ℕ) (a : Action Value) (y : Answer Value) → HasMonitor s o hold →
      ((fields : List Value) → KeepsHold (change t a (Object hold fields))) →
      at_thing s n (thing_at s n) (change t a) ≡ Does s' y → Leaves' s s'
  on_stays s s' n t a y h kept e = by_thing (thing_at s n) refl e
    where
      left : (x t' : Thing) → thing_at s n ≡ Some x → (n ≡ o → IsThere t') → (o ≡ n) ⊎ (o ≢ n) →
          HasMonitor (with_thing s n t') o hold
      left x t' there same (inl e) =
          let i = same (sym e) in
          record {
            fields = i.fields;
            there = ap (thing_at (with_thing s n t')) e ∙ with_same s n x t' there ∙ ap Some i.object;
          }
      left x t' there same (inr ne) = record { fields = h.fields; there = with_other s n o x t' there ne ∙ h.there }

      by_change : (x : Thing) → thing_at s n ≡ Some x → (c : Change) → (n ≡ o → KeepsHold c) →
          put_back s n c ≡ Does s' y → Leaves' s s'
      by_change x there Stays same e = absurd (waits_not e)
      by_change x there (Leaves t' answer) same e = subst (Leaves' s) (sym (does_store e))
          (record { monitor = left x t' there same (cases_eq o n); names = refl })

      of_object : (x : Thing) → thing_at s n ≡ Some x → n ≡ o → KeepsHold (change t a x)
      of_object x there e =
          let is : Object hold h.fields ≡ x = some_is (sym h.there ∙ ap (thing_at s) (sym e) ∙ there) in
          subst (λ z. KeepsHold (change t a z)) is (kept h.fields)

      by_thing : (x : Option Thing) → thing_at s n ≡ x → at_thing s n x (change t a) ≡ Does s' y → Leaves' s s'
      by_thing None there e = subst (Leaves' s) (sym (does_store e)) (record { monitor = h; names = refl })
      by_thing (Some x) there e = by_change x there (change t a x) (of_object x there) e

  new_stays : (s s' : Store) (x : Thing) (y : Answer Value) → HasMonitor s o hold → making s x ≡ Does s' y →
      Leaves' s s'
  new_stays s s' x y h e = subst (Leaves' s) (sym (does_store e)) (record {
    monitor = record { fields = h.fields; there = new_other s o x not_new ∙ h.there };
    names = refl;
  })
    where
      no_thing : thing_at s (new_number s) ≡ None
      no_thing =
          let k : length s.things + 1 ≡ suc (length s.things) = omega arith in
          ap (thing_at s) k ∙ at_suc s (length s.things) ∙ get_past s.things (length s.things)
          (le_refl (length s.things))

      not_new : o ≢ new_number s
      not_new k = none_not (sym no_thing ∙ ap (thing_at s) (sym k) ∙ h.there)

  pub same_stays : (s s' : Store) (x y : Answer Value) → HasMonitor s o hold → Does s x ≡ Does s' y → Leaves' s s'
  same_stays s s' x y h e = subst (Leaves' s) (sym (does_store e)) (record { monitor = h; names = refl })

  as_it_is : (fields : List Value) → IsThere (Object hold fields)
  as_it_is fields = record { fields = fields; object = refl }

  -- an inner action leaves the monitor and the names as they are
  pub inner_stays : (s s' : Store) (t : ℕ) (a : Action Value) (y : Answer Value) → HasMonitor s o hold → IsInner a →
      effect classes s t a ≡ Does s' y → Leaves' s s'
  inner_stays s s' t (ReadField n g) y h i e = on_stays s s' n t (ReadField n g) y h (λ fs. as_it_is fs) e
  inner_stays s s' t (WriteField n g w) y h i e =
      on_stays s s' n t (WriteField n g w) y h (λ fs. as_it_is (slice_set fs g w)) e
  inner_stays s s' t (ReadItem n j) y h i e = on_stays s s' n t (ReadItem n j) y h (λ fs. as_it_is fs) e
  inner_stays s s' t (WriteItem n j w) y h i e = on_stays s s' n t (WriteItem n j w) y h (λ fs. as_it_is fs) e
  inner_stays s s' t (Lock n) y h i e = absurd i
  inner_stays s s' t (Unlock n) y h i e = on_stays s s' n t (Unlock n) y h (λ fs. as_it_is fs) e
  inner_stays s s' t (TryLock n) y h i e = on_stays s s' n t (TryLock n) y h (λ fs. as_it_is fs) e
  inner_stays s s' t (IsHeld n) y h i e = on_stays s s' n t (IsHeld n) y h (λ fs. as_it_is fs) e
  inner_stays s s' t (LockMonitor n) y h i e = absurd i
  inner_stays s s' t (UnlockMonitor n) y h i e = absurd i
  inner_stays s s' t (ReadPair n) y h i e = on_stays s s' n t (ReadPair n) y h (λ fs. as_it_is fs) e
  inner_stays s s' t (SetPair n w) y h i e = on_stays s s' n t (SetPair n w) y h (λ fs. as_it_is fs) e
  inner_stays s s' t (SwapPair n p q) y h i e = on_stays s s' n t (SwapPair n p q) y h (λ fs. as_it_is fs) e
  inner_stays s s' t (AttemptMark n r b) y h i e = on_stays s s' n t (AttemptMark n r b) y h (λ fs. as_it_is fs) e
  inner_stays s s' t (ReadName n) y h i e = absurd i
  inner_stays s s' t (WriteName n w) y h i e = absurd i
  inner_stays s s' t (New c) y h i e = new_stays s s' _ y h e
  inner_stays s s' t NewLock y h i e = new_stays s s' _ y h e
  inner_stays s s' t (NewMarkable p) y h i e = new_stays s s' _ y h e
  inner_stays s s' t (NewArray n) y h i e = new_stays s s' _ y h e
  inner_stays s s' t Turn y h i e = same_stays s s' _ y h e
  inner_stays s s' t (Enter m) y h i e = same_stays s s' _ y h e
  inner_stays s s' t (Call n) y h i e = absurd i
  inner_stays s s' t (Return n w) y h i e = absurd i
  inner_stays s s' t (Trap n kind) y h i e = absurd i

-- ---- the monitor's own actions

-- an action that changes the monitor of an object alone
pub record Turns (classes : List Class) (s : Store) (t : ℕ) (a : Action Value) (o : ℕ) (hold : Hold) : Type 0 where
  pub store : Store
  pub does : effect classes s t a ≡ Does store Done
  pub monitor : HasMonitor store o hold
  pub names : store.names ≡ s.names

module _ (classes : List Class) (s : Store) (o t : ℕ) where
  -- a free monitor is taken
  pub takes : HasMonitor s o Free → Turns classes s t (LockMonitor o) o (HeldBy t 1)
  takes h = record {
    store = with_thing s o (Object (HeldBy t 1) h.fields);
    does = ap (λ x. at_thing s o x (change t (LockMonitor o))) h.there;
    monitor = record { fields = h.fields; there = with_same s o _ _ h.there };
    names = refl;
  }

  -- its owner gives it back
  pub frees : HasMonitor s o (HeldBy t 1) → Turns classes s t (UnlockMonitor o) o Free
  frees h = record {
    store = with_thing s o (Object Free h.fields);
    does =
        let own : nat_eq t t ≡ true = grind (arith, nat_tests) in
        ap (λ x. at_thing s o x (change t (UnlockMonitor o))) h.there
        ∙ rw own refl;
    monitor = record { fields = h.fields; there = with_same s o _ _ h.there };
    names = refl;
  }

  -- another thread waits for it
  pub waits : (u n : ℕ) → u ≢ t → HasMonitor s o (HeldBy u n) → effect classes s t (LockMonitor o) ≡ Waits
  waits u n ne h =
      let other : nat_eq u t ≡ false = grind (arith, nat_tests) in
      ap (λ x. at_thing s o x (change t (LockMonitor o))) h.there
      ∙ rw other refl

-- an inner action is no event
pub inner_silent : (t : ℕ) (a : Action Value) → IsInner a → event_of t a ≡ None
inner_silent t (Call n) i = absurd i
inner_silent t (Return n v) i = absurd i
inner_silent t (Trap n k) i = absurd i
inner_silent t _ i = refl

-- ---- no inner action waits

abbrev IsDone : Change → Type 0
IsDone Stays = ⊥
IsDone (Leaves t y) = Unit {0}

done_if : (b : Bool) (c d : Change) → IsDone c → IsDone d → IsDone (cond b c d)
done_if true c d h k = h
done_if false c d h k = k

does_not : {s : Store} {y : Answer Value} → Does s y ≡ Waits → ⊥
does_not p = cc

put_done : (s : Store) (n : ℕ) (c : Change) → IsDone c → put_back s n c ≡ Waits → ⊥
put_done s n Stays h e = h
put_done s n (Leaves t y) h e = does_not e

at_done : (s : Store) (n : ℕ) (x : Option Thing) (go : Thing → Change) → ((t : Thing) → IsDone (go t)) →
    at_thing s n x go ≡ Waits → ⊥
at_done s n None go h e = does_not e
at_done s n (Some t) go h e = put_done s n (go t) (h t) e

done_hold : (go : Hold → Thing) (b : Bool) (h k : Holding) → IsDone (with_hold go h) → IsDone (with_hold go k) →
    IsDone (with_hold go (cond b h k))
done_hold go true h k p q = p
done_hold go false h k p q = q

unlocks : (t : ℕ) (hold : Hold) → IsDone (with_hold LockOf (unlocking t hold))
unlocks t Free = tt
unlocks t (HeldBy owner holds) = done_hold LockOf (nat_eq owner t) _ _ tt tt

tries : (t : ℕ) (hold : Hold) → IsDone (with_hold LockOf (trying t hold))
tries t Free = tt
tries t (HeldBy owner holds) = done_hold LockOf (nat_eq owner t) _ _
    (done_hold LockOf (nat_lt holds most_holds) _ _ tt tt) tt

asks_held : (t : ℕ) (hold : Hold) → IsDone (with_hold LockOf (asking_held t hold))
asks_held t Free = tt
asks_held t (HeldBy owner holds) = tt

module _ (t n : ℕ) where
  field_read : (i : ℕ) (x : Thing) → IsDone (change t (ReadField n i) x)
  field_read i (Object m fs) = tt
  field_read i (LockOf h) = tt
  field_read i (Markable p) = tt
  field_read i (Array size items) = tt

  field_written : (i : ℕ) (v : Value) (x : Thing) → IsDone (change t (WriteField n i v) x)
  field_written i v (Object m fs) = tt
  field_written i v (LockOf h) = tt
  field_written i v (Markable p) = tt
  field_written i v (Array size items) = tt

  item_read : (i : ℤ) (x : Thing) → IsDone (change t (ReadItem n i) x)
  item_read i (Object m fs) = tt
  item_read i (LockOf h) = tt
  item_read i (Markable p) = tt
  item_read i (Array size items) = done_if (in_range i size) _ _ tt tt

  item_written : (i : ℤ) (v : Value) (x : Thing) → IsDone (change t (WriteItem n i v) x)
  item_written i v (Object m fs) = tt
  item_written i v (LockOf h) = tt
  item_written i v (Markable p) = tt
  item_written i v (Array size items) = done_if (in_range i size) _ _ tt tt

  unlocked : (x : Thing) → IsDone (change t (Unlock n) x)
  unlocked (Object m fs) = tt
  unlocked (LockOf h) = unlocks t h
  unlocked (Markable p) = tt
  unlocked (Array size items) = tt

  tried : (x : Thing) → IsDone (change t (TryLock n) x)
  tried (Object m fs) = tt
  tried (LockOf h) = tries t h
  tried (Markable p) = tt
  tried (Array size items) = tt

  asked_held : (x : Thing) → IsDone (change t (IsHeld n) x)
  asked_held (Object m fs) = tt
  asked_held (LockOf h) = asks_held t h
  asked_held (Markable p) = tt
  asked_held (Array size items) = tt

  pair_read : (x : Thing) → IsDone (change t (ReadPair n) x)
  pair_read (Object m fs) = tt
  pair_read (LockOf h) = tt
  pair_read (Markable p) = tt
  pair_read (Array size items) = tt

  pair_set : (v : Value) (x : Thing) → IsDone (change t (SetPair n v) x)
  pair_set v (Object m fs) = tt
  pair_set v (LockOf h) = tt
  pair_set v (Markable p) = tt
  pair_set v (Array size items) = tt

  pair_swapped : (p q : Value) (x : Thing) → IsDone (change t (SwapPair n p q) x)
  pair_swapped p q (Object m fs) = tt
  pair_swapped p q (LockOf h) = tt
  pair_swapped p q (Markable r) = done_if (same_pair r p) _ _ tt tt
  pair_swapped p q (Array size items) = tt

  attempted : (r : ℕ) (b : Bool) (x : Thing) → IsDone (change t (AttemptMark n r b) x)
  attempted r b (Object m fs) = tt
  attempted r b (LockOf h) = tt
  attempted r b (Markable p) = done_if (nat_eq (reference_of p) r) _ _ tt tt
  attempted r b (Array size items) = tt

-- an inner action never waits
pub inner_acts : (classes : List Class) (s : Store) (t : ℕ) (a : Action Value) → IsInner a →
    effect classes s t a ≡ Waits → ⊥
inner_acts classes s t (ReadField n g) i e = at_done s n (thing_at s n) _ (field_read t n g) e
inner_acts classes s t (WriteField n g w) i e = at_done s n (thing_at s n) _ (field_written t n g w) e
inner_acts classes s t (ReadItem n j) i e = at_done s n (thing_at s n) _ (item_read t n j) e
inner_acts classes s t (WriteItem n j w) i e = at_done s n (thing_at s n) _ (item_written t n j w) e
inner_acts classes s t (Lock n) i e = i
inner_acts classes s t (Unlock n) i e = at_done s n (thing_at s n) _ (unlocked t n) e
inner_acts classes s t (TryLock n) i e = at_done s n (thing_at s n) _ (tried t n) e
inner_acts classes s t (IsHeld n) i e = at_done s n (thing_at s n) _ (asked_held t n) e
inner_acts classes s t (LockMonitor n) i e = i
inner_acts classes s t (UnlockMonitor n) i e = i
inner_acts classes s t (ReadPair n) i e = at_done s n (thing_at s n) _ (pair_read t n) e
inner_acts classes s t (SetPair n w) i e = at_done s n (thing_at s n) _ (pair_set t n w) e
inner_acts classes s t (SwapPair n p q) i e = at_done s n (thing_at s n) _ (pair_swapped t n p q) e
inner_acts classes s t (AttemptMark n r b) i e = at_done s n (thing_at s n) _ (attempted t n r b) e
inner_acts classes s t (ReadName n) i e = i
inner_acts classes s t (WriteName n w) i e = i
inner_acts classes s t (New c) i e = does_not e
inner_acts classes s t NewLock i e = does_not e
inner_acts classes s t (NewMarkable p) i e = does_not e
inner_acts classes s t (NewArray n) i e = does_not e
inner_acts classes s t Turn i e = does_not e
inner_acts classes s t (Enter m) i e = does_not e
inner_acts classes s t (Call n) i e = i
inner_acts classes s t (Return n w) i e = i
inner_acts classes s t (Trap n kind) i e = i
