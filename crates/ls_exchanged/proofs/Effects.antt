-- What actions do commutes with other numbers of threads.
use Rattle.std.proofs.Common.{◌≡◌, ℕ, ◌+◌, ◌-◌, Bool, true, false, cond, List, [], ◌∷◌, map}
use Rattle.std.proofs.Common.{Option, Some, None, slice_get, option_map, refl, sym, ap, ◌∙◌}
use Rattle.std.specs.Prelude.{nat_eq, nat_lt}
use Rattle.std.proofs.lemmas.List.{map-append, map-set, length-map}
use Rattle.std.proofs.lemmas.Option.{slice_get-map}
use Rattle.ls_events.specs.declared.value.Value.{Value}
use Rattle.ls_events.specs.declared.value.Value.TheVariants.{Boolean, Reference}
use Rattle.ls_events.specs.declared.action.Action.{Action}
use Rattle.ls_events.specs.declared.action.Action.TheVariants.{ReadField, WriteField, ReadItem, WriteItem, ReadName}
use Rattle.ls_events.specs.declared.action.Action.TheVariants.{WriteName, New, NewLock, NewMarkable, NewArray, Lock}
use Rattle.ls_events.specs.declared.action.Action.TheVariants.{Unlock, TryLock, IsHeld, LockMonitor, UnlockMonitor}
use Rattle.ls_events.specs.declared.action.Action.TheVariants.{ReadPair, SetPair, SwapPair, AttemptMark, Turn, Enter}
use Rattle.ls_events.specs.declared.action.Action.TheVariants.{Call, Return, Trap}
use Rattle.ls_events.specs.declared.action.Answer.{Answer}
use Rattle.ls_events.specs.declared.action.Answer.TheVariants.{Done, Gives}
use Rattle.ls_checked.specs.CheckedTree.{Class}
use Rattle.ls_meaning.specs.Values.{reference_of}
use Rattle.ls_meaning.specs.Store.{Hold, Free, HeldBy, Thing, Object, LockOf, Markable, Array, Store, thing_at}
use Rattle.ls_meaning.specs.Store.{new_number, with_new}
use Rattle.ls_meaning.specs.Effect.{Effect, Waits, Does, Change, Stays, Leaves, Holding, Awaits, Becomes, asking_held}
use Rattle.ls_meaning.specs.Effect.{at_thing, change, effect, fields_in, held_less, held_more, in_range, locking}
use Rattle.ls_meaning.specs.Effect.{making, most_holds, on_lock, on_monitor, put_back, same_pair, size_of, trying}
use Rattle.ls_meaning.specs.Effect.{unlocking, with_hold}

module _ (f : ℕ → ℕ) where
  -- a hold with the other number of its owner
  abbrev pub other_hold : Hold → Hold
  other_hold Free = Free
  other_hold (HeldBy owner holds) = HeldBy (f owner) holds

  -- a thing with such a hold
  abbrev pub other_thing : Thing → Thing
  other_thing (Object monitor fields) = Object (other_hold monitor) fields
  other_thing (LockOf hold) = LockOf (other_hold hold)
  other_thing (Markable pair) = Markable pair
  other_thing (Array size items) = Array size items

  -- a store of such things
  abbrev pub other_store : Store → Store
  other_store s = record { things = map other_thing s.things; names = s.names }

  abbrev other_holding : Holding → Holding
  other_holding Awaits = Awaits
  other_holding (Becomes hold answer) = Becomes (other_hold hold) answer

  abbrev other_change : Change → Change
  other_change Stays = Stays
  other_change (Leaves t answer) = Leaves (other_thing t) answer

  -- an effect that leaves such a store
  abbrev pub other_effect : Effect → Effect
  other_effect Waits = Waits
  other_effect (Does s answer) = Does (other_store s) answer

  module _ (same : (m n : ℕ) → nat_eq (f m) (f n) ≡ nat_eq m n) where
    -- ---- holds

    hold_cond : (b : Bool) (x y : Hold) → cond b (other_hold x) (other_hold y) ≡ other_hold (cond b x y)
    hold_cond true x y = refl
    hold_cond false x y = refl

    holding_cond : (b b' : Bool) (x x' y y' : Holding) →
        b' ≡ b →
        x' ≡ other_holding x →
        y' ≡ other_holding y →
        cond b' x' y' ≡ other_holding (cond b x y)
    holding_cond true b' x x' y y' e k l = ap (λ c. cond c x' y') e ∙ k
    holding_cond false b' x x' y y' e k l = ap (λ c. cond c x' y') e ∙ l

    more_other : (t holds : ℕ) (answer : Answer Value) →
        held_more (f t) holds answer ≡ other_holding (held_more t holds answer)
    more_other t holds answer =
        holding_cond (nat_lt holds most_holds) (nat_lt holds most_holds)
        (Becomes (HeldBy t (holds + 1)) answer) _ _ _ refl refl refl

    less_other : (t holds : ℕ) → held_less (f t) holds ≡ other_hold (held_less t holds)
    less_other t holds = hold_cond (nat_lt 1 holds) (HeldBy t (holds - 1)) Free

    locking_other : (t : ℕ) (h : Hold) → locking (f t) (other_hold h) ≡ other_holding (locking t h)
    locking_other t Free = refl
    locking_other t (HeldBy owner holds) =
        holding_cond (nat_eq owner t) (nat_eq (f owner) (f t)) (held_more t holds Done) (held_more (f t) holds Done)
        Awaits Awaits (same owner t) (more_other t holds Done) refl

    trying_other : (t : ℕ) (h : Hold) → trying (f t) (other_hold h) ≡ other_holding (trying t h)
    trying_other t Free = refl
    trying_other t (HeldBy owner holds) =
        holding_cond (nat_eq owner t) (nat_eq (f owner) (f t)) (held_more t holds (Gives (Boolean true)))
        (held_more (f t) holds (Gives (Boolean true))) (Becomes (HeldBy owner holds) (Gives (Boolean false)))
        (Becomes (HeldBy (f owner) holds) (Gives (Boolean false))) (same owner t)
        (more_other t holds (Gives (Boolean true))) refl

    unlocking_other : (t : ℕ) (h : Hold) → unlocking (f t) (other_hold h) ≡ other_holding (unlocking t h)
    unlocking_other t Free = refl
    unlocking_other t (HeldBy owner holds) =
        holding_cond (nat_eq owner t) (nat_eq (f owner) (f t)) (Becomes (held_less t holds) Done) _ _ _ (same owner t)
        (ap (λ h. Becomes h Done) (less_other t holds)) refl

    asking_other : (t : ℕ) (h : Hold) → asking_held (f t) (other_hold h) ≡ other_holding (asking_held t h)
    asking_other t Free = refl
    asking_other t (HeldBy owner holds) =
        ap (λ b. Becomes (HeldBy (f owner) holds) (Gives (Boolean b))) (same owner t)

    -- ---- things

    lock_other : (go go' : Hold → Holding) →
        ((h : Hold) → go' (other_hold h) ≡ other_holding (go h)) →
        (t : Thing) →
        on_lock go' (other_thing t) ≡ other_change (on_lock go t)
    lock_other go go' e (LockOf hold) = ap (with_hold LockOf) (e hold) ∙ by_holding (go hold)
      where
        by_holding : (g : Holding) → with_hold LockOf (other_holding g) ≡ other_change (with_hold LockOf g)
        by_holding Awaits = refl
        by_holding (Becomes h answer) = refl
    lock_other go go' e (Object monitor fields) = refl
    lock_other go go' e (Markable p) = refl
    lock_other go go' e (Array size items) = refl

    monitor_other : (go go' : Hold → Holding) →
        ((h : Hold) → go' (other_hold h) ≡ other_holding (go h)) →
        (t : Thing) →
        on_monitor go' (other_thing t) ≡ other_change (on_monitor go t)
    monitor_other go go' e (Object monitor fields) =
        ap (with_hold (λ h. Object h fields)) (e monitor) ∙ by_holding (go monitor)
      where
        by_holding : (g : Holding) →
            with_hold (λ h. Object h fields) (other_holding g) ≡ other_change (with_hold (λ h. Object h fields) g)
        by_holding Awaits = refl
        by_holding (Becomes h answer) = refl
    monitor_other go go' e (LockOf hold) = refl
    monitor_other go go' e (Markable p) = refl
    monitor_other go go' e (Array size items) = refl

    -- a choice between two changes
    change_cond : (b : Bool) (x x' y y' : Change) →
        x' ≡ other_change x →
        y' ≡ other_change y →
        cond b x' y' ≡ other_change (cond b x y)
    change_cond true x x' y y' k l = k
    change_cond false x x' y y' k l = l

    change_other : (t : ℕ) (a : Action Value) (x : Thing) →
        change (f t) a (other_thing x) ≡ other_change (change t a x)
    change_other t (ReadField o i) (Object monitor fields) = refl
    change_other t (ReadField o i) (LockOf hold) = refl
    change_other t (ReadField o i) (Markable p) = refl
    change_other t (ReadField o i) (Array size items) = refl
    change_other t (WriteField o i v) (Object monitor fields) = refl
    change_other t (WriteField o i v) (LockOf hold) = refl
    change_other t (WriteField o i v) (Markable p) = refl
    change_other t (WriteField o i v) (Array size items) = refl
    change_other t (ReadItem o i) (Object monitor fields) = refl
    change_other t (ReadItem o i) (LockOf hold) = refl
    change_other t (ReadItem o i) (Markable p) = refl
    change_other t (ReadItem o i) (Array size items) = change_cond (in_range i size) _ _ _ _ refl refl
    change_other t (WriteItem o i v) (Object monitor fields) = refl
    change_other t (WriteItem o i v) (LockOf hold) = refl
    change_other t (WriteItem o i v) (Markable p) = refl
    change_other t (WriteItem o i v) (Array size items) = change_cond (in_range i size) _ _ _ _ refl refl
    change_other t (Lock o) x = lock_other (locking t) (locking (f t)) (locking_other t) x
    change_other t (Unlock o) x = lock_other (unlocking t) (unlocking (f t)) (unlocking_other t) x
    change_other t (TryLock o) x = lock_other (trying t) (trying (f t)) (trying_other t) x
    change_other t (IsHeld o) x = lock_other (asking_held t) (asking_held (f t)) (asking_other t) x
    change_other t (LockMonitor o) x = monitor_other (locking t) (locking (f t)) (locking_other t) x
    change_other t (UnlockMonitor o) x = monitor_other (unlocking t) (unlocking (f t)) (unlocking_other t) x
    change_other t (ReadPair o) (Markable p) = refl
    change_other t (ReadPair o) (Object monitor fields) = refl
    change_other t (ReadPair o) (LockOf hold) = refl
    change_other t (ReadPair o) (Array size items) = refl
    change_other t (SetPair o v) (Markable p) = refl
    change_other t (SetPair o v) (Object monitor fields) = refl
    change_other t (SetPair o v) (LockOf hold) = refl
    change_other t (SetPair o v) (Array size items) = refl
    change_other t (SwapPair o p q) (Markable r) = change_cond (same_pair r p) _ _ _ _ refl refl
    change_other t (SwapPair o p q) (Object monitor fields) = refl
    change_other t (SwapPair o p q) (LockOf hold) = refl
    change_other t (SwapPair o p q) (Array size items) = refl
    change_other t (AttemptMark o r m) (Markable p) = change_cond (nat_eq (reference_of p) r) _ _ _ _ refl refl
    change_other t (AttemptMark o r m) (Object monitor fields) = refl
    change_other t (AttemptMark o r m) (LockOf hold) = refl
    change_other t (AttemptMark o r m) (Array size items) = refl
    change_other t (ReadName n) x = refl
    change_other t (WriteName n v) x = refl
    change_other t (New c) x = refl
    change_other t NewLock x = refl
    change_other t (NewMarkable p) x = refl
    change_other t (NewArray n) x = refl
    change_other t Turn x = refl
    change_other t (Enter m) x = refl
    change_other t (Call n) x = refl
    change_other t (Return n v) x = refl
    change_other t (Trap n kind) x = refl

    -- ---- stores

    -- the thing of a number is the same with the other number of its owner
    pub at_other : (s : Store) (o : ℕ) → thing_at (other_store s) o ≡ option_map other_thing (thing_at s o)
    at_other s o = by_null (nat_eq o 0)
      where
        by_null : (b : Bool) →
            cond b None (slice_get (map other_thing s.things) (o - 1)) ≡
            option_map other_thing (cond b None (slice_get s.things (o - 1)))
        by_null true = refl
        by_null false = slice_get-map other_thing s.things (o - 1)

    put_other : (s : Store) (o : ℕ) (c : Change) →
        put_back (other_store s) o (other_change c) ≡ other_effect (put_back s o c)
    put_other s o Stays = refl
    put_other s o (Leaves t answer) =
        ap (λ l. Does (record { things = l; names = s.names }) answer) (sym (map-set other_thing s.things (o - 1) t))

    on_other : (s : Store) (o t : ℕ) (a : Action Value) →
        at_thing (other_store s) o (thing_at (other_store s) o) (change (f t) a) ≡
        other_effect (at_thing s o (thing_at s o) (change t a))
    on_other s o t a =
        ap (λ x. at_thing (other_store s) o x (change (f t) a)) (at_other s o) ∙ by_thing (thing_at s o)
      where
        by_thing : (x : Option Thing) →
            at_thing (other_store s) o (option_map other_thing x) (change (f t) a) ≡
            other_effect (at_thing s o x (change t a))
        by_thing None = refl
        by_thing (Some x) = ap (put_back (other_store s) o) (change_other t a x) ∙ put_other s o (change t a x)

    making_other : (s : Store) (t : Thing) → making (other_store s) (other_thing t) ≡ other_effect (making s t)
    making_other s t =
        ap (λ l. Does (record { things = l; names = s.names }) (Gives (Reference (new_number (other_store s)))))
        (sym (map-append other_thing s.things (t ∷ [])))
        ∙ ap (λ n. Does (other_store (with_new s t)) (Gives (Reference (n + 1)))) (length-map s.things other_thing)

    -- an action of the thread with the other number does the same to the store with other numbers
    pub effect_other : (classes : List Class) (s : Store) (t : ℕ) (a : Action Value) →
        effect classes (other_store s) (f t) a ≡ other_effect (effect classes s t a)
    effect_other classes s t (ReadField o i) = on_other s o t (ReadField o i)
    effect_other classes s t (WriteField o i v) = on_other s o t (WriteField o i v)
    effect_other classes s t (ReadItem o i) = on_other s o t (ReadItem o i)
    effect_other classes s t (WriteItem o i v) = on_other s o t (WriteItem o i v)
    effect_other classes s t (Lock o) = on_other s o t (Lock o)
    effect_other classes s t (Unlock o) = on_other s o t (Unlock o)
    effect_other classes s t (TryLock o) = on_other s o t (TryLock o)
    effect_other classes s t (IsHeld o) = on_other s o t (IsHeld o)
    effect_other classes s t (LockMonitor o) = on_other s o t (LockMonitor o)
    effect_other classes s t (UnlockMonitor o) = on_other s o t (UnlockMonitor o)
    effect_other classes s t (ReadPair o) = on_other s o t (ReadPair o)
    effect_other classes s t (SetPair o v) = on_other s o t (SetPair o v)
    effect_other classes s t (SwapPair o p q) = on_other s o t (SwapPair o p q)
    effect_other classes s t (AttemptMark o r m) = on_other s o t (AttemptMark o r m)
    effect_other classes s t (ReadName n) = refl
    effect_other classes s t (WriteName n v) = refl
    effect_other classes s t (New c) = making_other s (Object Free (fields_in (slice_get classes c)))
    effect_other classes s t NewLock = making_other s (LockOf Free)
    effect_other classes s t (NewMarkable p) = making_other s (Markable p)
    effect_other classes s t (NewArray n) = making_other s (Array (size_of n) (λ i. Boolean false))
    effect_other classes s t Turn = refl
    effect_other classes s t (Enter m) = refl
    effect_other classes s t (Call n) = refl
    effect_other classes s t (Return n v) = refl
    effect_other classes s t (Trap n kind) = refl
