-- Actions that only read.
use Rattle.std.proofs.Common.{◌≡◌, ℕ, zero, suc, ◌-◌, ℤ, Bool, true, false, cond, List, [], ◌∷◌, Option, Some, None}
use Rattle.std.proofs.Common.{slice_get, slice_set, refl, sym, ap, ◌∙◌}
use Rattle.std.specs.Prelude.{nat_eq, unsigned_abs}
use Rattle.ls_events.specs.declared.value.Value.{Value}
use Rattle.ls_events.specs.declared.kind.Kind.TheVariants.{ArrayIndexOutOfBounds}
use Rattle.ls_events.specs.declared.action.Action.{Action}
use Rattle.ls_events.specs.declared.action.Action.TheVariants.{ReadField, ReadItem, ReadName, IsHeld, ReadPair, Turn}
use Rattle.ls_events.specs.declared.action.Action.TheVariants.{Enter}
use Rattle.ls_events.specs.declared.action.Answer.{Answer}
use Rattle.ls_events.specs.declared.action.Answer.TheVariants.{Done, Gives, Fails}
use Rattle.ls_checked.specs.CheckedTree.{Class}
use Rattle.ls_meaning.specs.Store.{Free, HeldBy, Thing, Object, LockOf, Markable, Array, Store, thing_at, with_thing}
use Rattle.ls_meaning.specs.Effect.{Change, Leaves, Effect, Does, at_thing, change, effect}
use Rattle.ls_meaning.specs.Effect.{in_range, put_back}
use Rattle.ls_meaning.specs.Runs.{event_of}
use Rattle.ls_search_laws.specs.AtOnce.{IsReading}

-- a thing is left as it is
abbrev Same : Thing → Change → Type 0
Same t c = (answer : Answer Value) × (c ≡ Leaves t answer)

item_same : (i : ℤ) (size : ℕ) (items : ℕ → Value) (b : Bool) →
    Same (Array size items) (cond b (Leaves (Array size items) (Gives (items (unsigned_abs i))))
    (Leaves (Array size items) (Fails ArrayIndexOutOfBounds)))
item_same i size items true = (Gives (items (unsigned_abs i)), refl)
item_same i size items false = (Fails ArrayIndexOutOfBounds, refl)

reading_change : (thread : ℕ) (a : Action Value) → IsReading a → (t : Thing) → Same t (change thread a t)
reading_change thread (ReadField o f) h (Object monitor fields) = (_, refl)
reading_change thread (ReadField o f) h (LockOf hold) = (_, refl)
reading_change thread (ReadField o f) h (Markable p) = (_, refl)
reading_change thread (ReadField o f) h (Array size items) = (_, refl)
reading_change thread (ReadItem o i) h (Object monitor fields) = (_, refl)
reading_change thread (ReadItem o i) h (LockOf hold) = (_, refl)
reading_change thread (ReadItem o i) h (Markable p) = (_, refl)
reading_change thread (ReadItem o i) h (Array size items) = item_same i size items (in_range i size)
reading_change thread (IsHeld o) h (Object monitor fields) = (_, refl)
reading_change thread (IsHeld o) h (LockOf Free) = (_, refl)
reading_change thread (IsHeld o) h (LockOf (HeldBy owner holds)) = (_, refl)
reading_change thread (IsHeld o) h (Markable p) = (_, refl)
reading_change thread (IsHeld o) h (Array size items) = (_, refl)
reading_change thread (ReadPair o) h (Object monitor fields) = (_, refl)
reading_change thread (ReadPair o) h (LockOf hold) = (_, refl)
reading_change thread (ReadPair o) h (Markable p) = (_, refl)
reading_change thread (ReadPair o) h (Array size items) = (_, refl)
reading_change thread (ReadName n) h t = (_, refl)
reading_change thread Turn h t = (_, refl)
reading_change thread (Enter m) h t = (_, refl)
reading_change thread _ h t = absurd h

set_same : (ts : List Thing) (k : ℕ) (t : Thing) → slice_get ts k ≡ Some t → slice_set ts k t ≡ ts
set_same [] k t h = refl
set_same (x ∷ ts) zero t h = ap (λ y. y ∷ ts) (some_is t x h)
  where
    some_is : (y z : Thing) → Some z ≡ Some y → y ≡ z
    some_is y z e = cc
set_same (x ∷ ts) (suc k) t h = ap (λ l. x ∷ l) (set_same ts k t h)

pub thing_same : (s : Store) (o : ℕ) (t : Thing) → thing_at s o ≡ Some t → with_thing s o t ≡ s
thing_same s o t h = by_null (nat_eq o 0) h
  where
    none_not : None ≡ Some t → ⊥
    none_not e = cc

    by_null : (b : Bool) → cond b None (slice_get s.things (o - 1)) ≡ Some t → with_thing s o t ≡ s
    by_null true e = absurd (none_not e)
    by_null false e = ap (λ ts. record { things = ts; names = s.names }) (set_same s.things (o - 1) t e)

-- a store is left as it is
abbrev pub Keeps : Store → Effect → Type 0
Keeps s e = (answer : Answer Value) × (e ≡ Does s answer)

at_same : (s : Store) (o thread : ℕ) (a : Action Value) →
    IsReading a →
    (t : Option Thing) →
    thing_at s o ≡ t →
    Keeps s (at_thing s o t (change thread a))
at_same s o thread a h None e = (Done, refl)
at_same s o thread a h (Some t) e =
    let c = reading_change thread a h t in
    (c.0, ap (put_back s o) c.1 ∙ ap (λ z. Does z c.0) (thing_same s o t e))

pub reading_keeps : (classes : List Class) (s : Store) (thread : ℕ) (a : Action Value) →
    IsReading a →
    Keeps s (effect classes s thread a)
reading_keeps classes s thread (ReadField o f) h = at_same s o thread (ReadField o f) h (thing_at s o) refl
reading_keeps classes s thread (ReadItem o i) h = at_same s o thread (ReadItem o i) h (thing_at s o) refl
reading_keeps classes s thread (IsHeld o) h = at_same s o thread (IsHeld o) h (thing_at s o) refl
reading_keeps classes s thread (ReadPair o) h = at_same s o thread (ReadPair o) h (thing_at s o) refl
reading_keeps classes s thread (ReadName n) h = (_, refl)
reading_keeps classes s thread Turn h = (Done, refl)
reading_keeps classes s thread (Enter m) h = (Done, refl)
reading_keeps classes s thread _ h = absurd h

-- so what it does has the same store
pub reading_store : (classes : List Class) (s s' : Store) (thread : ℕ) (a : Action Value) (x : Answer Value) →
    IsReading a →
    effect classes s thread a ≡ Does s' x →
    s' ≡ s
reading_store classes s s' thread a x h e = does_is (sym (reading_keeps classes s thread a h).1 ∙ e)
  where
    does_is : {y : Answer Value} → Does s y ≡ Does s' x → s' ≡ s
    does_is p = cc

-- and it has no event
pub reading_silent : (thread : ℕ) (a : Action Value) → IsReading a → event_of thread a ≡ None
reading_silent thread (ReadField o f) h = refl
reading_silent thread (ReadItem o i) h = refl
reading_silent thread (IsHeld o) h = refl
reading_silent thread (ReadPair o) h = refl
reading_silent thread (ReadName n) h = refl
reading_silent thread Turn h = refl
reading_silent thread (Enter m) h = refl
reading_silent thread _ h = absurd h
