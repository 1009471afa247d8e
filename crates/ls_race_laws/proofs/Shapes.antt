-- An access changes no shape of a thing, and is always done.
use Rattle.std.proofs.Common.{◌≡◌, ◌≢◌, ◌⊎◌, inl, inr, ℕ, ℤ, Bool, true, false, List, Option, None, Some, length}
use Rattle.std.proofs.Common.{length-set, slice_set, refl, sym, ap, ◌∙◌, subst}
use Rattle.std.specs.Prelude.{slice_index_or, unsigned_abs, if◌then◌else◌}
use Rattle.std.proofs.lemmas.Bool.{cases_eq}
use Rattle.ls_events.specs.declared.value.Value.{Value}
use Rattle.ls_events.specs.declared.kind.Kind.TheVariants.{ArrayIndexOutOfBounds}
use Rattle.ls_events.specs.declared.action.Action.{Action}
use Rattle.ls_events.specs.declared.action.Action.TheVariants.{ReadField, WriteField, ReadItem, WriteItem, ReadName}
use Rattle.ls_events.specs.declared.action.Action.TheVariants.{WriteName, New, NewLock, NewMarkable, NewArray, Lock}
use Rattle.ls_events.specs.declared.action.Action.TheVariants.{Unlock, TryLock, IsHeld, LockMonitor, UnlockMonitor}
use Rattle.ls_events.specs.declared.action.Action.TheVariants.{ReadPair, SetPair, SwapPair, AttemptMark, Turn, Enter}
use Rattle.ls_events.specs.declared.action.Action.TheVariants.{Call, Return, Trap}
use Rattle.ls_events.specs.declared.action.Answer.{Answer}
use Rattle.ls_events.specs.declared.action.Answer.TheVariants.{Done, Gives, Fails}
use Rattle.ls_checked.specs.CheckedTree.{Class}
use Rattle.ls_meaning.specs.Store.{Hold, Thing, Object, LockOf, Markable, Array, Store, thing_at, with_thing}
use Rattle.ls_meaning.specs.Values.{nothing}
use Rattle.ls_meaning.specs.Effect.{Effect, Waits, Does, Change, Stays, Leaves, at_thing, change, effect, in_range}
use Rattle.ls_meaning.specs.Effect.{put_back, reading_field, writing_field, reading_item, writing_item, with_item}
use Rattle.ls_search_laws.proofs.Renaming.{with_other, with_same}
use Rattle.ls_race_laws.specs.declared.access.Access.{Access}
use Rattle.ls_race_laws.specs.Accesses.{Volatile, access_of, of_field, of_item, to_field, unless}

not_some : (a : Access) → None ≡ Some a → ⊥
not_some a h = cc

-- the same accesses are to both
pub record IsAlike (t u : Option Thing) : Type 0 where
  pub field : (volatile : Volatile) (o f : ℕ) (w : Bool) → of_field volatile o f w t ≡ of_field volatile o f w u
  pub item : (o : ℕ) (i : ℤ) (w : Bool) → of_item o i w t ≡ of_item o i w u

same : (t : Option Thing) → IsAlike t t
same t = record { field = λ volatile o f w. refl; item = λ o i w. refl }

wrote_field : (m : Hold) (fields : List Value) (f : ℕ) (v : Value) →
    IsAlike (Some (Object m (slice_set fields f v))) (Some (Object m fields))
wrote_field m fields f v = record {
  field = λ volatile o g w.
      ap (λ n. unless (volatile n g) (to_field o n g w)) (length-set fields f v);
  item = λ o i w. refl;
}

-- what a change does, if it isn't to wait: another thing that is alike
record IsKind (t : Thing) (c : Change) : Type 0 where
  pub thing : Thing
  pub answer : Answer Value
  pub is : c ≡ Leaves thing answer
  pub alike : IsAlike (Some thing) (Some t)

kept : (t : Thing) (x : Answer Value) → IsKind t (Leaves t x)
kept t x = record { thing = t; answer = x; is = refl; alike = same (Some t) }

reads_field : (f : ℕ) (t : Thing) → IsKind t (reading_field f t)
reads_field f (Object m fields) = kept (Object m fields) (Gives (slice_index_or fields f nothing))
reads_field f (LockOf hold) = kept (LockOf hold) Done
reads_field f (Markable pair) = kept (Markable pair) Done
reads_field f (Array size items) = kept (Array size items) Done

writes_field : (f : ℕ) (v : Value) (t : Thing) → IsKind t (writing_field f v t)
writes_field f v (Object m fields) = record {
  thing = Object m (slice_set fields f v);
  answer = Done;
  is = refl;
  alike = wrote_field m fields f v;
}
writes_field f v (LockOf hold) = kept (LockOf hold) Done
writes_field f v (Markable pair) = kept (Markable pair) Done
writes_field f v (Array size items) = kept (Array size items) Done

by_range : (t : Thing) (b : Bool) (c d : Change) → IsKind t c → IsKind t d → IsKind t (if b then c else d)
by_range t true c d k l = k
by_range t false c d k l = l

reads_item : (i : ℤ) (t : Thing) → IsKind t (reading_item i t)
reads_item i (Object m fields) = kept (Object m fields) Done
reads_item i (LockOf hold) = kept (LockOf hold) Done
reads_item i (Markable pair) = kept (Markable pair) Done
reads_item i (Array size items) = by_range (Array size items) (in_range i size) _ _
    (kept (Array size items) (Gives (items (unsigned_abs i)))) (kept (Array size items) (Fails ArrayIndexOutOfBounds))

wrote_item : (size : ℕ) (items other : ℕ → Value) → IsAlike (Some (Array size other)) (Some (Array size items))
wrote_item size items other = record { field = λ volatile o f w. refl; item = λ o i w. refl }

writes_item : (i : ℤ) (v : Value) (t : Thing) → IsKind t (writing_item i v t)
writes_item i v (Object m fields) = kept (Object m fields) Done
writes_item i v (LockOf hold) = kept (LockOf hold) Done
writes_item i v (Markable pair) = kept (Markable pair) Done
writes_item i v (Array size items) = by_range (Array size items) (in_range i size) _ _
    (record {
      thing = Array size (with_item items (unsigned_abs i) v);
      answer = Done;
      is = refl;
      alike = wrote_item size items (with_item items (unsigned_abs i) v);
    })
    (kept (Array size items) (Fails ArrayIndexOutOfBounds))

-- an effect that is done, after which things are alike
pub record IsDone (s : Store) (e : Effect) : Type 0 where
  pub store : Store
  pub answer : Answer Value
  pub is : e ≡ Does store answer
  pub alike : (o : ℕ) → IsAlike (thing_at store o) (thing_at s o)

put_done : (s : Store) (o : ℕ) (t : Thing) (c : Change) → thing_at s o ≡ Some t → IsKind t c → IsDone s (put_back s o c)
put_done s o t c there k = record {
  store = with_thing s o k.thing;
  answer = k.answer;
  is = ap (put_back s o) k.is;
  alike = λ n. by_number n (cases_eq n o);
}
  where
    by_number : (n : ℕ) → (n ≡ o) ⊎ (n ≢ o) → IsAlike (thing_at (with_thing s o k.thing) n) (thing_at s n)
    by_number n (inl e) =
        subst (λ z. IsAlike (thing_at (with_thing s o k.thing) z) (thing_at s z)) (sym e)
        (subst (λ z. IsAlike z (thing_at s o)) (sym (with_same s o t k.thing there))
        (subst (IsAlike (Some k.thing)) (sym there) k.alike))
    by_number n (inr ne) =
        subst (λ z. IsAlike z (thing_at s n)) (sym (with_other s o n t k.thing there ne)) (same (thing_at s n))

thing_done : (s : Store) (o : ℕ) (found : Option Thing) (go : Thing → Change) → thing_at s o ≡ found →
    ((t : Thing) → IsKind t (go t)) → IsDone s (at_thing s o found go)
thing_done s o None go there kind = record { store = s; answer = Done; is = refl; alike = λ n. same (thing_at s n) }
thing_done s o (Some t) go there kind = put_done s o t (go t) there (kind t)

-- what an access does is done, at whatever store
pub access_done : (classes : List Class) (volatile : Volatile) (s : Store) (a : Action Value) (p : Access) →
    access_of volatile s a ≡ Some p → (z : Store) (thread : ℕ) → IsDone z (effect classes z thread a)
access_done classes volatile s (ReadField o f) p e z t =
    thing_done z o (thing_at z o) (change t (ReadField o f)) refl (reads_field f)
access_done classes volatile s (WriteField o f v) p e z t =
    thing_done z o (thing_at z o) (change t (WriteField o f v)) refl (writes_field f v)
access_done classes volatile s (ReadItem o i) p e z t =
    thing_done z o (thing_at z o) (change t (ReadItem o i)) refl (reads_item i)
access_done classes volatile s (WriteItem o i v) p e z t =
    thing_done z o (thing_at z o) (change t (WriteItem o i v)) refl (writes_item i v)
access_done classes volatile s (ReadName n) p e z t = absurd (not_some p e)
access_done classes volatile s (WriteName n v) p e z t = absurd (not_some p e)
access_done classes volatile s (New c) p e z t = absurd (not_some p e)
access_done classes volatile s NewLock p e z t = absurd (not_some p e)
access_done classes volatile s (NewMarkable v) p e z t = absurd (not_some p e)
access_done classes volatile s (NewArray n) p e z t = absurd (not_some p e)
access_done classes volatile s (Lock o) p e z t = absurd (not_some p e)
access_done classes volatile s (Unlock o) p e z t = absurd (not_some p e)
access_done classes volatile s (TryLock o) p e z t = absurd (not_some p e)
access_done classes volatile s (IsHeld o) p e z t = absurd (not_some p e)
access_done classes volatile s (LockMonitor o) p e z t = absurd (not_some p e)
access_done classes volatile s (UnlockMonitor o) p e z t = absurd (not_some p e)
access_done classes volatile s (ReadPair o) p e z t = absurd (not_some p e)
access_done classes volatile s (SetPair o v) p e z t = absurd (not_some p e)
access_done classes volatile s (SwapPair o v w) p e z t = absurd (not_some p e)
access_done classes volatile s (AttemptMark o r m) p e z t = absurd (not_some p e)
access_done classes volatile s Turn p e z t = absurd (not_some p e)
access_done classes volatile s (Enter m) p e z t = absurd (not_some p e)
access_done classes volatile s (Call n) p e z t = absurd (not_some p e)
access_done classes volatile s (Return n v) p e z t = absurd (not_some p e)
access_done classes volatile s (Trap n kind) p e z t = absurd (not_some p e)

-- an action is the same access at stores whose things are alike
pub access_alike : (volatile : Volatile) (s z : Store) → ((o : ℕ) → IsAlike (thing_at z o) (thing_at s o)) →
    (a : Action Value) →
    access_of volatile z a ≡ access_of volatile s a
access_alike volatile s z alike (ReadField o f) = (alike o).field volatile o f false
access_alike volatile s z alike (WriteField o f v) = (alike o).field volatile o f true
access_alike volatile s z alike (ReadItem o i) = (alike o).item o i false
access_alike volatile s z alike (WriteItem o i v) = (alike o).item o i true
access_alike volatile s z alike (ReadName n) = refl
access_alike volatile s z alike (WriteName n v) = refl
access_alike volatile s z alike (New c) = refl
access_alike volatile s z alike NewLock = refl
access_alike volatile s z alike (NewMarkable v) = refl
access_alike volatile s z alike (NewArray n) = refl
access_alike volatile s z alike (Lock o) = refl
access_alike volatile s z alike (Unlock o) = refl
access_alike volatile s z alike (TryLock o) = refl
access_alike volatile s z alike (IsHeld o) = refl
access_alike volatile s z alike (LockMonitor o) = refl
access_alike volatile s z alike (UnlockMonitor o) = refl
access_alike volatile s z alike (ReadPair o) = refl
access_alike volatile s z alike (SetPair o v) = refl
access_alike volatile s z alike (SwapPair o v w) = refl
access_alike volatile s z alike (AttemptMark o r m) = refl
access_alike volatile s z alike Turn = refl
access_alike volatile s z alike (Enter m) = refl
access_alike volatile s z alike (Call n) = refl
access_alike volatile s z alike (Return n v) = refl
access_alike volatile s z alike (Trap n kind) = refl
