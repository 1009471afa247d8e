-- No action takes cells away, and a making takes the next ones.
use Rattle.std.proofs.Common.{◌≡◌, ℕ, zero, suc, ◌+◌, Bool, true, false, List, [], ◌∷◌, ◌++◌, length, Option, Some}
use Rattle.std.proofs.Common.{None, refl, sym, ap, ◌∙◌, subst, arith, length-append, slice_get, nat_eq, if◌then◌else◌}
use Rattle.ls_events.specs.declared.value.Value.{Value}
use Rattle.ls_events.specs.declared.value.Value.TheVariants.{Reference}
use Rattle.ls_events.specs.declared.action.Action.{Action}
use Rattle.ls_events.specs.declared.action.Action.TheVariants.{ReadField, WriteField, ReadItem, WriteItem, ReadName}
use Rattle.ls_events.specs.declared.action.Action.TheVariants.{WriteName, New, NewLock, NewMarkable, NewArray, Lock}
use Rattle.ls_events.specs.declared.action.Action.TheVariants.{Unlock, TryLock, IsHeld, LockMonitor, UnlockMonitor}
use Rattle.ls_events.specs.declared.action.Action.TheVariants.{ReadPair, SetPair, SwapPair, AttemptMark, Turn, Enter}
use Rattle.ls_events.specs.declared.action.Action.TheVariants.{Call, Return, Trap}
use Rattle.ls_events.specs.declared.action.Answer.TheVariants.{Gives}
use Rattle.ls_checked.specs.CheckedTree.{Class}
use Rattle.ls_meaning.specs.Store.{Hold, Free, Thing, Object, LockOf, Markable, Array, Store, thing_at}
use Rattle.ls_meaning.specs.Effect.{Effect, Waits, Does, Change, Stays, Leaves, change, put_back, at_thing, on_thing}
use Rattle.ls_meaning.specs.Effect.{making, effect, Holding, Awaits, Becomes, with_hold, locking, trying, unlocking}
use Rattle.ls_meaning.specs.Effect.{asking_held, in_range, same_pair}
use Rattle.ls_preservation.specs.Threads.{object_cells}
use Rattle.ls_preservation.specs.Same.{size_of}
use Rattle.ls_preservation.proofs.Lists.{length-set}
use Rattle.ls_preservation.proofs.Cells.{sizes_of, sizes-set}
use Rattle.ls_preservation.proofs.FieldCases.{thing_is, put_is}

-- a change that keeps the size
abbrev pub KeepsSize : ℕ → Change → Type 0
KeepsSize n Stays = Unit {0}
KeepsSize n (Leaves o x) = size_of o ≡ n

if_keeps : (n : ℕ) (b : Bool) (d e : Change) → KeepsSize n d → KeepsSize n e → KeepsSize n (if b then d else e)
if_keeps n true d e h g = h
if_keeps n false d e h g = g

hold_keeps : (thing : Hold → Thing) (n : ℕ) →
    ((h : Hold) → size_of (thing h) ≡ n) →
    (x : Holding) →
    KeepsSize n (with_hold thing x)
hold_keeps thing n e Awaits = tt
hold_keeps thing n e (Becomes h y) = e h

lock_keeps : (vs : List Value) (x : Holding) → KeepsSize (object_cells (length vs)) (with_hold (λ h. Object h vs) x)
lock_keeps vs x = hold_keeps (λ h. Object h vs) (object_cells (length vs)) (λ h. refl) x

-- every change keeps the size of its thing
pub change_keeps : (t : ℕ) (a : Action Value) (o : Thing) → KeepsSize (size_of o) (change t a o)
change_keeps t (ReadField n f) (Object g vs) = refl
change_keeps t (ReadField n f) (LockOf h) = refl
change_keeps t (ReadField n f) (Markable v) = refl
change_keeps t (ReadField n f) (Array s items) = refl
change_keeps t (WriteField n f v) (Object g vs) = ap object_cells (length-set vs f v)
change_keeps t (WriteField n f v) (LockOf h) = refl
change_keeps t (WriteField n f v) (Markable w) = refl
change_keeps t (WriteField n f v) (Array s items) = refl
change_keeps t (ReadItem n i) (Array s items) = if_keeps (s + 1) (in_range i s) _ _ refl refl
change_keeps t (ReadItem n i) (Object g vs) = refl
change_keeps t (ReadItem n i) (LockOf h) = refl
change_keeps t (ReadItem n i) (Markable v) = refl
change_keeps t (WriteItem n i v) (Array s items) = if_keeps (s + 1) (in_range i s) _ _ refl refl
change_keeps t (WriteItem n i v) (Object g vs) = refl
change_keeps t (WriteItem n i v) (LockOf h) = refl
change_keeps t (WriteItem n i v) (Markable w) = refl
change_keeps t (Lock n) (LockOf h) = hold_keeps LockOf 1 (λ h. refl) (locking t h)
change_keeps t (Lock n) (Object g vs) = refl
change_keeps t (Lock n) (Markable v) = refl
change_keeps t (Lock n) (Array s items) = refl
change_keeps t (Unlock n) (LockOf h) = hold_keeps LockOf 1 (λ h. refl) (unlocking t h)
change_keeps t (Unlock n) (Object g vs) = refl
change_keeps t (Unlock n) (Markable v) = refl
change_keeps t (Unlock n) (Array s items) = refl
change_keeps t (TryLock n) (LockOf h) = hold_keeps LockOf 1 (λ h. refl) (trying t h)
change_keeps t (TryLock n) (Object g vs) = refl
change_keeps t (TryLock n) (Markable v) = refl
change_keeps t (TryLock n) (Array s items) = refl
change_keeps t (IsHeld n) (LockOf h) = hold_keeps LockOf 1 (λ h. refl) (asking_held t h)
change_keeps t (IsHeld n) (Object g vs) = refl
change_keeps t (IsHeld n) (Markable v) = refl
change_keeps t (IsHeld n) (Array s items) = refl
change_keeps t (LockMonitor n) (LockOf h) = refl
change_keeps t (LockMonitor n) (Object g vs) = lock_keeps vs (locking t g)
change_keeps t (LockMonitor n) (Markable v) = refl
change_keeps t (LockMonitor n) (Array s items) = refl
change_keeps t (UnlockMonitor n) (LockOf h) = refl
change_keeps t (UnlockMonitor n) (Object g vs) = lock_keeps vs (unlocking t g)
change_keeps t (UnlockMonitor n) (Markable v) = refl
change_keeps t (UnlockMonitor n) (Array s items) = refl
change_keeps t (ReadPair n) (Object g vs) = refl
change_keeps t (ReadPair n) (LockOf h) = refl
change_keeps t (ReadPair n) (Markable v) = refl
change_keeps t (ReadPair n) (Array s items) = refl
change_keeps t (SetPair n v) (Object g vs) = refl
change_keeps t (SetPair n v) (LockOf h) = refl
change_keeps t (SetPair n v) (Markable w) = refl
change_keeps t (SetPair n v) (Array s items) = refl
change_keeps t (SwapPair n e v) (Markable w) = if_keeps 1 (same_pair w e) _ _ refl refl
change_keeps t (SwapPair n e v) (Object g vs) = refl
change_keeps t (SwapPair n e v) (LockOf h) = refl
change_keeps t (SwapPair n e v) (Array s items) = refl
change_keeps t (AttemptMark n r m) (Markable w) = if_keeps 1 (nat_eq _ r) _ _ refl refl
change_keeps t (AttemptMark n r m) (Object g vs) = refl
change_keeps t (AttemptMark n r m) (LockOf h) = refl
change_keeps t (AttemptMark n r m) (Array s items) = refl
change_keeps t (ReadName n) o = refl
change_keeps t (WriteName n v) o = refl
change_keeps t (New c) o = refl
change_keeps t NewLock o = refl
change_keeps t (NewMarkable v) o = refl
change_keeps t (NewArray n) o = refl
change_keeps t Turn o = refl
change_keeps t (Enter m) o = refl
change_keeps t (Call n) o = refl
change_keeps t (Return n v) o = refl
change_keeps t (Trap n k) o = refl

-- an action that makes nothing keeps the sizes
abbrev pub Keeps : Store → Effect → Type 0
Keeps st Waits = Unit {0}
Keeps st (Does st' y) = sizes_of st'.things ≡ sizes_of st.things

-- a making has one more thing, and answers its number
abbrev pub Makes : Store → Effect → Type 0
Makes st Waits = Unit {0}
Makes st (Does st' y) = (k : ℕ) × (sizes_of st'.things ≡ sizes_of st.things ++ k ∷ []) ×
    (length st'.things ≡ suc (length st.things)) × (y ≡ Gives (Reference (suc (length st.things))))

-- what an action keeps of the sizes of things: a making has one more thing, any other keeps all sizes
abbrev pub Kept : Store → Action Value → Effect → Type 0
Kept st (New k) d = Makes st d
Kept st NewLock d = Makes st d
Kept st (NewMarkable v) d = Makes st d
Kept st (NewArray n) d = Makes st d
Kept st _ d = Keeps st d

sizes-append : (os : List Thing) (o : Thing) → sizes_of (os ++ o ∷ []) ≡ sizes_of os ++ size_of o ∷ []
sizes-append [] o = refl
sizes-append (x ∷ os) o = ap (λ l. size_of x ∷ l) (sizes-append os o)

module _ (st : Store) where
  one_more : (o : Thing) → Makes st (making st o)
  one_more o =
      let e : length st.things + 1 ≡ suc (length st.things) = omega arith in (
        size_of o,
        sizes-append st.things o,
        omega (arith, length-append st.things (o ∷ [])),
        ap (λ k. Gives (Reference k)) e,
      )

  put_keeps : (n : ℕ) (o : Thing) →
      slice_get st.things n ≡ Some o →
      (d : Change) →
      KeepsSize (size_of o) d →
      Keeps st (put_back st (suc n) d)
  put_keeps n o at Stays h = tt
  put_keeps n o at (Leaves o' x) h = ap (λ z. sizes_of z.things) (put_is st n o') ∙ sizes-set st.things n o o' at h

  thing_keeps : (n t : ℕ) (a : Action Value) (p : Option Thing) →
      slice_get st.things n ≡ p →
      Keeps st (at_thing st (suc n) p (change t a))
  thing_keeps n t a None e = refl
  thing_keeps n t a (Some o) e = put_keeps n o e (change t a o) (change_keeps t a o)

  on_keeps : (o t : ℕ) (a : Action Value) → Keeps st (on_thing st o t a)
  on_keeps zero t a =
      let e : thing_at st zero ≡ None = refl in
      subst (λ p. Keeps st (at_thing st zero p (change t a))) (sym e) refl
  on_keeps (suc n) t a = subst (λ p. Keeps st (at_thing st (suc n) p (change t a))) (sym (thing_is st n))
      (thing_keeps n t a (slice_get st.things n) refl)

  -- each action keeps that
  pub keeps : (classes : List Class) (t : ℕ) (a : Action Value) → Kept st a (effect classes st t a)
  keeps classes t (ReadField n f) = on_keeps n t (ReadField n f)
  keeps classes t (WriteField n f v) = on_keeps n t (WriteField n f v)
  keeps classes t (ReadItem n i) = on_keeps n t (ReadItem n i)
  keeps classes t (WriteItem n i v) = on_keeps n t (WriteItem n i v)
  keeps classes t (ReadName n) = refl
  keeps classes t (WriteName n v) = refl
  keeps classes t (New k) = one_more _
  keeps classes t NewLock = one_more (LockOf Free)
  keeps classes t (NewMarkable v) = one_more (Markable v)
  keeps classes t (NewArray n) = one_more _
  keeps classes t (Lock n) = on_keeps n t (Lock n)
  keeps classes t (Unlock n) = on_keeps n t (Unlock n)
  keeps classes t (TryLock n) = on_keeps n t (TryLock n)
  keeps classes t (IsHeld n) = on_keeps n t (IsHeld n)
  keeps classes t (LockMonitor n) = on_keeps n t (LockMonitor n)
  keeps classes t (UnlockMonitor n) = on_keeps n t (UnlockMonitor n)
  keeps classes t (ReadPair n) = on_keeps n t (ReadPair n)
  keeps classes t (SetPair n v) = on_keeps n t (SetPair n v)
  keeps classes t (SwapPair n e v) = on_keeps n t (SwapPair n e v)
  keeps classes t (AttemptMark n r m) = on_keeps n t (AttemptMark n r m)
  keeps classes t Turn = refl
  keeps classes t (Enter m) = refl
  keeps classes t (Call n) = refl
  keeps classes t (Return n v) = refl
  keeps classes t (Trap n k) = refl
