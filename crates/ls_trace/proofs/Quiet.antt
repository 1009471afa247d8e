-- Steps that aren't told alone change nothing.
use Rattle.std.proofs.Common.{◌≡◌, ℕ, ◌-◌, ◌+◌, ℤ, Bool, true, false, List, [], ◌∷◌, refl, sym, ap, ◌∙◌, zero, suc}
use Rattle.std.proofs.Common.{Option, Some, None}
use Rattle.std.specs.Prelude.{nat_eq, nat_lt, slice_get, slice_set, if◌then◌else◌}
use Rattle.ls_events.specs.declared.value.Value.{Value}
use Rattle.ls_events.specs.declared.value.Value.TheVariants as values
use Rattle.ls_events.specs.declared.kind.Kind.TheVariants as kinds
use Rattle.ls_events.specs.declared.action.Action.{Action}
use Rattle.ls_events.specs.declared.action.Action.TheVariants as actions
use Rattle.ls_events.specs.declared.action.Answer.{Answer}
use Rattle.ls_events.specs.declared.action.Answer.TheVariants.{Gives, Fails}
use Rattle.ls_checked.specs.CheckedTree.{Class, File}
use Rattle.ls_meaning.specs.declared.step.Did.TheVariants as did
use Rattle.ls_meaning.specs.Store.{Free, HeldBy, Thing, Object, LockOf, Markable, Array, Store, thing_at, with_thing}
use Rattle.ls_meaning.specs.Effect.{Effect, Waits, Does, Change, Stays, Leaves, Becomes, asking_held, at_thing}
use Rattle.ls_meaning.specs.Effect.{attempting, change, effect, in_range, most_holds, on_lock, reading_field}
use Rattle.ls_meaning.specs.Effect.{reading_item, reading_pair, same_pair, swapping, trying}
use Rattle.ls_meaning.specs.Values.{reference_of}
use Rattle.ls_meaning.specs.Steps.{traced}
use Rattle.ls_meaning.specs.Threads.{Next, Goes, Ended, Trapped, next}
use Rattle.ls_meaning.specs.Runs.{State, Step, answers_of, has_started, history_of, idle, performed, step_of, stepped}
use Rattle.ls_trace.specs.Laws.{FoldedChangeNothing, is_alone}
use Rattle.ls_trace.specs.Manners.{action_manner, manner_of}

-- ---- a thing that is put back as it was

set_same : (xs : List Thing) (i : ℕ) (t : Thing) → slice_get xs i ≡ Some t → slice_set xs i t ≡ xs
set_same [] i t e = refl
set_same (x ∷ xs) zero t e = let same : x ≡ t = cc in ap (λ y. y ∷ xs) (sym same)
set_same (x ∷ xs) (suc i) t e = ap (λ l. x ∷ l) (set_same xs i t e)

put_same : (s : Store) (o : ℕ) (t : Thing) → thing_at s o ≡ Some t → with_thing s o t ≡ s
put_same s o t e = by_number (nat_eq o 0) e
  where
    by_number : (b : Bool) → (if b then None else slice_get s.things (o - 1)) ≡ Some t → with_thing s o t ≡ s
    by_number true e = absurd (cc)
    by_number false e = ap (λ l. record { things = l; names = s.names }) (set_same s.things (o - 1) t e)

-- ---- what an action leaves, if it isn't told alone

-- the same store
abbrev Keeps : Store → Action Value → Effect → Type 0
Keeps s action Waits = Unit {0}
Keeps s action (Does after answer) = is_alone (action_manner action answer) ≡ false → after ≡ s

-- the same thing
abbrev KeepsThing : Action Value → Thing → Change → Type 0
KeepsThing action t Stays = Unit {0}
KeepsThing action t (Leaves after answer) = is_alone (action_manner action answer) ≡ false → after ≡ t

alone : (s : Store) (action : Action Value) →
    ((answer : Answer Value) → is_alone (action_manner action answer) ≡ true) →
    (e : Effect) →
    Keeps s action e
alone s action is Waits = tt
alone s action is (Does after answer) = λ h. let always = is answer in absurd (cc)

on_thing_keeps : (s : Store) (o : ℕ) (action : Action Value) (go : Thing → Change) →
    ((t : Thing) → KeepsThing action t (go t))
    → (found : Option Thing) → thing_at s o ≡ found → Keeps s action (at_thing s o found go)
on_thing_keeps s o action go keeps None e = λ h. refl
on_thing_keeps s o action go keeps (Some t) e = by_change (go t) (keeps t)
  where
    by_change : (c : Change) → KeepsThing action t c → Keeps s action (at_thing s o (Some t) (λ x. c))
    by_change Stays k = tt
    by_change (Leaves after answer) k = λ h. ap (with_thing s o) (k h) ∙ put_same s o t e

reads_field : (o f : ℕ) (t : Thing) → KeepsThing (actions.ReadField o f) t (reading_field f t)
reads_field o f (Object monitor fields) = λ h. refl
reads_field o f (LockOf hold) = λ h. refl
reads_field o f (Markable pair) = λ h. refl
reads_field o f (Array size items) = λ h. refl

reads_item : (o : ℕ) (i : ℤ) (t : Thing) → KeepsThing (actions.ReadItem o i) t (reading_item i t)
reads_item o i (Object monitor fields) = λ h. refl
reads_item o i (LockOf hold) = λ h. refl
reads_item o i (Markable pair) = λ h. refl
reads_item o i (Array size items) = by_test (in_range i size) _ _
  where
    by_test : (b : Bool) (x y : Answer Value) →
        KeepsThing (actions.ReadItem o i) (Array size items)
        (if b then Leaves (Array size items) x else Leaves (Array size items) y)
    by_test true x y = λ h. refl
    by_test false x y = λ h. refl

reads_pair : (o : ℕ) (t : Thing) → KeepsThing (actions.ReadPair o) t (reading_pair t)
reads_pair o (Object monitor fields) = λ h. refl
reads_pair o (LockOf hold) = λ h. refl
reads_pair o (Markable pair) = λ h. refl
reads_pair o (Array size items) = λ h. refl

asks_held : (thread o : ℕ) (t : Thing) → KeepsThing (actions.IsHeld o) t (on_lock (asking_held thread) t)
asks_held thread o (Object monitor fields) = λ h. refl
asks_held thread o (LockOf Free) = λ h. refl
asks_held thread o (LockOf (HeldBy owner holds)) = λ h. refl
asks_held thread o (Markable pair) = λ h. refl
asks_held thread o (Array size items) = λ h. refl

tries : (thread o : ℕ) (t : Thing) → KeepsThing (actions.TryLock o) t (on_lock (trying thread) t)
tries thread o (Object monitor fields) = λ h. refl
tries thread o (LockOf Free) = λ h. absurd (cc)
tries thread o (LockOf (HeldBy owner holds)) = by_owner (nat_eq owner thread) (nat_lt holds most_holds)
  where
    by_owner : (b more : Bool) → KeepsThing (actions.TryLock o) (LockOf (HeldBy owner holds))
        (on_lock (λ hold. if b then (if more then Becomes (HeldBy thread (holds + 1)) (Gives (values.Boolean true)) else
        Becomes (HeldBy thread holds) (Fails kinds.Error)) else
        Becomes (HeldBy owner holds) (Gives (values.Boolean false))) (LockOf (HeldBy owner holds)))
    by_owner true true = λ h. absurd (cc)
    by_owner true false = λ h. absurd (cc)
    by_owner false more = λ h. refl
tries thread o (Markable pair) = λ h. refl
tries thread o (Array size items) = λ h. refl

-- an exchange, and a mark
sets_if : (o : ℕ) (action : Action Value) (p q : Value) (b : Bool) →
    is_alone (action_manner action (Gives (values.Boolean true))) ≡ true
    → KeepsThing action (Markable p) (if b then Leaves (Markable q) (Gives (values.Boolean true)) else
    Leaves (Markable p) (Gives (values.Boolean false)))
sets_if o action p q true alone_if = λ h. absurd (cc)
sets_if o action p q false alone_if = λ h. refl

exchanges : (o : ℕ) (expected new : Value) (t : Thing) →
    KeepsThing (actions.SwapPair o expected new) t (swapping expected new t)
exchanges o expected new (Object monitor fields) = λ h. refl
exchanges o expected new (LockOf hold) = λ h. refl
exchanges o expected new (Markable p) = sets_if o (actions.SwapPair o expected new) p new (same_pair p expected) refl
exchanges o expected new (Array size items) = λ h. refl

marks : (o reference : ℕ) (mark : Bool) (t : Thing) →
    KeepsThing (actions.AttemptMark o reference mark) t (attempting reference mark t)
marks o reference mark (Object monitor fields) = λ h. refl
marks o reference mark (LockOf hold) = λ h. refl
marks o reference mark (Markable p) = sets_if o (actions.AttemptMark o reference mark) p (values.Pair reference mark)
    (nat_eq (reference_of p) reference) refl
marks o reference mark (Array size items) = λ h. refl

keeps : (classes : List Class) (s : Store) (thread : ℕ) (action : Action Value) →
    Keeps s action (effect classes s thread action)
keeps classes s thread (actions.ReadField o f) = on_thing_keeps s o (actions.ReadField o f)
    (change thread (actions.ReadField o f)) (reads_field o f) (thing_at s o) refl
keeps classes s thread (actions.WriteField o f v) = alone s (actions.WriteField o f v) (λ a. refl)
    (effect classes s thread (actions.WriteField o f v))
keeps classes s thread (actions.ReadItem o i) = on_thing_keeps s o (actions.ReadItem o i)
    (change thread (actions.ReadItem o i)) (reads_item o i) (thing_at s o) refl
keeps classes s thread (actions.WriteItem o i v) = alone s (actions.WriteItem o i v) (λ a. refl)
    (effect classes s thread (actions.WriteItem o i v))
keeps classes s thread (actions.ReadName n) = λ h. refl
keeps classes s thread (actions.WriteName n v) = λ h. absurd (cc)
keeps classes s thread (actions.New c) = λ h. absurd (cc)
keeps classes s thread actions.NewLock = λ h. absurd (cc)
keeps classes s thread (actions.NewMarkable p) = λ h. absurd (cc)
keeps classes s thread (actions.NewArray n) = λ h. absurd (cc)
keeps classes s thread (actions.Lock o) = alone s (actions.Lock o) (λ a. refl)
    (effect classes s thread (actions.Lock o))
keeps classes s thread (actions.Unlock o) = alone s (actions.Unlock o) (λ a. refl)
    (effect classes s thread (actions.Unlock o))
keeps classes s thread (actions.TryLock o) = on_thing_keeps s o (actions.TryLock o) (change thread (actions.TryLock o))
    (tries thread o) (thing_at s o) refl
keeps classes s thread (actions.IsHeld o) = on_thing_keeps s o (actions.IsHeld o) (change thread (actions.IsHeld o))
    (asks_held thread o) (thing_at s o) refl
keeps classes s thread (actions.LockMonitor o) = alone s (actions.LockMonitor o) (λ a. refl)
    (effect classes s thread (actions.LockMonitor o))
keeps classes s thread (actions.UnlockMonitor o) = alone s (actions.UnlockMonitor o) (λ a. refl)
    (effect classes s thread (actions.UnlockMonitor o))
keeps classes s thread (actions.ReadPair o) = on_thing_keeps s o (actions.ReadPair o)
    (change thread (actions.ReadPair o)) (reads_pair o) (thing_at s o) refl
keeps classes s thread (actions.SetPair o v) = alone s (actions.SetPair o v) (λ a. refl)
    (effect classes s thread (actions.SetPair o v))
keeps classes s thread (actions.SwapPair o expected new) = on_thing_keeps s o (actions.SwapPair o expected new)
    (change thread (actions.SwapPair o expected new)) (exchanges o expected new) (thing_at s o) refl
keeps classes s thread (actions.AttemptMark o reference mark) = on_thing_keeps s o
    (actions.AttemptMark o reference mark) (change thread (actions.AttemptMark o reference mark))
    (marks o reference mark) (thing_at s o) refl
keeps classes s thread actions.Turn = λ h. refl
keeps classes s thread (actions.Enter m) = λ h. refl
keeps classes s thread (actions.Call n) = λ h. refl
keeps classes s thread (actions.Return n v) = λ h. refl
keeps classes s thread (actions.Trap n kind) = λ h. refl

-- ---- a step

-- no event comes of an action that isn't told alone
no_event : (thread : ℕ) (action : Action Value) (answer : Answer Value) (s : State) →
    is_alone (action_manner action answer) ≡ false
    → history_of (traced (stepped thread (did.Acted action answer) s) []) ≡ []
no_event thread (actions.ReadField o f) answer s h = refl
no_event thread (actions.WriteField o f v) answer s h = refl
no_event thread (actions.ReadItem o i) answer s h = refl
no_event thread (actions.WriteItem o i v) answer s h = refl
no_event thread (actions.ReadName n) answer s h = refl
no_event thread (actions.WriteName n v) answer s h = refl
no_event thread (actions.New c) answer s h = refl
no_event thread actions.NewLock answer s h = refl
no_event thread (actions.NewMarkable p) answer s h = refl
no_event thread (actions.NewArray n) answer s h = refl
no_event thread (actions.Lock o) answer s h = refl
no_event thread (actions.Unlock o) answer s h = refl
no_event thread (actions.TryLock o) answer s h = refl
no_event thread (actions.IsHeld o) answer s h = refl
no_event thread (actions.LockMonitor o) answer s h = refl
no_event thread (actions.UnlockMonitor o) answer s h = refl
no_event thread (actions.ReadPair o) answer s h = refl
no_event thread (actions.SetPair o v) answer s h = refl
no_event thread (actions.SwapPair o expected new) answer s h = refl
no_event thread (actions.AttemptMark o reference mark) answer s h = refl
no_event thread actions.Turn answer s h = refl
no_event thread (actions.Enter m) answer s h = refl
no_event thread (actions.Call n) answer s h = absurd (cc)
no_event thread (actions.Return n v) answer s h = absurd (cc)
no_event thread (actions.Trap n kind) answer s h = absurd (cc)

abbrev Quiet : ℕ → State → Step → Type 0
Quiet thread s st = is_alone (manner_of st.did) ≡ false → (st.after.store ≡ s.store) ×
    (history_of (traced (stepped thread st.did st.after) []) ≡ [])

performed_quiet : (thread : ℕ) (s : State) (action : Action Value) (e : Effect) →
    Keeps s.store action e →
    Quiet thread s (performed s thread action e)
performed_quiet thread s action Waits k = λ h. (refl, refl)
performed_quiet thread s action (Does store answer) k = λ h.
    (k h, no_event thread action answer (performed s thread action (Does store answer)).after h)

next_quiet : (file : File) (thread : ℕ) (s : State) (n : Next) → Quiet thread s (step_of file s thread n)
next_quiet file thread s (Goes action sort) = performed_quiet thread s action
    (effect file.classes s.store thread action) (keeps file.classes s.store thread action)
next_quiet file thread s Ended = λ h. (refl, refl)
next_quiet file thread s Trapped = λ h. (refl, refl)

if_quiet : (b : Bool) (thread : ℕ) (s : State) (st : Step) →
    Quiet thread s st →
    Quiet thread s (if b then st else idle s)
if_quiet true thread s st q = q
if_quiet false thread s st q = λ h. (refl, refl)

pub change_nothing : FoldedChangeNothing
change_nothing file program s thread h =
    let q = if_quiet (has_started file program s thread) thread s
    (step_of file s thread (next file program thread (answers_of s thread)))
    (next_quiet file thread s (next file program thread (answers_of s thread))) h in
    record { store = q.0; events = q.1 }
