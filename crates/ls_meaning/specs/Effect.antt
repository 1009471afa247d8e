-- What an action does to the store, and its answer.
use Rattle.std.specs.Prelude.{ℕ, ◌+◌, ◌-◌, ℤ, pos, negsuc, Bool, true, false, ◌&&◌, nat_eq, nat_lt, List, [], map}
use Rattle.std.specs.Prelude.{unsigned_abs, Option, Some, None, slice_get, slice_set, slice_index_or, if◌then◌else◌}
use Rattle.ls_events.specs.declared.value.Value.{Value}
use Rattle.ls_events.specs.declared.value.Value.TheVariants.{Boolean, Reference, Pair}
use Rattle.ls_events.specs.declared.kind.Kind.TheVariants.{ArrayIndexOutOfBounds, IllegalMonitorState, Error}
use Rattle.ls_events.specs.declared.action.Action.{Action}
use Rattle.ls_events.specs.declared.action.Action.TheVariants.{ReadField, WriteField, ReadItem, WriteItem, ReadName}
use Rattle.ls_events.specs.declared.action.Action.TheVariants.{WriteName, New, NewLock, NewMarkable, NewArray, Lock}
use Rattle.ls_events.specs.declared.action.Action.TheVariants.{Unlock, TryLock, IsHeld, LockMonitor, UnlockMonitor}
use Rattle.ls_events.specs.declared.action.Action.TheVariants.{ReadPair, SetPair, SwapPair, AttemptMark, Turn, Enter}
use Rattle.ls_events.specs.declared.action.Action.TheVariants.{Call, Return, Trap}
use Rattle.ls_events.specs.declared.action.Answer.{Answer}
use Rattle.ls_events.specs.declared.action.Answer.TheVariants.{Done, Gives, Fails}
use Rattle.ls_checked.specs.CheckedTree.{Class}
use Rattle.ls_meaning.specs.Values.{nothing, start_of, reference_of, mark_of}
use Rattle.ls_meaning.specs.Store.{Hold, Free, HeldBy, Thing, Object, LockOf, Markable, Array, Store, thing_at}
use Rattle.ls_meaning.specs.Store.{with_thing, with_new, new_number, with_name, name_at}

-- an action waits and changes nothing, or it leaves a store and has an answer
pub data Effect : Type 0 where
  Waits : Effect
  Does : (store : Store) (answer : Answer Value) → Effect

-- an action stays and changes nothing, or it leaves another thing and has an answer
pub data Change : Type 0 where
  Stays : Change
  Leaves : (thing : Thing) (answer : Answer Value) → Change

-- an action on the hold of a lock or of a monitor stays and changes nothing, or it leaves another hold and has an
-- answer
pub data Holding : Type 0 where
  Awaits : Holding
  Becomes : (hold : Hold) (answer : Answer Value) → Holding

-- fields (JLS 15.11.1, 15.26.1)
abbrev pub reading_field : ℕ → Thing → Change
reading_field f (Object monitor fields) = Leaves (Object monitor fields) (Gives (slice_index_or fields f nothing))
reading_field f t = Leaves t Done

abbrev pub writing_field : ℕ → Value → Thing → Change
writing_field f v (Object monitor fields) = Leaves (Object monitor (slice_set fields f v)) Done
writing_field f v t = Leaves t Done

-- an index is in range from 0 to one below the size (JLS 10.4)
abbrev pub in_range : ℤ → ℕ → Bool
in_range (pos n) size = nat_lt n size
in_range (negsuc n) size = false

-- elements; an index that is out of range throws (JLS 10.4, 15.10.4, 15.26.1)
abbrev pub reading_item : ℤ → Thing → Change
reading_item i (Array size items) =
    if in_range i size
    then Leaves (Array size items) (Gives (items (unsigned_abs i)))
    else Leaves (Array size items) (Fails ArrayIndexOutOfBounds)
reading_item i t = Leaves t Done

-- the items with another one at an index
abbrev pub with_item : (ℕ → Value) → ℕ → Value → ℕ → Value
with_item items i v n = if nat_eq n i then v else items n

abbrev pub writing_item : ℤ → Value → Thing → Change
writing_item i v (Array size items) =
    if in_range i size
    then Leaves (Array size (with_item items (unsigned_abs i) v)) Done
    else Leaves (Array size items) (Fails ArrayIndexOutOfBounds)
writing_item i v t = Leaves t Done

-- the most times that a lock or a monitor may be held (ReentrantLock)
abbrev pub most_holds : ℕ
most_holds = 2147483647

-- one more hold by the owner; if that is over the most holds, it throws Error (ReentrantLock)
abbrev pub held_more : ℕ → ℕ → Answer Value → Holding
held_more thread holds answer =
    if nat_lt holds most_holds
    then Becomes (HeldBy thread (holds + 1)) answer
    else Becomes (HeldBy thread holds) (Fails Error)

-- lock(), and the lock of a monitor. If it is free, the thread takes it. If the thread is its owner, it adds a hold.
-- Else the thread waits (ReentrantLock, JLS 17.1).
abbrev pub locking : ℕ → Hold → Holding
locking thread Free = Becomes (HeldBy thread 1) Done
locking thread (HeldBy owner holds) = if nat_eq owner thread then held_more thread holds Done else Awaits

-- tryLock(): the same, but false if lock() would wait
abbrev pub trying : ℕ → Hold → Holding
trying thread Free = Becomes (HeldBy thread 1) (Gives (Boolean true))
trying thread (HeldBy owner holds) =
    if nat_eq owner thread
    then held_more thread holds (Gives (Boolean true))
    else Becomes (HeldBy owner holds) (Gives (Boolean false))

-- one hold less; if none is left, it is free
abbrev pub held_less : ℕ → ℕ → Hold
held_less thread holds = if nat_lt 1 holds then HeldBy thread (holds - 1) else Free

-- unlock(), and the unlock of a monitor, by the owner; by another thread, IllegalMonitorStateException
abbrev pub unlocking : ℕ → Hold → Holding
unlocking thread Free = Becomes Free (Fails IllegalMonitorState)
unlocking thread (HeldBy owner holds) =
    if nat_eq owner thread
    then Becomes (held_less thread holds) Done
    else Becomes (HeldBy owner holds) (Fails IllegalMonitorState)

-- isHeldByCurrentThread()
abbrev pub asking_held : ℕ → Hold → Holding
asking_held thread Free = Becomes Free (Gives (Boolean false))
asking_held thread (HeldBy owner holds) = Becomes (HeldBy owner holds) (Gives (Boolean (nat_eq owner thread)))

-- a thing whose hold changes
abbrev pub with_hold : (Hold → Thing) → Holding → Change
with_hold thing Awaits = Stays
with_hold thing (Becomes hold answer) = Leaves (thing hold) answer

-- an operation of a lock, and of an object's monitor
abbrev pub on_lock : (Hold → Holding) → Thing → Change
on_lock go (LockOf hold) = with_hold LockOf (go hold)
on_lock go t = Leaves t Done

abbrev pub on_monitor : (Hold → Holding) → Thing → Change
on_monitor go (Object monitor fields) = with_hold (λ hold. Object hold fields) (go monitor)
on_monitor go t = Leaves t Done

-- a markable's pair, read and set (AtomicMarkableReference)
abbrev pub reading_pair : Thing → Change
reading_pair (Markable p) = Leaves (Markable p) (Gives p)
reading_pair t = Leaves t Done

abbrev pub setting_pair : Value → Thing → Change
setting_pair v (Markable p) = Leaves (Markable v) Done
setting_pair v t = Leaves t Done

abbrev pub same_mark : Bool → Bool → Bool
same_mark true b = b
same_mark false true = false
same_mark false false = true

-- whether reference and mark are both the expected ones
abbrev pub same_pair : Value → Value → Bool
same_pair p q = nat_eq (reference_of p) (reference_of q) && same_mark (mark_of p) (mark_of q)

-- compareAndSet: if reference and mark are the expected ones, sets both (AtomicMarkableReference)
abbrev pub swapping : Value → Value → Thing → Change
swapping expected new (Markable p) =
    if same_pair p expected
    then Leaves (Markable new) (Gives (Boolean true))
    else Leaves (Markable p) (Gives (Boolean false))
swapping expected new t = Leaves t Done

-- attemptMark: if the reference is the expected one, sets the mark; it never fails spuriously here
-- (AtomicMarkableReference)
abbrev pub attempting : ℕ → Bool → Thing → Change
attempting reference mark (Markable p) =
    if nat_eq (reference_of p) reference
    then Leaves (Markable (Pair reference mark)) (Gives (Boolean true))
    else Leaves (Markable p) (Gives (Boolean false))
attempting reference mark t = Leaves t Done

-- what an action does to its thing
abbrev pub change : ℕ → Action Value → Thing → Change
change thread (ReadField o f) t = reading_field f t
change thread (WriteField o f v) t = writing_field f v t
change thread (ReadItem o i) t = reading_item i t
change thread (WriteItem o i v) t = writing_item i v t
change thread (Lock o) t = on_lock (locking thread) t
change thread (Unlock o) t = on_lock (unlocking thread) t
change thread (TryLock o) t = on_lock (trying thread) t
change thread (IsHeld o) t = on_lock (asking_held thread) t
change thread (LockMonitor o) t = on_monitor (locking thread) t
change thread (UnlockMonitor o) t = on_monitor (unlocking thread) t
change thread (ReadPair o) t = reading_pair t
change thread (SetPair o v) t = setting_pair v t
change thread (SwapPair o expected new) t = swapping expected new t
change thread (AttemptMark o reference mark) t = attempting reference mark t
change thread _ t = Leaves t Done

-- the thing of an action is changed in the store
abbrev pub put_back : Store → ℕ → Change → Effect
put_back s o Stays = Waits
put_back s o (Leaves t answer) = Does (with_thing s o t) answer

abbrev pub at_thing : Store → ℕ → Option Thing → (Thing → Change) → Effect
at_thing s o None go = Does s Done
at_thing s o (Some t) go = put_back s o (go t)

-- the fields of a new object, each at its start (JLS 4.12.5)
abbrev pub fields_in : Option Class → List Value
fields_in None = []
fields_in (Some c) = map start_of c.fields

-- the size of a new array; an array of a negative length is never made (JLS 15.10.2)
abbrev pub size_of : ℤ → ℕ
size_of (pos n) = n
size_of (negsuc n) = 0

-- a new thing answers its number
abbrev pub making : Store → Thing → Effect
making s t = Does (with_new s t) (Gives (Reference (new_number s)))

-- the actions on a thing
abbrev pub on_thing : Store → ℕ → ℕ → Action Value → Effect
on_thing s o thread action = at_thing s o (thing_at s o) (change thread action)

-- What an action of a thread does. It is one step, so the steps of all threads are in one order, as accesses of
-- volatile variables are (JLS 17.4.4). An action is asked for only on a thing that exists, and that is of the right
-- kind.
abbrev pub effect : List Class → Store → ℕ → Action Value → Effect
effect classes s thread (ReadField o f) = on_thing s o thread (ReadField o f)
effect classes s thread (WriteField o f v) = on_thing s o thread (WriteField o f v)
effect classes s thread (ReadItem o i) = on_thing s o thread (ReadItem o i)
effect classes s thread (WriteItem o i v) = on_thing s o thread (WriteItem o i v)
-- setup names
effect classes s thread (ReadName n) = Does s (Gives (name_at s n))
effect classes s thread (WriteName n v) = Does (with_name s n v) Done
-- makings: fields and elements at their start values (JLS 4.12.5, 12.5, 15.9.4, 15.10.2); a monitor or a lock is free
effect classes s thread (New c) = making s (Object Free (fields_in (slice_get classes c)))
effect classes s thread NewLock = making s (LockOf Free)
effect classes s thread (NewMarkable p) = making s (Markable p)
effect classes s thread (NewArray n) = making s (Array (size_of n) (λ i. Boolean false))
effect classes s thread (Lock o) = on_thing s o thread (Lock o)
effect classes s thread (Unlock o) = on_thing s o thread (Unlock o)
effect classes s thread (TryLock o) = on_thing s o thread (TryLock o)
effect classes s thread (IsHeld o) = on_thing s o thread (IsHeld o)
effect classes s thread (LockMonitor o) = on_thing s o thread (LockMonitor o)
effect classes s thread (UnlockMonitor o) = on_thing s o thread (UnlockMonitor o)
effect classes s thread (ReadPair o) = on_thing s o thread (ReadPair o)
effect classes s thread (SetPair o v) = on_thing s o thread (SetPair o v)
effect classes s thread (SwapPair o expected new) = on_thing s o thread (SwapPair o expected new)
effect classes s thread (AttemptMark o reference mark) = on_thing s o thread (AttemptMark o reference mark)
-- a turn, an entry and an event change no store
effect classes s thread Turn = Does s Done
effect classes s thread (Enter m) = Does s Done
effect classes s thread (Call n) = Does s Done
effect classes s thread (Return n v) = Does s Done
effect classes s thread (Trap n kind) = Does s Done
