-- What orders the steps of a run: happens-before (JLS SE 8, 17.4.5), on the trace of a schedule.
use Rattle.std.specs.Prelude.{◌≡◌, ◌≢◌, ◌⊎◌, ◌<◌, ◌+◌, ◌++◌, ◌∷◌, [], ℕ, true, false, List, Option, None, Some, length}
use Rattle.std.specs.Prelude.{slice_get, take}
use Rattle.std.specs.Prelude.{if◌then◌else◌}
use Rattle.ls_events.specs.declared.value.Value.{Value}
use Rattle.ls_events.specs.declared.value.Value.TheVariants.{Boolean, Reference}
use Rattle.ls_events.specs.declared.action.Action.{Action}
use Rattle.ls_events.specs.declared.action.Action.TheVariants.{ReadField, WriteField, NewMarkable, Lock, Unlock}
use Rattle.ls_events.specs.declared.action.Action.TheVariants.{TryLock}
use Rattle.ls_events.specs.declared.action.Action.TheVariants.{LockMonitor, UnlockMonitor, ReadPair, SetPair, SwapPair}
use Rattle.ls_events.specs.declared.action.Action.TheVariants.{AttemptMark}
use Rattle.ls_events.specs.declared.action.Answer.{Answer}
use Rattle.ls_events.specs.declared.action.Answer.TheVariants.{Done, Gives, Fails}
use Rattle.ls_checked.specs.CheckedTree.{File}
use Rattle.ls_checked.specs.CheckedProgram.{Program}
use Rattle.ls_meaning.specs.declared.step.Did.TheVariants as did
use Rattle.ls_meaning.specs.Store.{Thing, Object, LockOf, Markable, Array, Store, thing_at}
use Rattle.ls_meaning.specs.Runs.{source_run, step}
use Rattle.ls_race_laws.specs.declared.access.Access.{Access}
use Rattle.ls_race_laws.specs.declared.access.Kind.{Kind}
use Rattle.ls_race_laws.specs.Accesses.{Conflict, Volatile, access_of}
use Rattle.ls_race_laws.specs.Meeting.{MeetsAfter}

-- What a synchronization action is on: a volatile field; a lock or a monitor as it is freed and taken; a lock as it is
-- taken and tried in vain; or a markable.
pub data On : Type 0 where
  Field : (object field : ℕ) → On
  Freed : (object : ℕ) → On
  Taken : (object : ℕ) → On
  Marked : (object : ℕ) → On

abbrev pub if_volatile : Volatile → ℕ → ℕ → Option Thing → Option On
if_volatile volatile o f None = None
if_volatile volatile o f (Some (Object monitor fields)) = if volatile (length fields) f then Some (Field o f) else None
if_volatile volatile o f (Some (LockOf hold)) = None
if_volatile volatile o f (Some (Markable pair)) = None
if_volatile volatile o f (Some (Array size items)) = None

-- What an action with this answer acquires: a read of a volatile field; a lock that was taken; a markable that was
-- read. A `tryLock()` that fails sees its lock. The API promises nothing of one; without this clause accesses could
-- race that never meet.
abbrev pub acquires : Volatile → Store → Action Value → Answer Value → Option On
acquires volatile s (ReadField o f) x = if_volatile volatile o f (thing_at s o)
acquires volatile s (Lock o) Done = Some (Freed o)
acquires volatile s (LockMonitor o) Done = Some (Freed o)
acquires volatile s (TryLock o) (Gives (Boolean true)) = Some (Freed o)
acquires volatile s (TryLock o) (Gives (Boolean false)) = Some (Taken o)
acquires volatile s (ReadPair o) x = Some (Marked o)
acquires volatile s (SwapPair o expected new) x = Some (Marked o)
acquires volatile s (AttemptMark o reference mark) x = Some (Marked o)
acquires volatile s a x = None

-- whether it releases what this is on
abbrev pub Releases : Volatile → Store → Action Value → Answer Value → On → Type 0
Releases volatile s (WriteField o f v) x on = if_volatile volatile o f (thing_at s o) ≡ Some on
Releases volatile s (Lock o) Done on = Taken o ≡ on
Releases volatile s (LockMonitor o) Done on = Taken o ≡ on
Releases volatile s (TryLock o) (Gives (Boolean true)) on = Taken o ≡ on
Releases volatile s (Unlock o) Done on = (Freed o ≡ on) ⊎ (Taken o ≡ on)
Releases volatile s (UnlockMonitor o) Done on = (Freed o ≡ on) ⊎ (Taken o ≡ on)
Releases volatile s (NewMarkable pair) (Gives (Reference o)) on = Marked o ≡ on
Releases volatile s (SetPair o pair) x on = Marked o ≡ on
Releases volatile s (SwapPair o expected new) x on = Marked o ≡ on
Releases volatile s (AttemptMark o reference mark) x on = Marked o ≡ on
Releases volatile s a x on = ⊥

module _ (volatile : Volatile) (file : File) (program : Program) (schedule : List ℕ) where
  -- the step at a place of the schedule acts
  pub record At (i : ℕ) : Type 0 where
    pub thread : ℕ
    pub here : slice_get schedule i ≡ Some thread
    pub action : Action Value
    pub answer : Answer Value
    pub acts : (step file program (source_run file program (take i schedule)) thread).did ≡ did.Acted action answer

  abbrev pub store_at : ℕ → Store
  store_at i = (source_run file program (take i schedule)).store

  -- A step is ordered before a later one at once: both are of one thread, or the first is one of the setup, after whose
  -- end threads start, or the second acquires what the first releases.
  pub record IsOrderedAtOnce (i j : ℕ) : Type 0 where
    pub before : i < j
    pub one : At i
    pub other : At j
    pub why : (one.thread ≡ other.thread) ⊎ ((one.thread ≡ 0) ⊎
        ((on : On) × Releases volatile (store_at i) one.action one.answer on
        × (acquires volatile (store_at j) other.action other.answer ≡ Some on)))

  -- one such step after another leads from the first to the second
  abbrev pub OrderedAlong : ℕ → List ℕ → ℕ → Type 0
  OrderedAlong i [] j = IsOrderedAtOnce i j
  OrderedAlong i (k ∷ ks) j = IsOrderedAtOnce i k × OrderedAlong k ks j

  pub record HappensBefore (i j : ℕ) : Type 0 where
    pub between : List ℕ
    pub along : OrderedAlong i between j

  -- two steps of different threads conflict, and nothing orders them
  pub record IsRace (i j : ℕ) : Type 0 where
    pub before : i < j
    pub one : At i
    pub other : At j
    pub apart : one.thread ≢ other.thread
    pub first : Access
    pub second : Access
    pub first_is : access_of volatile (store_at i) one.action ≡ Some first
    pub second_is : access_of volatile (store_at j) other.action ≡ Some second
    pub conflict : Conflict first second
    pub free : HappensBefore i j → ⊥

-- where they conflict, the schedule with both actions after it has a race
abbrev pub MeetingsAreRaces : Type 0
MeetingsAreRaces = (volatile : Volatile) (file : File) (program : Program) (schedule : List ℕ) (on : Kind) →
    (m : MeetsAfter volatile file program schedule on) →
    IsRace volatile file program (schedule ++ m.one ∷ m.other ∷ []) (length schedule) (length schedule + 1)
