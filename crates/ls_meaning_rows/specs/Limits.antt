-- What no short run reaches.
use Rattle.std.specs.Prelude.{◌≡◌, ℕ, negsuc, [], ◌∷◌, None}
use Rattle.ls_events.specs.declared.value.ValueType.TheVariants as types
use Rattle.ls_events.specs.declared.kind.Kind.TheVariants as kinds
use Rattle.ls_events.specs.declared.action.Action.TheVariants as actions
use Rattle.ls_checked.specs.CheckedTree.{File}
use Rattle.ls_meaning.specs.declared.sort.Sort.TheVariants.{NoValue}
use Rattle.ls_meaning.specs.declared.step.Asked.TheVariants as asks
use Rattle.ls_meaning.specs.Store.{Store, Free, HeldBy, LockOf}
use Rattle.ls_meaning.specs.Effect.{Waits, Does, effect, size_of}
use Rattle.ls_meaning.specs.Threads.{Goes, Ended, Trapped, next}
use Rattle.ls_meaning.specs.Runs.{start, asked}
use Rattle.ls_meaning_rows.specs.Made.{yes, null, block, one_class, method, making, calling, program, done, gives}
use Rattle.ls_meaning_rows.specs.Made.{fails}

-- a store of one lock, which thread 1 holds this many times
abbrev pub held : ℕ → Store
held holds = record { things = LockOf (HeldBy 1 holds) ∷ []; names = [] }

-- the last hold that is possible, and one more
abbrev pub LastHold : Type 0
LastHold = effect [] (held 2147483646) 1 (actions.Lock 1) ≡ Does (held 2147483647) done

abbrev pub HoldPastTheLast : Type 0
HoldPastTheLast = effect [] (held 2147483647) 1 (actions.Lock 1) ≡ Does (held 2147483647) (fails kinds.Error)

abbrev pub TryPastTheLast : Type 0
TryPastTheLast = effect [] (held 2147483647) 1 (actions.TryLock 1) ≡ Does (held 2147483647) (fails kinds.Error)

-- a lock that another thread holds the most times
abbrev pub LockOfAnother : Type 0
LockOfAnother = effect [] (held 2147483647) 2 (actions.Lock 1) ≡ Waits

abbrev pub LastHoldLeft : Type 0
LastHoldLeft = effect [] (held 1) 1 (actions.Unlock 1) ≡ Does (record { things = LockOf Free ∷ []; names = [] }) done

abbrev pub OneHoldLeft : Type 0
OneHoldLeft = effect [] (held 2) 1 (actions.Unlock 1) ≡ Does (held 1) done

-- the size of an array
abbrev pub NegativeSize : Type 0
NegativeSize = size_of (negsuc 0) ≡ 0

-- class C { void f() { } }
abbrev pub file : File
file = record {
  classes = one_class [] 1 ∷ [];
  methods = method 0 0 (types.Class 0 ∷ []) None (block []) ∷ method 0 0 (types.Class 0 ∷ []) None (block []) ∷ [];
}

-- a setup name that is read as null throws at the call; no run meets this
abbrev pub NullName : Type 0
NullName = next file (program (0 ∷ []) ((making 0 0 [] ∷ []) ∷ (calling 0 0 [] ∷ []) ∷ [])) 1 (done ∷ gives null ∷ []) ≡
    Goes (actions.Trap 1 kinds.NullPointer) NoValue

-- a turn, an entry, a write of a name and an event are done, whatever the answer is
abbrev pub EntryIsDone : Type 0
EntryIsDone = next file (program (0 ∷ []) ((making 0 0 [] ∷ []) ∷ [])) 0
    (fails kinds.Error ∷ gives yes ∷ fails kinds.Error ∷ fails kinds.Error ∷ []) ≡ Goes (actions.Return 1 None) NoValue

-- a trapped thread has ended for whoever asks; a trapped setup doesn't let the others start
abbrev pub TrappedIsNoEnd : Type 0
TrappedIsNoEnd = next file (program (0 ∷ []) ((calling 0 0 [] ∷ []) ∷ [])) 0 (done ∷ gives null ∷ done ∷ []) ≡ Trapped

-- a thread that doesn't exist has ended; a thread hasn't started before the setup's end
abbrev pub NoThread : Type 0
NoThread = asked file (program (0 ∷ []) ((making 0 0 [] ∷ []) ∷ (calling 0 0 [] ∷ []) ∷ []))
    (start (program (0 ∷ []) ((making 0 0 [] ∷ []) ∷ (calling 0 0 [] ∷ []) ∷ []))) 2 ≡ asks.Ended

abbrev pub NotYet : Type 0
NotYet = asked file (program (0 ∷ []) ((making 0 0 [] ∷ []) ∷ (calling 0 0 [] ∷ []) ∷ []))
    (start (program (0 ∷ []) ((making 0 0 [] ∷ []) ∷ (calling 0 0 [] ∷ []) ∷ []))) 1 ≡ asks.NotStarted

-- a setup without calls has ended at the start
abbrev pub EmptySetup : Type 0
EmptySetup = next file (program [] ([] ∷ [])) 0 [] ≡ Ended
