-- Whole histories, and what a step and the question for the next step say of a thread. It goes on, waits, has ended,
-- has trapped or hasn't started.
use Rattle.std.specs.Prelude.{◌≡◌, ℕ, [], ◌∷◌, ◌++◌, replicate, None, Some}
use Rattle.ls_events.specs.declared.value.ValueType.TheVariants as types
use Rattle.ls_events.specs.declared.kind.Kind.TheVariants as kinds
use Rattle.ls_events.specs.declared.action.Action.TheVariants as actions
use Rattle.ls_events.specs.declared.event.Event.{Event}
use Rattle.ls_events.specs.declared.event.Happening.{Happening}
use Rattle.ls_events.specs.declared.event.Happening.TheVariants.{Called, Returned, Trapped}
use Rattle.ls_checked.specs.declared.tree.Operator.TheVariants as operators
use Rattle.ls_checked.specs.declared.tree.Called.TheVariants as called
use Rattle.ls_checked.specs.CheckedTree.{File, Literal, Slot, Field, Binary, Call, MakeLock, End, SetField, Evaluate}
use Rattle.ls_checked.specs.CheckedTree.{ReturnValue}
use Rattle.ls_checked.specs.CheckedProgram.{Program}
use Rattle.ls_meaning.specs.declared.step.Asked.TheVariants as asks
use Rattle.ls_meaning.specs.declared.step.Did.TheVariants as did
use Rattle.ls_meaning.specs.Course.{Answers}
use Rattle.ls_meaning.specs.Store.{Free, HeldBy, Object, LockOf}
use Rattle.ls_meaning.specs.Runs.{State, start, asked, step, source_run, source_history}
use Rattle.ls_meaning_rows.specs.Made.{int, no, at, block, one_class, method, making, calling, program, done, gives}
use Rattle.ls_meaning_rows.specs.Made.{fails}

abbrev pub event : ℕ → ℕ → Happening → Event
event thread call happening = record { thread = thread; call = call; happening = happening }

-- class C { int v; boolean b; void set(int x) { v = x; } int get() { return v; }
--   boolean is() { return b; } void bad() { v = 1 / 0; } }
-- A sets, gets and asks is(). B gets, calls bad() and would get again. C is left within set.
abbrev pub WholeHistory : Type 0
WholeHistory =
    source_history
    (record {
      classes = (one_class (types.Int ∷ types.Boolean ∷ []) 4 ∷ []);
      methods =
          (method 0 1 ((types.Class 0) ∷ types.Int ∷ []) None (block ((SetField (Slot 0) 0 (Slot 1)) ∷ []))
          ∷ method 0 0 ((types.Class 0) ∷ []) (Some types.Int) (block ((ReturnValue (Field (Slot 0) 0 0)) ∷ []))
          ∷ method 0 0 ((types.Class 0) ∷ []) (Some types.Boolean) (block ((ReturnValue (Field (Slot 0) 0 1)) ∷ []))
          ∷ method 0 0 ((types.Class 0) ∷ []) None
          (block ((SetField (Slot 0) 0 (Binary operators.Divide (Literal (int 1)) (Literal (int 0)))) ∷ []))
          ∷ method 0 0 ((types.Class 0) ∷ []) None (block [])
          ∷ []);
    })
    (program (0 ∷ []) ((making 0 0 [] ∷ []) ∷ (calling 0 0 ((int 5) ∷ []) ∷ calling 0 1 [] ∷ calling 0 2 [] ∷ []) ∷
    (calling 0 1 [] ∷ calling 0 3 [] ∷ calling 0 1 [] ∷ []) ∷ (calling 0 0 ((int 6) ∷ []) ∷ []) ∷ []))
    (replicate 5 0 ++ replicate 1 1 ++ replicate 1 2 ++ replicate 4 1 ++ replicate 4 2 ++ replicate 3 3 ++ replicate 5 1
    ++ replicate 9 2 ++ replicate 9 1)
    ≡
    (event 0 1 Called
    ∷ event 0 1 (Returned None)
    ∷ event 1 1 Called
    ∷ event 2 1 Called
    ∷ event 1 1 (Returned None)
    ∷ event 2 1 (Returned (Some (int 5)))
    ∷ event 3 1 Called
    ∷ event 1 2 Called
    ∷ event 1 2 (Returned (Some (int 5)))
    ∷ event 2 2 Called
    ∷ event 2 2 (Trapped kinds.Arithmetic)
    ∷ event 1 3 Called
    ∷ event 1 3 (Returned (Some no))
    ∷ [])

-- class C { Lock l = new ReentrantLock(); void f() { l.lock(); } void g() { l.unlock(); } }
abbrev pub file : File
file = record {
  classes = one_class (types.Lock ∷ []) 2 ∷ [];
  methods =
      method 0 0 (types.Class 0 ∷ []) None (block (Evaluate (Call (Field (Slot 0) 0 0) called.LockIt End) ∷ []))
      ∷ method 0 0 (types.Class 0 ∷ []) None (block (Evaluate (Call (Field (Slot 0) 0 0) called.UnlockIt End) ∷ []))
      ∷ method 0 0 (types.Class 0 ∷ []) None (block (SetField (Slot 0) 0 MakeLock ∷ []))
      ∷ [];
}

-- the setup makes one, A locks, B locks, C unlocks
abbrev pub of_locks : Program
of_locks = program (0 ∷ []) ((making 0 0 [] ∷ []) ∷ (calling 0 0 [] ∷ []) ∷ (calling 0 0 [] ∷ []) ∷
    (calling 0 1 [] ∷ []) ∷ [])

-- the store when A holds the lock, with the answers that each thread has had
abbrev pub with_answers : Answers → Answers → Answers → Answers → State
with_answers setup a b c = record {
  store = record { things = Object Free (at 2 ∷ []) ∷ LockOf (HeldBy 1 1) ∷ []; names = at 1 ∷ [] };
  answers = setup ∷ a ∷ b ∷ c ∷ [];
}

-- the answers of a whole setup, and of a call up to its operation on the lock
abbrev pub made : Answers
made = done ∷ gives (at 1) ∷ done ∷ gives (at 2) ∷ done ∷ done ∷ done ∷ []

abbrev pub entered : Answers
entered = done ∷ gives (at 1) ∷ done ∷ gives (at 2) ∷ []

-- A has returned and holds the lock, B has come to its lock(), C has trapped
abbrev pub later : State
later = with_answers made (entered ++ done ∷ done ∷ []) entered (entered ++ fails kinds.IllegalMonitorState ∷ done ∷ [])

abbrev pub StateOfARun : Type 0
StateOfARun = source_run file of_locks (replicate 7 0 ++ replicate 6 1 ++ replicate 4 2 ++ replicate 6 3) ≡ later

-- A step of a thread that waits leaves the state as it is. So does a step of a thread that has ended, has trapped, or
-- doesn't exist.
abbrev pub WaitsOrIdle : Type 0
WaitsOrIdle =
    (step file of_locks later 2 ≡ record { did = did.Waits; after = later })
    × (step file of_locks later 0 ≡ record { did = did.Idle; after = later })
    × (step file of_locks later 1 ≡ record { did = did.Idle; after = later })
    × (step file of_locks later 3 ≡ record { did = did.Idle; after = later })
    × (step file of_locks later 4 ≡ record { did = did.Idle; after = later })

-- a step before the setup has ended, and a step of the setup
abbrev pub IdleAtFirst : Type 0
IdleAtFirst =
    (step file of_locks (start of_locks) 1 ≡ record { did = did.Idle; after = start of_locks })
    × ((step file of_locks (start of_locks) 0).did ≡ did.Acted (actions.Call 1) done)

-- a thread that waits, a thread that has ended, a thread that has trapped
abbrev pub AskedLater : Type 0
AskedLater =
    (asked file of_locks later 2 ≡ asks.Asks (actions.Lock 2))
    × (asked file of_locks later 0 ≡ asks.Ended)
    × (asked file of_locks later 1 ≡ asks.Ended)
    × (asked file of_locks later 3 ≡ asks.Ended)

-- threads that go on
abbrev pub AskedOnTheWay : Type 0
AskedOnTheWay =
    (asked file of_locks (with_answers (done ∷ gives (at 1) ∷ done ∷ []) [] [] []) 0 ≡ asks.Asks actions.NewLock)
    × (asked file of_locks (with_answers (done ∷ gives (at 1) ∷ done ∷ []) [] [] []) 1 ≡ asks.NotStarted)
    × (asked file of_locks (with_answers made [] [] []) 1 ≡ asks.Asks (actions.Call 1))
    × (asked file of_locks (with_answers made (entered ++ done ∷ []) [] []) 1 ≡ asks.Asks (actions.Return 1 None))
    × (asked file of_locks (with_answers made [] [] entered) 3 ≡ asks.Asks (actions.Unlock 2))
    × (asked file of_locks (with_answers made [] [] (entered ++ fails kinds.IllegalMonitorState ∷ [])) 3 ≡ asks.Asks
    (actions.Trap 1 kinds.IllegalMonitorState))
