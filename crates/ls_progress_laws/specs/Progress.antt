-- How many steps a call may take: wait-free, lock-free and obstruction-free calls, said of schedules of any length.
use Rattle.std.specs.Prelude.{◌≡◌, ◌≤◌, ◌<◌, ◌+◌, ◌⊎◌, ℕ, zero, suc, Bool, true, nat_eq, Option, None, Some, List, []}
use Rattle.std.specs.Prelude.{◌∷◌, ◌++◌, Contains, length, if◌then◌else◌}
use Rattle.std.specs.List.{fold}
use Rattle.ls_events.specs.declared.event.Event.{Event}
use Rattle.ls_events.specs.declared.event.Happening.{Happening}
use Rattle.ls_events.specs.declared.event.Happening.TheVariants.{Called, Returned, Trapped}
use Rattle.ls_checked.specs.CheckedTree.{File}
use Rattle.ls_checked.specs.CheckedProgram.{Program}
use Rattle.ls_meaning.specs.declared.step.Did.{Did}
use Rattle.ls_meaning.specs.declared.step.Did.TheVariants as did
use Rattle.ls_meaning.specs.Runs.{State, source_history, source_run, step}
use Rattle.ls_search_laws.specs.Stepping.{events_of}

-- ---- calls and their steps

abbrev pub pending_by : ℕ → Happening → Option ℕ
pending_by call Called = Some call
pending_by call (Returned v) = None
pending_by call (Trapped kind) = None

abbrev pub pending_after : ℕ → Option ℕ → Event → Option ℕ
pending_after t now e = if nat_eq e.thread t then pending_by e.call e.happening else now

-- The call of a thread that has begun and hasn't ended, by its number. A call ends by its return or by its trap.
abbrev pub pending : ℕ → List Event → Option ℕ
pending t events = fold (pending_after t) None events

-- A step counts if it acts, and also if it waits: who asks for a lock that another owns has made a step in vain.
abbrev pub counted : Did → ℕ
counted (did.Acted action answer) = 1
counted did.Waits = 1
counted did.Idle = 0

-- ---- three kinds of calls that end

-- Of a thread's calls: which threads may take steps, and which threads' calls neither begin nor end meanwhile.
pub record Kind : Type 0 where
  pub thread : ℕ
  pub may : ℕ → Bool
  pub quiet : ℕ → Bool

-- A call ends after so many steps of its own, whatever all threads do.
abbrev pub wait_free : ℕ → Kind
wait_free t = record { thread = t; may = λ u. true; quiet = λ u. nat_eq u t }

-- With so many steps of its own a call ends, its own or another.
abbrev pub lock_free : ℕ → Kind
lock_free t = record { thread = t; may = λ u. true; quiet = λ u. true }

-- Wherever all others have stopped, a call ends after so many steps of its own.
abbrev pub obstruction_free : ℕ → Kind
obstruction_free t = record { thread = t; may = λ u. nat_eq u t; quiet = λ u. nat_eq u t }

module _ (kind : Kind) where
  abbrev pub own : ℕ → Did → ℕ
  own u d = if nat_eq u kind.thread then counted d else 0

  module _ (file : File) (program : Program) where
    -- how many of these steps are the thread's own
    abbrev pub own_steps : State → List ℕ → ℕ
    own_steps s [] = 0
    own_steps s (u ∷ path) = own u (step file program s u).did + own_steps (step file program s u).after path

    -- only these threads step, and with none of the steps such a call begins or ends
    abbrev pub IsWithin : State → List ℕ → Type 0
    IsWithin s [] = Unit {0}
    IsWithin s (u ∷ path) =
        (kind.may u ≡ true)
        × (kind.quiet u ≡ true → events_of u (step file program s u).did ≡ [])
        × IsWithin (step file program s u).after path

-- After each schedule in which the call is pending, so wherever threads have stopped, it takes at most so many steps.
abbrev pub IsBounded : Kind → File → Program → ℕ → ℕ → Type 0
IsBounded kind file program call most = (before path : List ℕ) →
    pending kind.thread (source_history file program before) ≡ Some call →
    IsWithin kind file program (source_run file program before) path →
    own_steps kind file program (source_run file program before) path ≤ most

pub record HasMade (kind : Kind) (file : File) (program : Program) (call n : ℕ) : Type 0 where
  pub before : List ℕ
  pub path : List ℕ
  pub in_call : pending kind.thread (source_history file program before) ≡ Some call
  pub within : IsWithin kind file program (source_run file program before) path
  pub many : n ≤ own_steps kind file program (source_run file program before) path

-- there is no bound
abbrev pub IsEndless : Kind → File → Program → ℕ → Type 0
IsEndless kind file program call = (n : ℕ) → HasMade kind file program call n

-- ---- steps again and again

-- so many times the same steps
abbrev pub rounds : ℕ → List ℕ → List ℕ
rounds zero cycle = []
rounds (suc n) cycle = cycle ++ rounds n cycle

-- After the way the call is pending. However often the cycle is taken after it, no call begins or ends that mustn't.
-- Each time the thread has taken one step more at least.
pub record GoesRound (kind : Kind) (file : File) (program : Program) (call : ℕ) (way cycle : List ℕ) : Type 0 where
  pub in_call : pending kind.thread (source_history file program way) ≡ Some call
  pub within : (n : ℕ) → IsWithin kind file program (source_run file program way) (rounds n cycle)
  pub many : (n : ℕ) → n ≤ own_steps kind file program (source_run file program way) (rounds n cycle)

-- ---- where all threads go on

-- each thread but the setup takes one of these steps, unless it does nothing any more
abbrev pub IsFair : File → Program → State → List ℕ → Type 0
IsFair file program s path =
    (u : ℕ) → 1 ≤ u → u < length program.threads → Contains path u ⊎ ((step file program s u).did ≡ did.Idle)

-- So a call goes on for ever though all threads go on: of kind `wait_free t` the call of t is starved, and of kind
-- `lock_free t` there is a deadlock or a livelock.
pub record GoesRoundFairly (kind : Kind) (file : File) (program : Program) (call : ℕ) (way cycle : List ℕ) : Type 0
  where
    pub round : GoesRound kind file program call way cycle
    pub fair : IsFair file program (source_run file program way) cycle
