-- The whole machine: which threads are due, which wait, and how it stops.
use Rattle.std.specs.Prelude.{◌≡◌, ℕ, List, [], ◌∷◌, true}
use Rattle.ls_code.specs.Thread.{Thread}
use Rattle.ls_code.specs.Machine.{Machine, machine_step, machine_state}
use Rattle.ls_code.specs.declared.step.Did.{Did}
use Rattle.ls_code.specs.declared.step.Did.TheVariants as did
use Rattle.ls_code.specs.declared.step.Mode.TheVariants as mode
use Rattle.ls_code.specs.declared.step.ThreadState.TheVariants as state
use Rattle.ls_code.specs.declared.instruction.Instruction.TheVariants as op
use Rattle.ls_events.specs.declared.action.Action.TheVariants as act
use Rattle.ls_events.specs.declared.action.Answer.TheVariants.{Gives}
use Rattle.ls_machine_rows.specs.Stages.{thread, machine, memory}

-- a step of a thread changes nothing, and did this
abbrev pub Stays : Machine → ℕ → Did → Type 0
Stays m n it = machine_step m n ≡ record { machine = m; did = it }

-- the setup and thread 1 are before a POP
abbrev pub popping : Thread → Machine
popping setup = record (machine op.Pop 0 [] memory) { threads = setup ∷ thread mode.Running 0 (7 ∷ []) ∷ [] }

-- The setup goes first. Thread 1 goes when the setup has ended without a trap. A thread that doesn't exist does
-- nothing.
abbrev pub Due : Type 0
Due =
    Stays (popping (thread mode.Running 0 (8 ∷ []))) 1 did.Idle
    × (machine_step (popping (thread mode.Running 0 (8 ∷ []))) 0 ≡ record
    { machine = popping (thread mode.Running 1 []); did = did.Silent })
    × Stays (popping (thread mode.Trapped 0 [])) 1 did.Idle
    × Stays (popping (thread mode.Ended 0 (8 ∷ []))) 0 did.Idle
    × ((machine_step (popping (thread mode.Ended 0 [])) 1).did ≡ did.Silent)
    × Stays (popping (thread mode.Ended 0 [])) 2 did.Idle

-- LOCK of the lock that thread 2 holds
abbrev pub WaitsForALock : Type 0
WaitsForALock = Stays (machine op.Lock 0 (8 ∷ []) (2 ∷ 30 ∷ 31 ∷ 2 ∷ 0 ∷ 1 ∷ 11 ∷ 12884901889 ∷ [])) 1 did.Waits

-- ten and eleven of twelve cells are taken
abbrev pub ten : List ℕ
ten = 2 ∷ 30 ∷ 31 ∷ 2 ∷ 0 ∷ 1 ∷ 11 ∷ 0 ∷ 0 ∷ 0 ∷ []

abbrev pub eleven : List ℕ
eleven = 2 ∷ 30 ∷ 31 ∷ 2 ∷ 0 ∷ 1 ∷ 11 ∷ 0 ∷ 0 ∷ 0 ∷ 0 ∷ []

abbrev pub stopped : Machine → Machine
stopped m = record m { stopped = true }

-- The last cells are taken. A making for which there are too few cells stops the machine. Then each step of each
-- thread is "stopped".
abbrev pub StopsAll : Type 0
StopsAll =
    ((machine_step (machine (op.NewObject 0) 0 [] ten) 1).did ≡ did.Acted (act.New 0) (Gives 11))
    × (machine_step (machine (op.NewObject 0) 0 [] eleven) 1 ≡ record
    { machine = stopped (machine (op.NewObject 0) 0 [] eleven); did = did.Stopped })
    × Stays (stopped (popping (thread mode.Ended 0 []))) 1 did.Stopped
    × Stays (stopped (popping (thread mode.Ended 0 []))) 0 did.Stopped

-- the state of a thread
abbrev pub States : Type 0
States =
    (machine_state (popping (thread mode.Running 0 [])) 0 ≡ state.Running)
    × (machine_state (popping (thread mode.Running 0 [])) 1 ≡ state.NotStarted)
    × (machine_state (popping (thread mode.Trapped 0 [])) 1 ≡ state.NotStarted)
    × (machine_state (popping (thread mode.Trapped 0 [])) 0 ≡ state.Trapped)
    × (machine_state (popping (thread mode.Ended 0 [])) 0 ≡ state.Ended)
    × (machine_state (popping (thread mode.Ended 0 [])) 1 ≡ state.Running)
    × (machine_state (popping (thread mode.Ended 0 [])) 2 ≡ state.Ended)
    × (machine_state (stopped (popping (thread mode.Ended 0 []))) 1 ≡ state.Stopped)
