-- A run of two threads, and one that runs out of cells.
use Rattle.std.proofs.Common.{◌≡◌, ℕ, [], ◌∷◌, negsuc, Some, None, refl}
use Rattle.ls_code.specs.Code.{Code}
use Rattle.ls_code.specs.Machine.{Entry, loaded, machine_run, machine_trace, machine_history, machine_state}
use Rattle.ls_code.specs.Events.{event_of}
use Rattle.ls_code.specs.declared.code.CallResult.TheVariants as result
use Rattle.ls_code.specs.declared.step.ThreadState.TheVariants as state
use Rattle.ls_code.specs.declared.instruction.Instruction.TheVariants as op
use Rattle.ls_events.specs.declared.event.Happening.TheVariants.{Called, Returned, Trapped}
use Rattle.ls_events.specs.declared.value.Value.TheVariants as value
use Rattle.ls_events.specs.declared.kind.Kind.TheVariants.{NullPointer}
use Rattle.ls_events.specs.declared.action.Action.{Action}
use Rattle.ls_events.specs.declared.action.Action.TheVariants as act
use Rattle.ls_events.specs.declared.action.Answer.{Answer}
use Rattle.ls_events.specs.declared.action.Answer.TheVariants.{Done, Gives}

-- The setup makes an object and keeps it under its only name. Thread 1 calls a method that answers -1. Thread 2 makes
-- an object and enters a method on null.
code : Code
code = record {
  instructions =
      op.Call 1 ∷ op.NewObject 0 ∷ op.PutName 0 ∷ op.Result 1 ∷ op.Halt
      ∷ op.Call 1 ∷ op.GetName 0 ∷ op.Enter 0 ∷ op.Result 1 ∷ op.Halt
      ∷ op.Call 1 ∷ op.NewObject 0 ∷ op.Pop ∷ op.Push 0 ∷ op.Enter 0 ∷ op.Trap
      ∷ op.Push 1 ∷ op.Neg ∷ op.LeaveWith ∷ [];
  handlers = record { from = 5; to = 15; handler = 15; depth = 0 } ∷ [];
  methods = record { start = 16; arguments = 1; more = 0; need = 1 } ∷ [];
  sizes = 1 ∷ [];
  starts =
      record { place = 0; need = 1; calls = result.Nothing ∷ [] }
      ∷ record { place = 5; need = 1; calls = result.Int ∷ [] }
      ∷ record { place = 10; need = 1; calls = result.Nothing ∷ [] } ∷ [];
  names = 1;
}

entry : ℕ → Action ℕ → Answer ℕ → Entry
entry n action answer = record { thread = n; action = action; answer = answer }

-- thread 1 isn't due before the setup has ended
setup_first : machine_trace (loaded code 9) (1 ∷ 0 ∷ 1 ∷ 0 ∷ 0 ∷ 0 ∷ []) ≡ entry 0 (act.Call 1) Done ∷
    entry 0 (act.New 0) (Gives 2) ∷ entry 0 (act.WriteName 0 2) Done ∷ entry 0 (act.Return 1 None) Done ∷ []
unfolding code entry
setup_first = refl

states : (machine_state (machine_run (loaded code 9) (0 ∷ [])) 0 ≡ state.Running) ×
    (machine_state (machine_run (loaded code 9) (0 ∷ [])) 1 ≡ state.NotStarted) ×
    (machine_state (machine_run (loaded code 9) (0 ∷ [])) 3 ≡ state.Ended) ×
    (machine_state (machine_run (loaded code 9) (0 ∷ 0 ∷ 0 ∷ 0 ∷ 0 ∷ [])) 0 ≡ state.Ended) ×
    (machine_state (machine_run (loaded code 9) (0 ∷ 0 ∷ 0 ∷ 0 ∷ 0 ∷ [])) 1 ≡ state.Running)
unfolding code
states = (refl, refl, refl, refl, refl)

-- an int is read from its word; a throw in the call leads to the trap
history : machine_history code 9 (0 ∷ 0 ∷ 0 ∷ 0 ∷ 0 ∷ 1 ∷ 2 ∷ 1 ∷ 2 ∷ 1 ∷ 2 ∷ 1 ∷ 1 ∷ 2 ∷ 1 ∷ 1 ∷ 1 ∷ 2 ∷ 2 ∷ []) ≡
    event_of 0 1 Called ∷ event_of 0 1 (Returned None) ∷ event_of 1 1 Called ∷ event_of 2 1 Called ∷
    event_of 1 1 (Returned (Some (value.Int (negsuc 0)))) ∷ event_of 2 1 (Trapped NullPointer) ∷ []
unfolding code
history = refl

-- with two cells the making of thread 2 stops the machine, and all other threads with it
stopped : (machine_history code 2 (0 ∷ 0 ∷ 0 ∷ 0 ∷ 0 ∷ 2 ∷ 2 ∷ 1 ∷ 1 ∷ []) ≡ event_of 0 1 Called ∷
    event_of 0 1 (Returned None) ∷ event_of 2 1 Called ∷ []) ×
    (machine_state (machine_run (loaded code 2) (0 ∷ 0 ∷ 0 ∷ 0 ∷ 0 ∷ 2 ∷ 2 ∷ [])) 1 ≡ state.Stopped) ×
    (machine_state (machine_run (loaded code 2) (0 ∷ 0 ∷ 0 ∷ 0 ∷ 0 ∷ 2 ∷ 2 ∷ [])) 3 ≡ state.Ended)
unfolding code
stopped = (refl, refl, refl)
