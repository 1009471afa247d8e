-- What a thread's next step does, by the numbers of its work and of the store.
use Rattle.std.specs.Prelude.{◌≡◌, ℕ, [], ◌∷◌, Some, slice_get}
use Rattle.ls_events.specs.declared.value.Value.{Value}
use Rattle.ls_events.specs.declared.action.Action.{Action}
use Rattle.ls_meaning.specs.declared.sort.Sort.{Sort}
use Rattle.ls_meaning.specs.Course.{Answers}
use Rattle.ls_meaning.specs.Store.{Store}
use Rattle.ls_meaning.specs.Effect.{Waits, Does, effect}
use Rattle.ls_meaning.specs.Threads.{Goes, Ended, Trapped}
use Rattle.ls_source.specs.Calls.{Thread}
use Rattle.ls_transitions.specs.declared.moves.Step.{Step}
use Rattle.ls_transitions.specs.declared.moves.Move.{Move}
use Rattle.ls_transitions.specs.declared.moves.Move.TheVariants as moves
use Rattle.ls_transitions.specs.Tables.{Table, goes_on}

-- the thread asks for an action that waits
pub record IsWaiting (t : Table) (thread store work : ℕ) : Type 0 where
  pub from : Store
  pub from_is : slice_get t.stores store ≡ Some from
  pub action : Action Value
  pub sort : Sort
  pub asks : goes_on t work [] ≡ Goes action sort
  pub waits : effect t.file.classes from thread action ≡ Waits

-- the thread performs the action that it asks for, and goes on with its answer
pub record IsStep (t : Table) (thread store work : ℕ) (step : Step) : Type 0 where
  pub from : Store
  pub from_is : slice_get t.stores store ≡ Some from
  pub to : Store
  pub to_is : slice_get t.stores step.store ≡ Some to
  pub rest : Thread
  pub rest_is : slice_get t.works step.work ≡ Some rest
  pub sort : Sort
  pub asks : goes_on t work [] ≡ Goes step.action sort
  pub does : effect t.file.classes from thread step.action ≡ Does to step.answer
  pub continues : (later : Answers) → goes_on t step.work later ≡ goes_on t work (step.answer ∷ later)

-- what a thread does at a store
abbrev pub IsMove : Table → ℕ → ℕ → ℕ → Move → Type 0
IsMove t thread store work moves.Ended = goes_on t work [] ≡ Ended
IsMove t thread store work moves.Trapped = goes_on t work [] ≡ Trapped
IsMove t thread store work moves.Waits = IsWaiting t thread store work
IsMove t thread store work (moves.Acts step) = IsStep t thread store work step
