-- What the action does that a thread asks for, by the number of the store.
use Rattle.std.specs.Prelude.{◌≡◌, ℕ, ◌∷◌, Some, slice_get}
use Rattle.ls_events.specs.declared.value.Value.{Value}
use Rattle.ls_events.specs.declared.action.Action.{Action}
use Rattle.ls_meaning.specs.Course.{Answers}
use Rattle.ls_meaning.specs.Store.{Store}
use Rattle.ls_meaning.specs.Effect.{Waits, Does, effect}
use Rattle.ls_source.specs.Calls.{Thread, thread_meaning}
use Rattle.ls_transitions.specs.declared.moves.Step.{Step}
use Rattle.ls_transitions.specs.declared.moves.Move.{Move}
use Rattle.ls_transitions.specs.declared.moves.Move.TheVariants as moves
use Rattle.ls_transitions.specs.Tables.{Table, goes_on}

-- it waits
pub record IsHeld (t : Table) (thread store : ℕ) (action : Action Value) : Type 0 where
  pub from : Store
  pub from_is : slice_get t.stores store ≡ Some from
  pub waits : effect t.file.classes from thread action ≡ Waits

-- it is performed, and the thread, whose work was `w`, goes on with its answer
pub record IsDone (t : Table) (thread store : ℕ) (w : Thread) (action : Action Value) (step : Step) : Type 0 where
  pub from : Store
  pub from_is : slice_get t.stores store ≡ Some from
  pub to : Store
  pub to_is : slice_get t.stores step.store ≡ Some to
  pub rest : Thread
  pub rest_is : slice_get t.works step.work ≡ Some rest
  pub performs : step.action ≡ action
  pub does : effect t.file.classes from thread action ≡ Does to step.answer
  pub continues : (later : Answers) →
      goes_on t step.work later ≡ thread_meaning t.file t.program w (step.answer ∷ later)

abbrev pub IsActed : Table → ℕ → ℕ → Thread → Action Value → Move → Type 0
IsActed t thread store w action moves.Ended = ⊥
IsActed t thread store w action moves.Trapped = ⊥
IsActed t thread store w action moves.Waits = IsHeld t thread store action
IsActed t thread store w action (moves.Acts step) = IsDone t thread store w action step
