-- Moves that have been made, as facts that have one proof at most.
use Rattle.std.specs.Prelude.{◌≡◌, ℕ, ◌<◌, Bool, true, false, List, [], ◌∷◌, Option, Some, None, length, slice_get}
use Rattle.ls_events.specs.declared.value.Value.{Value}
use Rattle.ls_events.specs.declared.action.Action.{Action}
use Rattle.ls_events.specs.declared.action.Answer.{Answer}
use Rattle.ls_checked.specs.CheckedTree.{Class}
use Rattle.ls_meaning.specs.Course.{Answers}
use Rattle.ls_meaning.specs.Store.{Store}
use Rattle.ls_meaning.specs.Effect.{Effect, Waits, Does, effect}
use Rattle.ls_meaning.specs.Threads.{Next, Goes, Ended, Trapped}
use Rattle.ls_source.specs.Calls.{Thread}
use Rattle.ls_transitions.specs.declared.moves.Step.{Step}
use Rattle.ls_transitions.specs.declared.moves.Move.{Move}
use Rattle.ls_transitions.specs.declared.moves.Move.TheVariants as moves
use Rattle.ls_transitions.specs.declared.rows.Row.{Row}
use Rattle.ls_transitions.specs.Tables.{Table, goes_on}

-- what a step comes to
pub data Consequence : Type 0 where
  Ends : Consequence
  Traps : Consequence
  Holds : Consequence
  Performs : (action : Action Value) (answer : Answer Value) (after : Store) → Consequence
  -- there is no store before it, or none after it
  NoneBefore : Consequence
  NoneAfter : Consequence

abbrev pub effect_consequence : Action Value → Effect → Consequence
effect_consequence action Waits = Holds
effect_consequence action (Does after answer) = Performs action answer after

-- what the step comes to that a thread is to do, at a store
abbrev pub consequence_of : List Class → ℕ → Next → Option Store → Consequence
consequence_of classes thread Ended s = Ends
consequence_of classes thread Trapped s = Traps
consequence_of classes thread (Goes action sort) None = NoneBefore
consequence_of classes thread (Goes action sort) (Some s) = effect_consequence action (effect classes s thread action)

abbrev pub step_consequence : Step → Option Store → Consequence
step_consequence step None = NoneAfter
step_consequence step (Some after) = Performs step.action step.answer after

-- what a move says that it comes to
abbrev pub move_outcome : List Store → Move → Consequence
move_outcome stores moves.Ended = Ends
move_outcome stores moves.Trapped = Traps
move_outcome stores moves.Waits = Holds
move_outcome stores (moves.Acts step) = step_consequence step (slice_get stores step.store)

-- how the thread goes on after a move that acts: by the work that the move names, and by the work before it
abbrev pub after_move : Table → Move → Answers → Next
after_move t moves.Ended later = Ended
after_move t moves.Trapped later = Ended
after_move t moves.Waits later = Ended
after_move t (moves.Acts step) later = goes_on t step.work later

abbrev pub after_answer : Table → ℕ → Move → Answers → Next
after_answer t work moves.Ended later = Ended
after_answer t work moves.Trapped later = Ended
after_answer t work moves.Waits later = Ended
after_answer t work (moves.Acts step) later = goes_on t work (step.answer ∷ later)

abbrev pub is_there : Option Thread → Bool
is_there None = false
is_there (Some w) = true

-- the work that a move names has a number
abbrev pub names_work : Table → Move → Bool
names_work t moves.Ended = true
names_work t moves.Trapped = true
names_work t moves.Waits = true
names_work t (moves.Acts step) = is_there (slice_get t.works step.work)

pub record IsKnown (t : Table) (thread store work : ℕ) (m : Move) : Type 0 where
  pub store_there : store < length t.stores
  pub work_there : work < length t.works
  pub comes_to : consequence_of t.file.classes thread (goes_on t work []) (slice_get t.stores store) ≡
      move_outcome t.stores m
  pub rest_there : names_work t m ≡ true
  pub continues : (later : Answers) → after_move t m later ≡ after_answer t work m later

abbrev pub AreKnown : Table → List Row → Type 0
AreKnown t rows = (i : ℕ) (r : Row) → slice_get rows i ≡ Some r → IsKnown t r.thread r.store r.work r.made

abbrev pub row_of : ℕ → ℕ → ℕ → Move → Row
row_of thread store work m = record { thread = thread; store = store; work = work; made = m }
