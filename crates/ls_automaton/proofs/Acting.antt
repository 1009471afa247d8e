-- What a step does that acts.
use Rattle.std.proofs.Common.{◌≡◌, ℕ, Bool, true, false, [], ◌∷◌, ◌++◌, refl}
use Rattle.std.specs.Prelude.{if◌then◌else◌, slice_set}
use Rattle.ls_events.specs.declared.value.Value.{Value}
use Rattle.ls_events.specs.declared.action.Action.{Action}
use Rattle.ls_events.specs.declared.action.Answer.{Answer}
use Rattle.ls_checked.specs.CheckedTree.{File}
use Rattle.ls_checked.specs.CheckedProgram.{Program}
use Rattle.ls_meaning.specs.declared.sort.Sort.{Sort}
use Rattle.ls_meaning.specs.Still.{IsActing}
use Rattle.ls_meaning.specs.Effect.{Effect, Waits, Does, effect}
use Rattle.ls_meaning.specs.Threads.{Next, Goes, Ended, Trapped, next}
use Rattle.ls_meaning.specs.Runs.{State, Step, answers_of, event_of, has_started, idle, performed, step, step_of}
use Rattle.ls_serial_search.specs.Following.{events_in, events_of}

-- a thread asks for this action, and its answer is kept
pub record HasActed (s : State) (t : ℕ) (n : Next) (p : Step) : Type 0 where
  pub action : Action Value
  pub sort : Sort
  pub answer : Answer Value
  pub asks : n ≡ Goes action sort
  pub events : events_of t p.did ≡ events_in (event_of t action)
  pub answers : p.after.answers ≡ slice_set s.answers t (answers_of s t ++ answer ∷ [])

module _ (file : File) (s : State) (t : ℕ) where
  by_effect : (a : Action Value) (sort : Sort) (e : Effect) → IsActing (performed s t a e).did →
      HasActed s t (Goes a sort) (performed s t a e)
  by_effect a sort Waits acts = absurd acts
  by_effect a sort (Does store answer) acts = record {
    action = a;
    sort = sort;
    answer = answer;
    asks = refl;
    events = refl;
    answers = refl;
  }

  by_next : (n : Next) (b : Bool) → IsActing (if b then step_of file s t n else idle s).did →
      HasActed s t n (if b then step_of file s t n else idle s)
  by_next n false acts = absurd acts
  by_next (Goes a sort) true acts = by_effect a sort (effect file.classes s.store t a) acts
  by_next Ended true acts = absurd acts
  by_next Trapped true acts = absurd acts

pub has_acted : (file : File) (program : Program) (s : State) (t : ℕ) → IsActing (step file program s t).did →
    HasActed s t (next file program t (answers_of s t)) (step file program s t)
has_acted file program s t acts =
    by_next file s t (next file program t (answers_of s t)) (has_started file program s t) acts
