-- A move that is made from a work and a store.
use Rattle.std.proofs.Common.{◌≡◌, ℕ, ◌<◌, [], ◌∷◌, length, Some, sym, ap, ◌∙◌}
use Rattle.std.specs.Prelude.{slice_get}
use Rattle.ls_events.specs.declared.value.Value.{Value}
use Rattle.ls_events.specs.declared.action.Action.{Action}
use Rattle.ls_checked.specs.CheckedProgram.{Program}
use Rattle.ls_meaning.specs.declared.sort.Sort.{Sort}
use Rattle.ls_meaning.specs.Course.{Answers}
use Rattle.ls_meaning.specs.Store.{Store}
use Rattle.ls_meaning.specs.Effect.{Waits, Does, effect}
use Rattle.ls_meaning.specs.Threads.{Next, Goes}
use Rattle.ls_source.specs.Calls.{Thread, thread_meaning, answered, asked_now}
use Rattle.ls_source.specs.Kept.{means, action_in}
use Rattle.ls_source.proofs.Calls.{asked_is, answered_keeps}
use Rattle.ls_transitions.specs.declared.moves.Step.{Step}
use Rattle.ls_transitions.specs.declared.moves.Move.{Move}
use Rattle.ls_transitions.specs.declared.moves.Move.TheVariants as moves
use Rattle.ls_transitions.specs.Tables.{Table, Grows, goes_on}
use Rattle.ls_transitions.specs.Acting.{IsHeld, IsDone, IsActed}
use Rattle.ls_transitions.specs.Moves.{IsMove}
use Rattle.ls_transitions.proofs.Growing.{same_going}

-- an action that waits
pub held_there : (t : Table) (thread store : ℕ) (from : Store) (action : Action Value) →
    slice_get t.stores store ≡ Some from →
    Waits ≡ effect t.file.classes from thread action →
    IsHeld t thread store action
held_there t thread store from action at waits = record { from = from; from_is = at; waits = sym waits }

-- an action that is performed: the store after it and then the work after its answer get their numbers
pub done_there : (a b c : Table) (thread store : ℕ) (w x y : Thread) (from to : Store) (action : Action Value)
    (step : Step) →
    slice_get a.stores store ≡ Some from →
    Does to step.answer ≡ effect a.file.classes from thread action →
    action_in (asked_now a.program w) ≡ Some action →
    x ≡ answered a.file step.answer w →
    ((program : Program) (q : Answers) → thread_meaning a.file program y q ≡ thread_meaning a.file program x q) →
    step.action ≡ action →
    Grows a b →
    slice_get b.stores step.store ≡ Some to →
    Grows b c →
    slice_get c.works step.work ≡ Some y →
    IsDone c thread store w action step
done_there a b c thread store w x y from to action step at does asks took settled same g stored h kept = record {
  from = from;
  from_is = h.stores store from (g.stores store from at);
  to = to;
  to_is = h.stores step.store to stored;
  rest = y;
  rest_is = kept;
  performs = same;
  does = ap (λ f. effect f.classes from thread action) (h.file ∙ g.file) ∙ sym does;
  continues = λ later.
      ap (λ o. means c.file c.program o later) kept
      ∙ ap (λ f. thread_meaning f c.program y later) (h.file ∙ g.file)
      ∙ ap (λ p. thread_meaning a.file p y later) (h.program ∙ g.program)
      ∙ settled a.program later
      ∙ ap (λ k. thread_meaning a.file a.program k later) took
      ∙ answered_keeps a.file a.program w.number w.left w.phase action step.answer later asks
      ∙ ap (λ p. thread_meaning a.file p w (step.answer ∷ later)) (sym (h.program ∙ g.program))
      ∙ ap (λ f. thread_meaning f c.program w (step.answer ∷ later)) (sym (h.file ∙ g.file));
}

-- what a work asks for, by a copy of it that has gone on to its next question
pub asked_there : (t : Table) (work : ℕ) (w x : Thread) (r : Next) →
    slice_get t.works work ≡ Some w →
    ((program : Program) (q : Answers) → thread_meaning t.file program x q ≡ thread_meaning t.file program w q) →
    asked_now t.program x ≡ Some r →
    goes_on t work [] ≡ r
asked_there t work w x r at settled asks =
    ap (λ o. means t.file t.program o []) at ∙ sym (settled t.program []) ∙
    asked_is t.file t.program x.number x.left x.phase r asks

-- the action that it asks for is a move
pub acted_there : (t u : Table) (thread store work : ℕ) (w x : Thread) (action : Action Value) (sort : Sort)
    (m : Move) →
    work < length t.works →
    slice_get t.works work ≡ Some w →
    ((program : Program) (q : Answers) → thread_meaning t.file program x q ≡ thread_meaning t.file program w q) →
    asked_now t.program x ≡ Some (Goes action sort) →
    Grows t u →
    IsActed u thread store x action m →
    IsMove u thread store work m
acted_there t u thread store work w x action sort moves.Ended within at settled asks g h = absurd h
acted_there t u thread store work w x action sort moves.Trapped within at settled asks g h = absurd h
acted_there t u thread store work w x action sort moves.Waits within at settled asks g h = record {
  from = h.from;
  from_is = h.from_is;
  action = action;
  sort = sort;
  asks = same_going t u work [] g within ∙ asked_there t work w x (Goes action sort) at settled asks;
  waits = h.waits;
}
acted_there t u thread store work w x action sort (moves.Acts step) within at settled asks g h = record {
  from = h.from;
  from_is = h.from_is;
  to = h.to;
  to_is = h.to_is;
  rest = h.rest;
  rest_is = h.rest_is;
  sort = sort;
  asks = same_going t u work [] g within ∙ asked_there t work w x (Goes action sort) at settled asks ∙
      ap (λ k. Goes k sort) (sym h.performs);
  does = ap (λ k. effect u.file.classes h.from thread k) h.performs ∙ h.does;
  continues = λ later.
      h.continues later
      ∙ ap (λ f. thread_meaning f u.program x (step.answer ∷ later)) g.file
      ∙ ap (λ p. thread_meaning t.file p x (step.answer ∷ later)) g.program
      ∙ settled t.program (step.answer ∷ later)
      ∙ ap (λ o. means t.file t.program o (step.answer ∷ later)) (sym at)
      ∙ sym (same_going t u work (step.answer ∷ later) g within);
}
