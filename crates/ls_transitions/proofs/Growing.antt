-- Moves stay moves while tables grow.
use Rattle.std.proofs.Common.{◌≡◌, ℕ, ◌<◌, [], ◌∷◌, length, Some, refl, sym, ap, ◌∙◌}
use Rattle.std.specs.Prelude.{slice_get}
use Rattle.ls_meaning.specs.Course.{Answers}
use Rattle.ls_meaning.specs.Effect.{effect}
use Rattle.ls_source.specs.Calls.{Thread}
use Rattle.ls_source.specs.Kept.{means}
use Rattle.ls_transitions.specs.declared.moves.Move.{Move}
use Rattle.ls_transitions.specs.declared.moves.Move.TheVariants as moves
use Rattle.ls_transitions.specs.Tables.{Table, Grows, goes_on}
use Rattle.ls_transitions.specs.Moves.{IsMove}
use Rattle.ls_transitions.proofs.Keeping.{there}

-- a table grows to itself, and on and on
pub grows_not : (t : Table) → Grows t t
grows_not t = record { file = refl; program = refl; stores = λ n x h. h; works = λ n x h. h }

pub grows_on : (a b c : Table) → Grows a b → Grows b c → Grows a c
grows_on a b c g h = record {
  file = h.file ∙ g.file;
  program = h.program ∙ g.program;
  stores = λ n x e. h.stores n x (g.stores n x e);
  works = λ n x e. h.works n x (g.works n x e);
}

-- what a work with a number means
going_from : (old new : Table) (work : ℕ) (w : Thread) (later : Answers) →
    Grows old new →
    slice_get old.works work ≡ Some w →
    goes_on new work later ≡ goes_on old work later
going_from old new work w later g e =
    ap (λ o. means new.file new.program o later) (g.works work w e)
    ∙ ap (λ f. means f new.program (Some w) later) g.file
    ∙ ap (λ p. means old.file p (Some w) later) g.program
    ∙ ap (λ o. means old.file old.program o later) (sym e)

pub same_going : (old new : Table) (work : ℕ) (later : Answers) →
    Grows old new →
    work < length old.works →
    goes_on new work later ≡ goes_on old work later
same_going old new work later g within =
    let at = there old.works work within in going_from old new work at.0 later g at.1

-- a move is still that move
pub still_move : (old new : Table) (thread store work : ℕ) (m : Move) →
    Grows old new →
    work < length old.works →
    IsMove old thread store work m →
    IsMove new thread store work m
still_move old new thread store work moves.Ended g within h = same_going old new work [] g within ∙ h
still_move old new thread store work moves.Trapped g within h = same_going old new work [] g within ∙ h
still_move old new thread store work moves.Waits g within h = record {
  from = h.from;
  from_is = g.stores store h.from h.from_is;
  action = h.action;
  sort = h.sort;
  asks = same_going old new work [] g within ∙ h.asks;
  waits = ap (λ f. effect f.classes h.from thread h.action) g.file ∙ h.waits;
}
still_move old new thread store work (moves.Acts step) g within h = record {
  from = h.from;
  from_is = g.stores store h.from h.from_is;
  to = h.to;
  to_is = g.stores step.store h.to h.to_is;
  rest = h.rest;
  rest_is = g.works step.work h.rest h.rest_is;
  sort = h.sort;
  asks = same_going old new work [] g within ∙ h.asks;
  does = ap (λ f. effect f.classes h.from thread step.action) g.file ∙ h.does;
  continues = λ later. going_from old new step.work h.rest later g h.rest_is ∙ h.continues later ∙
      sym (same_going old new work (step.answer ∷ later) g within);
}
