-- What holds of the move that a plan is read as, if it holds of each kind of move.
use Rattle.std.proofs.Common.{◌≡◌, ℕ, Bool, true, false, Option, Some, None, refl, if◌then◌else◌}
use Rattle.ls_events.specs.declared.action.Action.{Action}
use Rattle.ls_events.specs.declared.action.Action.TheVariants as act
use Rattle.ls_events.specs.declared.action.Answer.{Answer}
use Rattle.ls_code.specs.Code.{Code}
use Rattle.ls_code.specs.Thread.{Thread}
use Rattle.ls_code.specs.Exchanges.{Quietly, Reports, Plan, Says, Touches, Stores}
use Rattle.ls_code.specs.Steps.{Move, Silent, Still, Asks}
use Rattle.ls_code.specs.Reading.{is_locking, is_trying, is_unlocking, operation, planned_move}

-- each kind of a move that isn't silent
pub record NotSilent (Q : Move → Type 0) : Type 0 where
  pub still : Q Still
  pub asks : (a : Action ℕ) (go : Answer ℕ → Option Thread) → Q (Asks a go)

module _ (p : Code) (number : ℕ) (Q : Move → Type 0) (holds : NotSilent Q) where
  open holds use {still, asks}

  if_all : (b : Bool) (a : Action ℕ) (go : Answer ℕ → Option Thread) → Q (if b then Asks a go else Still)
  if_all true a go = asks a go
  if_all false a go = still

  operation_all : (x : Thread) (a : Action ℕ) → Q (operation p number x a)
  operation_all x (act.Lock o) = if_all (is_locking p 1 x.top.counter) _ _
  operation_all x (act.TryLock o) = if_all (is_trying p x.top.counter) _ _
  operation_all x (act.Unlock o) = if_all (is_unlocking p 0 x.top.counter) _ _
  operation_all x (act.LockMonitor o) = if_all (is_locking p 4 x.top.counter) _ _
  operation_all x (act.UnlockMonitor o) = if_all (is_unlocking p 1 x.top.counter) _ _
  operation_all x a = still

  -- what a plan is read as, if the one silent move that it can be is such a move
  pub plan_all : (x : Thread) (q : Plan) →
      ((u : Thread) → q ≡ Says (Quietly (Some u)) → Q (Silent u)) →
      Q (planned_move p number x q)
  plan_all x (Says (Quietly None)) h = still
  plan_all x (Says (Quietly (Some u))) h = h u refl
  plan_all x (Says (Reports a y s)) h = still
  plan_all x (Stores touch s) h = still
  plan_all x (Touches a (act.ReadPair lock) go) h = operation_all x a
  plan_all x (Touches a b go) h = still
