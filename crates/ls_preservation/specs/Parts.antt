-- What the instructions of an operation of a lock do, from the thread that begins it.
use Rattle.std.specs.Prelude.{◌≡◌, ℕ, Option, Some}
use Rattle.ls_events.specs.declared.kind.Kind.TheVariants.{IllegalMonitorState, Error}
use Rattle.ls_events.specs.declared.action.Action.{Action}
use Rattle.ls_events.specs.declared.action.Action.TheVariants as act
use Rattle.ls_events.specs.declared.action.Answer.{Answer}
use Rattle.ls_events.specs.declared.action.Answer.TheVariants.{Done, Gives, Fails}
use Rattle.ls_code.specs.Code.{Code}
use Rattle.ls_code.specs.Thread.{Thread}
use Rattle.ls_code.specs.Locks.{taken_of, left_of}
use Rattle.ls_code.specs.Cells.{Cells, Answers, effect, cell_at}
use Rattle.ls_code.specs.Exchanges.{throwing}
use Rattle.ls_code.specs.Steps.{Move, Silent, Asks, Plans, StepResult, step_result, ended_so, performed, thread_move}
use Rattle.ls_code.specs.declared.step.Did.TheVariants as did
use Rattle.ls_code.specs.declared.lock_word.Taken.TheVariants as taken
use Rattle.ls_code.specs.declared.lock_word.Left.TheVariants as left
use Rattle.ls_code.specs.Reading.{seen, exchanged, after_lock, after_try, after_unlock, whole_move}

-- one instruction of a thread with these cells
abbrev pub one : Code → ℕ → Cells → Thread → StepResult
one p n c x = performed c n x (thread_move p x)

-- the instructions of an operation that locks, of `tryLock()`, and of an operation that unlocks
pub record LockParts (p : Code) (n : ℕ) (y : Thread) (a : ℕ) (b : Action ℕ) : Type 0 where
  pub see : (c : Cells) (w : ℕ) → cell_at c a 0 ≡ Some w → one p n c y ≡ step_result (seen y w) c did.Silent
  pub other : (c : Cells) (w : ℕ) →
      taken_of w n ≡ taken.Other →
      one p n c (seen y w) ≡ step_result (exchanged y 0) c did.Silent
  pub full : (c : Cells) (w : ℕ) →
      taken_of w n ≡ taken.TooMany →
      one p n c (seen y w) ≡ ended_so c (seen y w) (throwing p (seen y w) Error) (did.Acted b (Fails Error))
  pub won : (c d : Cells) (w next : ℕ) →
      taken_of w n ≡ taken.Taken next →
      effect c n (act.SwapPair a w next) ≡ Answers d (Gives 1) →
      one p n c (seen y w) ≡ step_result (exchanged y 1) d (did.Acted b Done)
  pub lost : (c d : Cells) (w next : ℕ) →
      taken_of w n ≡ taken.Taken next →
      effect c n (act.SwapPair a w next) ≡ Answers d (Gives 0) →
      one p n c (seen y w) ≡ step_result (exchanged y 0) d did.Silent
  pub back : (c : Cells) → one p n c (exchanged y 0) ≡ step_result y c did.Silent

pub record TryParts (p : Code) (n : ℕ) (y : Thread) (a : ℕ) : Type 0 where
  pub see : (c : Cells) (w next : ℕ) →
      cell_at c a 0 ≡ Some w →
      taken_of w n ≡ taken.Taken next →
      one p n c y ≡ step_result (seen y w) c did.Silent
  pub see_full : (c : Cells) (w : ℕ) →
      cell_at c a 0 ≡ Some w →
      taken_of w n ≡ taken.TooMany →
      one p n c y ≡ step_result (seen y w) c did.Silent
  pub see_other : (c : Cells) (w : ℕ) →
      cell_at c a 0 ≡ Some w →
      taken_of w n ≡ taken.Other →
      one p n c y ≡ step_result (seen y w) c (did.Acted (act.TryLock a) (Gives 0))
  pub full : (c : Cells) (w : ℕ) →
      taken_of w n ≡ taken.TooMany →
      one p n c (seen y w) ≡ ended_so c (seen y w) (throwing p (seen y w) Error)
      (did.Acted (act.TryLock a) (Fails Error))
  pub won : (c d : Cells) (w next : ℕ) →
      taken_of w n ≡ taken.Taken next →
      effect c n (act.SwapPair a w next) ≡ Answers d (Gives 1) →
      one p n c (seen y w) ≡ step_result (exchanged y 1) d (did.Acted (act.TryLock a) (Gives 1))
  pub lost : (c d : Cells) (w next : ℕ) →
      taken_of w n ≡ taken.Taken next →
      effect c n (act.SwapPair a w next) ≡ Answers d (Gives 0) →
      one p n c (seen y w) ≡ step_result (exchanged y 0) d (did.Acted (act.TryLock a) (Gives 0))
  -- what comes after TAKE if another thread owns the lock, in the machine and in the reading
  pub told : (c : Cells) (w : ℕ) →
      taken_of w n ≡ taken.Other →
      one p n c (seen y w) ≡ step_result (exchanged y 0) c did.Silent
  pub told_whole : (w : ℕ) → taken_of w n ≡ taken.Other → whole_move p n (seen y w) ≡ Silent (exchanged y 0)

pub record UnlockParts (p : Code) (n : ℕ) (y : Thread) (a : ℕ) (b : Action ℕ) : Type 0 where
  pub see : (c : Cells) (w next : ℕ) →
      cell_at c a 0 ≡ Some w →
      left_of w n ≡ left.Left next →
      one p n c y ≡ step_result (seen y w) c did.Silent
  pub see_other : (c : Cells) (w : ℕ) →
      cell_at c a 0 ≡ Some w →
      left_of w n ≡ left.NotOwner →
      one p n c y ≡ ended_so c y (throwing p y IllegalMonitorState) (did.Acted b (Fails IllegalMonitorState))
  pub drop : (c d : Cells) (w next : ℕ) →
      left_of w n ≡ left.Left next →
      effect c n (act.SetPair a next) ≡ Answers d Done →
      (s : Thread) →
      after_unlock p y Done ≡ Some s →
      one p n c (seen y w) ≡ step_result s d (did.Acted b Done)

abbrev pub IsPlanned : Move → Type 0
IsPlanned (Plans go) = Unit {0}
IsPlanned _ = ⊥

abbrev pub Parts : Code → ℕ → Thread → Action ℕ → (Answer ℕ → Option Thread) → Type 0
Parts p n y (act.Lock a) go = LockParts p n y a (act.Lock a) × (go ≡ after_lock p n y)
Parts p n y (act.TryLock a) go = TryParts p n y a × (go ≡ after_try p n y)
Parts p n y (act.Unlock a) go = UnlockParts p n y a (act.Unlock a) × (go ≡ after_unlock p y)
Parts p n y (act.LockMonitor a) go = LockParts p n y a (act.LockMonitor a) × (go ≡ after_lock p n y)
Parts p n y (act.UnlockMonitor a) go = UnlockParts p n y a (act.UnlockMonitor a) × (go ≡ after_unlock p y)
Parts p n y _ go = ⊥

-- if the reading asks for an operation at SEE, the instructions of that operation do this
abbrev pub PartsAreThere : Type 0
PartsAreThere = (p : Code) (n : ℕ) (y : Thread) (b : Action ℕ) (go : Answer ℕ → Option Thread) →
    IsPlanned (thread_move p y) → whole_move p n y ≡ Asks b go → Parts p n y b go
