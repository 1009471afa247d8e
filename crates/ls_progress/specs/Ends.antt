-- What is told of whether calls end.
use Rattle.std.specs.Prelude.{◌≡◌, ◌≤◌, ◌+◌, ◌*◌, ℕ, zero, suc, List, [], ◌∷◌, ◌++◌, Some, length, map, slice_get}
use Rattle.ls_events.specs.Limits.{most_steps}
use Rattle.ls_checked.specs.CheckedTree.{File}
use Rattle.ls_checked.specs.CheckedProgram.{Program, ThreadProgram}
use Rattle.ls_search_laws.specs.Configuration.{Configuration}
use Rattle.ls_progress_laws.specs.From.{GoesRoundByLocksFrom, GoesRoundFairlyFrom, GoesRoundFrom, IsBoundedFrom}
use Rattle.ls_progress_laws.specs.Laws.{GoesRoundByLocks}
use Rattle.ls_progress_laws.specs.Progress.{GoesRound, GoesRoundFairly, IsBounded, Kind, lock_free, obstruction_free}
use Rattle.ls_progress_laws.specs.Progress.{wait_free}
use Rattle.ls_progress.specs.declared.judging.CallEnds.{CallEnds}
use Rattle.ls_progress.specs.declared.judging.Fair.{Fair}
use Rattle.ls_progress.specs.declared.judging.Free.{Free}
use Rattle.ls_progress.specs.declared.judging.Free.TheVariants as frees
use Rattle.ls_progress.specs.declared.judging.Going.{Going}
use Rattle.ls_progress.specs.declared.judging.Going.TheVariants as goings
use Rattle.ls_progress.specs.declared.lassos.Lasso.{Lasso}

-- ten rounds after the way are no longer than a schedule may be
abbrev pub IsShort : Lasso → Type 0
IsShort l = length l.way.items + 10 * length l.cycle.items ≤ most_steps

-- What is told, by what it is for a call of a kind to be bounded, and to go round: somehow, with all threads going on,
-- and with no lock passing over one of them for ever.
module _ (Bounded : Kind → ℕ → ℕ → Type 0) (Round Fairly ByLocks : Kind → ℕ → List ℕ → List ℕ → Type 0) where
  -- the cycle may be taken again and again, and the call doesn't end
  abbrev pub Goes : Kind → ℕ → Lasso → Type 0
  Goes kind call l = IsShort l × Round kind call l.way.items l.cycle.items

  -- what is told of the call of a thread where no thread has to go on
  abbrev pub IsFree : ℕ → ℕ → Free → Type 0
  IsFree t call (frees.WaitFree most) = Bounded (wait_free t) call most
  IsFree t call (frees.LockFree most l) = Bounded (lock_free t) call most × Goes (wait_free t) call l
  IsFree t call (frees.ObstructionFree most l) = Bounded (obstruction_free t) call most × Goes (lock_free t) call l
  IsFree t call (frees.Blocking l) = Goes (obstruction_free t) call l
  IsFree t call frees.Unknown = Unit {0}

  -- and where all threads go on
  abbrev pub IsGoing : Kind → ℕ → Going → Type 0
  IsGoing kind call goings.Nothing = Unit {0}
  IsGoing kind call (goings.Fairly l) = IsShort l × Fairly kind call l.way.items l.cycle.items
  IsGoing kind call (goings.ByLocks l) = IsShort l × ByLocks kind call l.way.items l.cycle.items

  pub record IsFair (t call : ℕ) (f : Fair) : Type 0 where
    pub starving : IsGoing (wait_free t) call f.starving
    pub stopping : IsGoing (lock_free t) call f.stopping

  pub record IsCallEnds (c : CallEnds) : Type 0 where
    pub free : IsFree c.thread c.call c.free
    pub fair : IsFair c.thread c.call c.fair

  abbrev pub AreEnds : List CallEnds → Type 0
  AreEnds calls = (i : ℕ) (c : CallEnds) → slice_get calls i ≡ Some c → IsCallEnds c

-- of the runs from a configuration on, with so many threads
abbrev pub AreEndsFrom : File → ℕ → Configuration → List CallEnds → Type 0
AreEndsFrom file threads root =
    AreEnds (λ kind. IsBoundedFrom kind file root) (λ kind. GoesRoundFrom kind file root)
    (λ kind. GoesRoundFairlyFrom kind file root threads) (λ kind. GoesRoundByLocksFrom kind file root threads)

-- of the runs of a program
abbrev pub AreEndsOf : File → Program → List CallEnds → Type 0
AreEndsOf file program =
    AreEnds (λ kind. IsBounded kind file program) (λ kind. GoesRound kind file program)
    (λ kind. GoesRoundFairly kind file program) (λ kind. GoesRoundByLocks kind file program)

-- ---- of which calls

-- the first so many calls of a thread, which are numbered from 1
abbrev pub calls_to : ℕ → ℕ → List (ℕ × ℕ)
calls_to t zero = []
calls_to t (suc n) = calls_to t n ++ (t, n + 1) ∷ []

-- all calls of these threads, the first of which has this number
abbrev pub calls_from : ℕ → List ThreadProgram → List (ℕ × ℕ)
calls_from t [] = []
calls_from t (thread ∷ threads) = calls_to t (length thread.calls) ++ calls_from (t + 1) threads

-- all calls but those of the setup
abbrev pub calls_of : List ThreadProgram → List (ℕ × ℕ)
calls_of [] = []
calls_of (setup ∷ threads) = calls_from 1 threads

abbrev pub keys : List CallEnds → List (ℕ × ℕ)
keys calls = map (λ c. (c.thread, c.call)) calls
