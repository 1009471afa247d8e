-- What is told of calls, with lassos as texts.
use Rattle.std.specs.Prelude.{◌≡◌, ◌++◌, ℕ, List, Ok, Some, length, slice_get, string_bytes}
use Rattle.ls_progress_laws.specs.Progress.{rounds}
use Rattle.ls_progress.specs.declared.judging.CallEnds.{CallEnds}
use Rattle.ls_progress.specs.declared.judging.Fair.{Fair}
use Rattle.ls_progress.specs.declared.judging.Free.{Free}
use Rattle.ls_progress.specs.declared.judging.Free.TheVariants as frees
use Rattle.ls_progress.specs.declared.judging.Going.{Going}
use Rattle.ls_progress.specs.declared.judging.Going.TheVariants as goings
use Rattle.ls_progress.specs.declared.lassos.Lasso.{Lasso}
use Rattle.ls_schedule.specs.Reading.{schedule_of}
use Rattle.ls_end_reports.specs.declared.writing.CallText.{CallText}
use Rattle.ls_end_reports.specs.declared.writing.FairText.{FairText}
use Rattle.ls_end_reports.specs.declared.writing.FreeText.{FreeText}
use Rattle.ls_end_reports.specs.declared.writing.FreeText.TheVariants as free
use Rattle.ls_end_reports.specs.declared.writing.GoingText.{GoingText}
use Rattle.ls_end_reports.specs.declared.writing.GoingText.TheVariants as going

-- the way, and ten times the cycle
abbrev pub played : Lasso → List ℕ
played l = l.way.items ++ rounds 10 l.cycle.items

-- the text is read as that schedule
abbrev pub IsLassoText : List (List ℕ) → Lasso → List ℕ → Type 0
IsLassoText names l text = schedule_of names text ≡ Ok (played l)

abbrev pub IsWrittenFree : List (List ℕ) → Free → FreeText → Type 0
IsWrittenFree names (frees.WaitFree most) (free.WaitFree n) = n ≡ most
IsWrittenFree names (frees.LockFree most l) (free.LockFree n text) =
    (n ≡ most) × IsLassoText names l (string_bytes text)
IsWrittenFree names (frees.ObstructionFree most l) (free.ObstructionFree n text) =
    (n ≡ most) × IsLassoText names l (string_bytes text)
IsWrittenFree names (frees.Blocking l) (free.Blocking text) = IsLassoText names l (string_bytes text)
IsWrittenFree names frees.Unknown free.Unknown = Unit {0}
IsWrittenFree names told written = ⊥

abbrev pub IsWrittenGoing : List (List ℕ) → Going → GoingText → Type 0
IsWrittenGoing names goings.Nothing going.Nothing = Unit {0}
IsWrittenGoing names (goings.Fairly l) (going.Fairly text) = IsLassoText names l (string_bytes text)
IsWrittenGoing names (goings.ByLocks l) (going.ByLocks text) = IsLassoText names l (string_bytes text)
IsWrittenGoing names told written = ⊥

pub record IsWrittenFair (names : List (List ℕ)) (f : Fair) (w : FairText) : Type 0 where
  pub starving : IsWrittenGoing names f.starving w.starving
  pub stopping : IsWrittenGoing names f.stopping w.stopping

pub record IsWritten (names : List (List ℕ)) (c : CallEnds) (w : CallText) : Type 0 where
  pub thread : w.thread ≡ c.thread
  pub call : w.call ≡ c.call
  pub free : IsWrittenFree names c.free w.free
  pub fair : IsWrittenFair names c.fair w.fair

-- so it is of each, one by one
pub record AreWritten (names : List (List ℕ)) (calls : List CallEnds) (texts : List CallText) : Type 0 where
  pub many : length texts ≡ length calls
  pub each : (i : ℕ) (c : CallEnds) (w : CallText) → slice_get calls i ≡ Some c → slice_get texts i ≡ Some w →
      IsWritten names c w
