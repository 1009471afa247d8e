-- What is told of the runs from before a program's first step on is told of the program.
use Rattle.std.proofs.Common.{ℕ, List, [], length}
use Rattle.ls_checked.specs.CheckedTree.{File}
use Rattle.ls_checked.specs.CheckedProgram.{Program}
use Rattle.ls_search_laws.specs.Configuration.{Configuration}
use Rattle.ls_progress_laws.specs.From.{GoesRoundByLocksFrom, GoesRoundFairlyFrom, GoesRoundFrom, IsBoundedFrom}
use Rattle.ls_progress_laws.specs.Laws.{GoesRoundByLocks, place_after}
use Rattle.ls_progress_laws.specs.Progress.{GoesRound, GoesRoundFairly, IsBounded, Kind, lock_free, obstruction_free}
use Rattle.ls_progress_laws.specs.Progress.{wait_free}
use Rattle.ls_progress_laws.proofs.Starting.{runs_from_start}
use Rattle.ls_progress.specs.Ends.{AreEndsFrom, AreEndsOf, IsFair, IsFree, IsGoing}
use Rattle.ls_progress.specs.declared.judging.CallEnds.{CallEnds}
use Rattle.ls_progress.specs.declared.judging.Free.{Free}
use Rattle.ls_progress.specs.declared.judging.Free.TheVariants as frees
use Rattle.ls_progress.specs.declared.judging.Going.{Going}
use Rattle.ls_progress.specs.declared.judging.Going.TheVariants as goings

module _ (B B' : Kind → ℕ → ℕ → Type 0) (R F L R' F' L' : Kind → ℕ → List ℕ → List ℕ → Type 0)
    (bounded : (k : Kind) (call most : ℕ) → B k call most → B' k call most)
    (round : (k : Kind) (call : ℕ) (way cycle : List ℕ) → R k call way cycle → R' k call way cycle)
    (fairly : (k : Kind) (call : ℕ) (way cycle : List ℕ) → F k call way cycle → F' k call way cycle)
    (by_locks : (k : Kind) (call : ℕ) (way cycle : List ℕ) → L k call way cycle → L' k call way cycle) where
  pub free_so : (t call : ℕ) (f : Free) → IsFree B R F L t call f → IsFree B' R' F' L' t call f
  free_so t call (frees.WaitFree most) is = bounded (wait_free t) call most is
  free_so t call (frees.LockFree most l) is = (
    bounded (lock_free t) call most is.0,
    (is.1.0, round (wait_free t) call l.way.items l.cycle.items is.1.1),
  )
  free_so t call (frees.ObstructionFree most l) is = (
    bounded (obstruction_free t) call most is.0,
    (is.1.0, round (lock_free t) call l.way.items l.cycle.items is.1.1),
  )
  free_so t call (frees.Blocking l) is = (
    is.0,
    round (obstruction_free t) call l.way.items l.cycle.items is.1,
  )
  free_so t call frees.Unknown is = tt

  pub going_so : (k : Kind) (call : ℕ) (g : Going) → IsGoing B R F L k call g → IsGoing B' R' F' L' k call g
  going_so k call goings.Nothing is = tt
  going_so k call (goings.Fairly l) is = (is.0, fairly k call l.way.items l.cycle.items is.1)
  going_so k call (goings.ByLocks l) is = (is.0, by_locks k call l.way.items l.cycle.items is.1)

module _ (file : File) (program : Program) where
  abbrev root : Configuration
  root = place_after file program []

  abbrev threads : ℕ
  threads = length program.threads

  free_here : (t call : ℕ) (f : Free) →
      IsFree (λ k. IsBoundedFrom k file root) (λ k. GoesRoundFrom k file root)
      (λ k. GoesRoundFairlyFrom k file root threads) (λ k. GoesRoundByLocksFrom k file root threads) t call f →
      IsFree (λ k. IsBounded k file program) (λ k. GoesRound k file program) (λ k. GoesRoundFairly k file program)
      (λ k. GoesRoundByLocks k file program) t call f
  free_here =
      free_so (λ k. IsBoundedFrom k file root) (λ k. IsBounded k file program) (λ k. GoesRoundFrom k file root)
      (λ k. GoesRoundFairlyFrom k file root threads) (λ k. GoesRoundByLocksFrom k file root threads)
      (λ k. GoesRound k file program) (λ k. GoesRoundFairly k file program) (λ k. GoesRoundByLocks k file program)
      (λ k n. (runs_from_start k file program n).bounded) (λ k n. (runs_from_start k file program n).round)
      (λ k n. (runs_from_start k file program n).fairly) (λ k n. (runs_from_start k file program n).by_locks)

  going_here : (k : Kind) (call : ℕ) (g : Going) →
      IsGoing (λ k. IsBoundedFrom k file root) (λ k. GoesRoundFrom k file root)
      (λ k. GoesRoundFairlyFrom k file root threads) (λ k. GoesRoundByLocksFrom k file root threads) k call g →
      IsGoing (λ k. IsBounded k file program) (λ k. GoesRound k file program) (λ k. GoesRoundFairly k file program)
      (λ k. GoesRoundByLocks k file program) k call g
  going_here =
      going_so (λ k. IsBoundedFrom k file root) (λ k. IsBounded k file program) (λ k. GoesRoundFrom k file root)
      (λ k. GoesRoundFairlyFrom k file root threads) (λ k. GoesRoundByLocksFrom k file root threads)
      (λ k. GoesRound k file program) (λ k. GoesRoundFairly k file program) (λ k. GoesRoundByLocks k file program)
      (λ k n. (runs_from_start k file program n).bounded) (λ k n. (runs_from_start k file program n).round)
      (λ k n. (runs_from_start k file program n).fairly) (λ k n. (runs_from_start k file program n).by_locks)

  pub ends_of_program : (calls : List CallEnds) → AreEndsFrom file threads root calls → AreEndsOf file program calls
  ends_of_program calls are i c here =
      let is = are i c here in
      record {
        free = free_here c.thread c.call c.free is.free;
        fair = record {
          starving = going_here (wait_free c.thread) c.call c.fair.starving is.fair.starving;
          stopping = going_here (lock_free c.thread) c.call c.fair.stopping is.fair.stopping;
        };
      }
