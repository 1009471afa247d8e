-- What shows that a call may never end, and what that it ends.
use Rattle.std.specs.Prelude.{◌≡◌, ◌≤◌, ◌+◌, ℕ, true, Option, None, Some, List, [], length, slice_get}
use Rattle.std.specs.List.{fold}
use Rattle.ls_checked.specs.CheckedTree.{File}
use Rattle.ls_checked.specs.CheckedProgram.{Program}
use Rattle.ls_meaning.specs.declared.step.Did.TheVariants as did
use Rattle.ls_meaning.specs.Renamings.{IsRenaming}
use Rattle.ls_meaning.specs.Runs.{source_run}
use Rattle.ls_meaning.specs.Still.{IsActing}
use Rattle.ls_search_laws.specs.Configuration.{Configuration, IsRenamed, configuration_of, stride}
use Rattle.ls_search_laws.specs.Stepping.{events_of}
use Rattle.ls_progress_laws.specs.From.{GoesRoundByLocksFrom, GoesRoundFairlyFrom, GoesRoundFrom, IsBoundedFrom}
use Rattle.ls_progress_laws.specs.From.{IsFairByLocks, pending_from}
use Rattle.ls_progress_laws.specs.Progress.{GoesRound, GoesRoundFairly, IsBounded, IsEndless, Kind, lock_free}
use Rattle.ls_progress_laws.specs.Progress.{obstruction_free, own, pending_after, wait_free}
use Rattle.ls_progress_laws.specs.Strides.{AreWithin, end, own_strides}

-- ---- what is said of one kind is said of another

-- a wait-free call is lock-free, and a lock-free one obstruction-free
pub record KindsFollow (file : File) (program : Program) (t call most : ℕ) : Type 0 where
  pub waits : IsBounded (wait_free t) file program call most → IsBounded (lock_free t) file program call most
  pub locks : IsBounded (lock_free t) file program call most → IsBounded (obstruction_free t) file program call most

abbrev pub AllKindsFollow : Type 0
AllKindsFollow = (file : File) (program : Program) (t call most : ℕ) → KindsFollow file program t call most

-- a bound and none are not both
abbrev pub NeverBoth : Type 0
NeverBoth = (kind : Kind) (file : File) (program : Program) (call most : ℕ) →
    IsBounded kind file program call most →
    IsEndless kind file program call →
    ⊥

-- ---- lassos

-- the second is the first but for names of objects
pub record IsOther (c d : Configuration) : Type 0 where
  pub names : ℕ → ℕ
  pub renaming : IsRenaming names
  pub same : IsRenamed names c d

abbrev pub place_after : File → Program → List ℕ → Configuration
place_after file program schedule = configuration_of file program (source_run file program schedule)

-- A lasso: the way leads to a state, and the cycle from there to the same state but for names of objects. In the cycle
-- the thread takes a step, and no call begins or ends that mustn't. It is said of the state as a search keeps it. That
-- after the way is one with other names, and so is that after way and cycle.
pub record IsLasso (kind : Kind) (file : File) (root : Configuration) (call : ℕ) (way cycle : List ℕ) : Type 0 where
  pub in_call : pending_from kind file root way ≡ Some call
  pub start : Configuration
  pub led : IsOther start (end file root way)
  pub within : AreWithin kind file start cycle
  pub some : 1 ≤ own_strides kind file start cycle
  pub back : IsOther start (end file start cycle)

abbrev pub LassosGoRound : Type 0
LassosGoRound = (kind : Kind) (file : File) (root : Configuration) (call : ℕ) (way cycle : List ℕ) →
    IsLasso kind file root call way cycle →
    GoesRoundFrom kind file root call way cycle

-- so where steps go round there is no bound
abbrev pub RoundsAreEndless : Type 0
RoundsAreEndless = (kind : Kind) (file : File) (program : Program) (call : ℕ) (way cycle : List ℕ) →
    GoesRound kind file program call way cycle →
    IsEndless kind file program call

-- all threads go on in the cycle, and no lock passes over one of them for ever
pub record GoesRoundByLocks (kind : Kind) (file : File) (program : Program) (call : ℕ) (way cycle : List ℕ) : Type 0
  where
    pub fairly : GoesRoundFairly kind file program call way cycle
    pub locks : IsFairByLocks file (place_after file program way) cycle

-- ---- where there is none

-- what a step of a thread leads to: one of the list
pub record Leads (list : List Configuration) (d : Configuration) : Type 0 where
  pub to : ℕ
  pub one : Configuration
  pub here : slice_get list to ≡ Some one
  pub other : IsOther one d

-- Of each state of the list, with the call of the thread that is pending there: whatever acting step a thread takes
-- there leads to one of the list, with the call that is pending then.
pub record IsClosed (t : ℕ) (file : File) (list : List Configuration) (now : ℕ → Option ℕ) : Type 0 where
  pub leads : (at : ℕ) (c : Configuration) → slice_get list at ≡ Some c → (u : ℕ) → IsActing (stride file c u).did →
      Leads list (stride file c u).after
  pub follows : (at : ℕ) (c : Configuration) (here : slice_get list at ≡ Some c) (u : ℕ)
      (acts : IsActing (stride file c u).did) →
      now (leads at c here u acts).to ≡ fold (pending_after t) (now at) (events_of u (stride file c u).did)

-- Wherever the call is pending a rank sinks with each step of its thread, and rises with none. So it is of the steps
-- that may be taken and with which no call begins or ends that mustn't. The thread doesn't wait.
pub record IsRanked (kind : Kind) (file : File) (list : List Configuration) (now : ℕ → Option ℕ)
    (closed : IsClosed kind.thread file list now) (call : ℕ) (rank : ℕ → ℕ) (most : ℕ) : Type 0 where
  pub low : (at : ℕ) (c : Configuration) → slice_get list at ≡ Some c → now at ≡ Some call → rank at ≤ most
  pub sinks : (at : ℕ) (c : Configuration) (here : slice_get list at ≡ Some c) (u : ℕ)
      (acts : IsActing (stride file c u).did) → now at ≡ Some call → kind.may u ≡ true →
      (kind.quiet u ≡ true → events_of u (stride file c u).did ≡ []) →
      own kind u (stride file c u).did + rank (closed.leads at c here u acts).to ≤ rank at
  pub free : (at : ℕ) (c : Configuration) → slice_get list at ≡ Some c → now at ≡ Some call →
      kind.may kind.thread ≡ true → (stride file c kind.thread).did ≡ did.Waits → ⊥

abbrev pub RanksBound : Type 0
RanksBound = (kind : Kind) (file : File) (root : Configuration) (list : List Configuration) (now : ℕ → Option ℕ)
    (closed : IsClosed kind.thread file list now) (call : ℕ) (rank : ℕ → ℕ) (most : ℕ) →
    IsRanked kind file list now closed call rank most →
    kind.quiet kind.thread ≡ true →
    (first : Leads list root) →
    now first.to ≡ None →
    IsBoundedFrom kind file root call most

-- ---- the runs of a program are those from before its first step on

pub record IsFromStart (kind : Kind) (file : File) (program : Program) (call : ℕ) : Type 0 where
  pub bounded : (most : ℕ) → IsBoundedFrom kind file (place_after file program []) call most →
      IsBounded kind file program call most
  pub round : (way cycle : List ℕ) → GoesRoundFrom kind file (place_after file program []) call way cycle →
      GoesRound kind file program call way cycle
  pub fairly : (way cycle : List ℕ) →
      GoesRoundFairlyFrom kind file (place_after file program []) (length program.threads) call way cycle →
      GoesRoundFairly kind file program call way cycle
  pub by_locks : (way cycle : List ℕ) →
      GoesRoundByLocksFrom kind file (place_after file program []) (length program.threads) call way cycle →
      GoesRoundByLocks kind file program call way cycle

abbrev pub RunsFromStart : Type 0
RunsFromStart = (kind : Kind) (file : File) (program : Program) (call : ℕ) → IsFromStart kind file program call
