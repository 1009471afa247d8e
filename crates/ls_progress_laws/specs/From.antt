-- The same of runs from any configuration on: how many steps a call may take, and steps again and again.
use Rattle.std.specs.Prelude.{◌≡◌, ◌≤◌, ◌<◌, ◌⊎◌, ◌++◌, ◌∷◌, ℕ, Option, Some, List, Contains}
use Rattle.ls_checked.specs.CheckedTree.{File}
use Rattle.ls_meaning.specs.declared.step.Did.TheVariants as did
use Rattle.ls_meaning.specs.Still.{IsActing}
use Rattle.ls_search_laws.specs.Configuration.{Configuration, stride}
use Rattle.ls_progress_laws.specs.Progress.{Kind, pending, rounds}
use Rattle.ls_progress_laws.specs.Strides.{ActsAlong, AreWithin, end, events_along, own_strides}

module _ (file : File) where
  -- each of so many threads but the setup takes one of these steps, unless it does nothing any more
  abbrev pub IsFairBy : ℕ → Configuration → List ℕ → Type 0
  IsFairBy threads c path = (u : ℕ) → 1 ≤ u → u < threads → Contains path u ⊎ ((stride file c u).did ≡ did.Idle)

  -- A thread that could act where one of these steps is taken acts with one of them. So no lock passes over it for
  -- ever.
  abbrev pub IsFairByLocks : Configuration → List ℕ → Type 0
  IsFairByLocks c path = (before after : List ℕ) (v u : ℕ) →
      path ≡ before ++ v ∷ after →
      IsActing (stride file (end file c before) u).did →
      ActsAlong file c path u

module _ (kind : Kind) (file : File) (root : Configuration) where
  -- the call that is pending after a schedule
  abbrev pub pending_from : List ℕ → Option ℕ
  pending_from schedule = pending kind.thread (events_along file root schedule)

  abbrev pub IsBoundedFrom : ℕ → ℕ → Type 0
  IsBoundedFrom call most = (before path : List ℕ) →
      pending_from before ≡ Some call →
      AreWithin kind file (end file root before) path →
      own_strides kind file (end file root before) path ≤ most

  pub record GoesRoundFrom (call : ℕ) (way cycle : List ℕ) : Type 0 where
    pub in_call : pending_from way ≡ Some call
    pub within : (n : ℕ) → AreWithin kind file (end file root way) (rounds n cycle)
    pub many : (n : ℕ) → n ≤ own_strides kind file (end file root way) (rounds n cycle)

  -- so many threads go on in it
  pub record GoesRoundFairlyFrom (threads call : ℕ) (way cycle : List ℕ) : Type 0 where
    pub round : GoesRoundFrom call way cycle
    pub fair : IsFairBy file threads (end file root way) cycle

  pub record GoesRoundByLocksFrom (threads call : ℕ) (way cycle : List ℕ) : Type 0 where
    pub fairly : GoesRoundFairlyFrom threads call way cycle
    pub locks : IsFairByLocks file (end file root way) cycle
