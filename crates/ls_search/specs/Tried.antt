-- Schedules, one after another: each goes on from an earlier one.
use Rattle.std.specs.Prelude.{◌≡◌, ℕ, ◌+◌, ◌<◌, List, [], ◌++◌, Some, length, replicate, slice_get}

-- the place of the one that a schedule goes on from, the thread by which it does, and all its steps
pub record Tried : Type 0 where
  pub before : ℕ
  pub thread : ℕ
  pub path : List ℕ

-- the one at a place goes on from an earlier one, by steps of a thread that acts there
pub record GoesOn (acts : List ℕ → ℕ → Type 0) (tried : List Tried) (at : ℕ) (t : Tried) : Type 0 where
  pub earlier : Tried
  pub there : slice_get tried t.before ≡ Some earlier
  pub before : t.before < at
  pub acting : acts earlier.path t.thread
  pub more : ℕ
  pub is : t.path ≡ earlier.path ++ replicate (more + 1) t.thread

-- The first has no steps, and each other goes on from an earlier one. No two go on from the same one by the same
-- thread.
pub record AreTried (acts : List ℕ → ℕ → Type 0) (tried : List Tried) : Type 0 where
  pub first : (t : Tried) → slice_get tried 0 ≡ Some t → t.path ≡ []
  pub on : (at : ℕ) (t : Tried) → slice_get tried at ≡ Some t → 0 < at → GoesOn acts tried at t
  pub once : (j k : ℕ) (s t : Tried) → slice_get tried j ≡ Some s → slice_get tried k ≡ Some t → 0 < j → 0 < k →
      s.before ≡ t.before →
      s.thread ≡ t.thread →
      j ≡ k

-- there are so many of them
pub record HasTried (acts : List ℕ → ℕ → Type 0) (count : ℕ) : Type 0 where
  pub tried : List Tried
  pub many : length tried ≡ count
  pub are : AreTried acts tried
