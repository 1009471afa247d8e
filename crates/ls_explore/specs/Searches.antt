-- How far a list of paths is closed.
pub use Rattle.ls_explore.specs.Paths.{paths_of}
use Rattle.std.specs.Prelude.{◌≡◌, ℕ, ◌<◌, ◌≤◌, ◌⊎◌, ◌||◌, true, false, List, [], ◌∷◌, ◌++◌, length, map, None, Some}
use Rattle.std.specs.Prelude.{slice_get, Contains}
use Rattle.ls_code.specs.Machine.{Machine, stops}
use Rattle.ls_code.specs.declared.step.Did.{Did}
use Rattle.ls_machine.specs.Saved.{Standing, standing}
use Rattle.ls_code.specs.declared.step.Did.TheVariants as did
use Rattle.ls_preservation.specs.Acting.{first_did}
use Rattle.ls_explore.specs.Bursts.{ActsAlong, burst}
use Rattle.ls_explore.specs.declared.searching.Seen.{Seen}
use Rattle.ls_explore.specs.Walks.{has_acted, led_to, walked}

-- where a thread acts after a path, the machine after that is one of those that the paths lead to
abbrev pub Leads : ℕ → Machine → List (List ℕ) → List ℕ → ℕ → Type 0
Leads n root paths path t = (m : Machine) → burst n (walked n root path) t ≡ Some m → Contains (led_to n root paths) m

-- So it is for the paths before the one at i with each of so many threads, and for that one with each thread before t.
pub record IsClosedTo (n threads : ℕ) (root : Machine) (paths : List (List ℕ)) (i t : ℕ) : Type 0 where
  pub before : (j u : ℕ) (path : List ℕ) →
      j < i →
      u < threads →
      slice_get paths j ≡ Some path →
      Leads n root paths path u
  pub here : (u : ℕ) (path : List ℕ) → u < t → slice_get paths i ≡ Some path → Leads n root paths path u

-- the same paths, or one more after them
abbrev pub Grows : List (List ℕ) → List (List ℕ) → Type 0
Grows old new = (new ≡ old) ⊎ ((path : List ℕ) × (new ≡ old ++ path ∷ []))

-- each of these paths has its threads act in turn
abbrev pub AllAct : ℕ → Machine → List (List ℕ) → Type 0
AllAct n root paths = (j : ℕ) (path : List ℕ) → slice_get paths j ≡ Some path →
    ActsAlong n root path (walked n root path)

-- what is seen with one more thread
abbrev pub seen_with : Seen → Did → Seen
seen_with seen d = record { acts = seen.acts || has_acted d; stops = seen.stops || stops d }

-- What is seen of so many threads: whether one of them acts, and whether one of them would stop the machine.
pub record IsSeen (n threads : ℕ) (m : Machine) (seen : Seen) : Type 0 where
  pub acting : seen.acts ≡ true → (t : ℕ) × (t < threads) × ((m' : Machine) × (burst n m t ≡ Some m'))
  pub quiet : seen.acts ≡ false → (t : ℕ) → t < threads → burst n m t ≡ None
  pub full : seen.stops ≡ true → (t : ℕ) × (t < threads) × (first_did n m t ≡ did.Stopped)
  pub roomy : seen.stops ≡ false → (t : ℕ) → t < threads → first_did n m t ≡ did.Stopped → ⊥

-- The empty path is the first; each path has its threads act in turn; and of the first of them it is known what was
-- seen.
pub record IsSound (n threads : ℕ) (root : Machine) (paths : List (List ℕ)) (seen : List Seen) : Type 0 where
  pub first : slice_get paths 0 ≡ Some []
  pub acts : AllAct n root paths
  pub few : length seen ≤ length paths
  pub known : (j : ℕ) (path : List ℕ) (s : Seen) →
      slice_get paths j ≡ Some path →
      slice_get seen j ≡ Some s →
      IsSeen n threads (walked n root path) s

-- what was saved at each of these paths is how the machine stands to which it leads
abbrev pub AreSaved : ℕ → Machine → List (List ℕ) → List Standing → Type 0
AreSaved n root paths saved = saved ≡ map (λ path. standing (walked n root path)) paths

-- no two of these paths are the same
abbrev pub StandOnce : List (List ℕ) → Type 0
StandOnce paths = (j k : ℕ) (path : List ℕ) → slice_get paths j ≡ Some path → slice_get paths k ≡ Some path → j ≡ k

-- a path that goes on from another by one thread: from one before the place i, or from that at i by a thread before t
pub record GoesOnFrom (paths : List (List ℕ)) (i t : ℕ) (path : List ℕ) : Type 0 where
  pub place : ℕ
  pub thread : ℕ
  pub before : List ℕ
  pub at : slice_get paths place ≡ Some before
  pub is : path ≡ before ++ thread ∷ []
  pub early : (place < i) ⊎ ((place ≡ i) × (thread < t))

-- No two of them are the same, and each but the empty one goes on from another so.
pub record AreDistinct (paths : List (List ℕ)) (i t : ℕ) : Type 0 where
  pub once : StandOnce paths
  pub made : (j : ℕ) (path : List ℕ) → slice_get paths j ≡ Some path → (path ≡ []) ⊎ GoesOnFrom paths i t path
