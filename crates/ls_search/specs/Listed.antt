-- States with how each was found: by one step of a thread after an earlier one.
use Rattle.std.specs.Prelude.{◌≡◌, ◌⊎◌, ℕ, ◌+◌, ◌<◌, ◌≤◌, List, [], ◌∷◌, ◌++◌, Option, None, Some, length, slice_get}
use Rattle.std.specs.List.{fold}
use Rattle.ls_checked.specs.CheckedTree.{File}
use Rattle.ls_graph.specs.Weights.{total}
use Rattle.ls_meaning.specs.Still.{IsActing}
use Rattle.ls_search_laws.specs.Configuration.{stride}
use Rattle.ls_search_laws.specs.Noticing.{Noticed}
use Rattle.ls_transitions.specs.Tables.{Table}
use Rattle.ls_search.specs.declared.places.Looked.{Looked}
use Rattle.ls_search.specs.declared.places.Looked.TheVariants as looked
use Rattle.ls_search.specs.declared.places.Node.{Node}
use Rattle.ls_search.specs.Objects.{most_objects, weight_of}
use Rattle.ls_search.specs.Places.{IsThere, configuration_of}

-- ---- paths

-- a path and one more thread, or the empty path where there is none
abbrev pub longer : Option (List ℕ) → ℕ → List ℕ
longer None thread = []
longer (Some path) thread = path ++ thread ∷ []

-- these paths, and that of one state more: the path of the one that it was found after, and its thread
abbrev pub linked : List (List ℕ) → Node → List (List ℕ)
linked paths node = paths ++ longer (slice_get paths node.before) node.thread ∷ []

-- the paths to states, one after another
unfoldable pub paths_of : List Node → List (List ℕ)
paths_of nodes = fold linked [] nodes

-- no two of these paths are the same
abbrev pub StandOnce : List (List ℕ) → Type 0
StandOnce paths = (j k : ℕ) (path : List ℕ) → slice_get paths j ≡ Some path → slice_get paths k ≡ Some path → j ≡ k

-- a path that goes on from another by one thread: from one before the place i, or from that at i by a thread before t
pub record GoesOnFrom (paths : List (List ℕ)) (i t : ℕ) (path : List ℕ) : Type 0 where
  pub place : ℕ
  pub thread : ℕ
  pub before : List ℕ
  pub at : slice_get paths place ≡ Some before
  pub is : path ≡ before ++ thread ∷ []
  pub early : (place < i) ⊎ ((place ≡ i) × (thread < t))

-- No two of them are the same, and each but the empty one goes on from another so.
pub record AreDistinct (paths : List (List ℕ)) (i t : ℕ) : Type 0 where
  pub once : StandOnce paths
  pub made : (j : ℕ) (path : List ℕ) → slice_get paths j ≡ Some path → (path ≡ []) ⊎ GoesOnFrom paths i t path

-- ---- how a state was found

-- the same states, or one more, which was found by a step of this thread after the one at a place, and so many at once
abbrev pub FoundBy : List Node → List Node → ℕ → ℕ → ℕ → Type 0
FoundBy old new at thread most = (new ≡ old) ⊎ ((node : Node) × (new ≡ old ++ node ∷ []) × (node.before ≡ at)
    × (node.thread ≡ thread) × (1 ≤ node.steps) × (node.steps ≤ most + 1))

-- there is one more only where the thread acts
abbrev pub FoundAs : List Node → List Node → ℕ → ℕ → ℕ → Looked → Type 0
FoundAs old new at thread most looked.Idle = new ≡ old
FoundAs old new at thread most looked.Waits = new ≡ old
FoundAs old new at thread most looked.Acts = FoundBy old new at thread most

-- it was found by one step of its thread, which acts at an earlier one of these
pub record IsStepOf {S : Type 0} (file : File) (pairs : List (Noticed S)) (at : ℕ) (node : Node) : Type 0 where
  pub one : node.steps ≡ 1
  pub before : node.before < at
  pub earlier : Noticed S
  pub there : slice_get pairs node.before ≡ Some earlier
  pub acts : IsActing (stride file earlier.configuration node.thread).did

-- each of these states but the first was found so
abbrev pub AreSteps : {S : Type 0} → File → List (Noticed S) → List Node → Type 0
AreSteps file pairs nodes = (at : ℕ) (n : Node) → slice_get nodes at ≡ Some n → 0 < at → IsStepOf file pairs at n

-- ---- how many are kept

-- the numbers of each stand for something
abbrev pub AreAllThere : Table → List Node → Type 0
AreAllThere t nodes = (at : ℕ) (n : Node) → slice_get nodes at ≡ Some n → IsThere t n.place

-- how many objects they have together
abbrev pub objects_of : Table → List Node → ℕ
objects_of t nodes = total (λ (n : Node). weight_of (configuration_of t n.place)) nodes

-- there are as many as there may be, or they have too many objects together
abbrev pub AreFull : Table → ℕ → List Node → Type 0
AreFull t limit nodes = (limit ≤ length nodes) ⊎ (most_objects < objects_of t nodes)

-- the same where there are no more than there may be
abbrev pub AreCut : Table → ℕ → List Node → Type 0
AreCut t limit nodes = (length nodes ≡ limit) ⊎ (most_objects < objects_of t nodes)
