-- Paths to the nodes of a graph, each with one step more than that to an earlier one.
use Rattle.std.specs.Prelude.{◌≡◌, ◌<◌, ◌+◌, ◌++◌, ◌∷◌, ℕ, List, [], Some, length, slice_get}
use Rattle.ls_graph.specs.declared.closing.Edge.{Edge}

-- the path to a node: that to the one where the edge begins by which it was found, and then the edge's actor
pub record IsPathBy (edges : List Edge) (paths : List (List ℕ)) (place to : ℕ) : Type 0 where
  pub edge : Edge
  pub here : slice_get edges place ≡ Some edge
  pub to_is : edge.to ≡ to
  pub earlier : edge.from < to
  pub before : List ℕ
  pub before_is : slice_get paths edge.from ≡ Some before
  pub is : slice_get paths to ≡ Some (before ++ edge.actor ∷ [])

-- the first is this one
pub record ArePaths (edges : List Edge) (by : List ℕ) (first : List ℕ) (paths : List (List ℕ)) : Type 0 where
  pub many : length paths ≡ length by + 1
  pub begins : slice_get paths 0 ≡ Some first
  pub each : (i place : ℕ) → slice_get by i ≡ Some place → IsPathBy edges paths place (i + 1)
