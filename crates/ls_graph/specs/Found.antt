-- By which edges nodes were found.
use Rattle.std.specs.Prelude.{◌≡◌, ◌⊎◌, ◌<◌, ◌+◌, ℕ, Bool, true, List, Some, length, slice_get}
use Rattle.ls_graph.specs.declared.closing.Edge.{Edge}
use Rattle.ls_graph.specs.declared.closing.Graph.{Graph}

-- the edge at a place leads to this node, from one that was found before it
pub record IsFoundBy (edges : List Edge) (to place : ℕ) : Type 0 where
  pub edge : Edge
  pub here : slice_get edges place ≡ Some edge
  pub to_is : edge.to ≡ to
  pub earlier : edge.from < to

-- of so many nodes each but the first was found so: that at place i + 1 by the edge whose place stands at i
pub record AreFound (edges : List Edge) (count : ℕ) (by : List ℕ) : Type 0 where
  pub many : length by + 1 ≡ count
  pub each : (i place : ℕ) → slice_get by i ≡ Some place → IsFoundBy edges (i + 1) place

-- no two edges lead from one node by one actor
abbrev pub AreOnce : List Edge → Type 0
AreOnce edges = (i j : ℕ) (e f : Edge) → slice_get edges i ≡ Some e → slice_get edges j ≡ Some f →
    e.from ≡ f.from → e.actor ≡ f.actor → i ≡ j

-- so it is of a graph
pub record IsGrown {N : Type 0} (g : Graph N) : Type 0 where
  pub found : AreFound g.edges.items (length g.found.nodes.items) g.by.items
  pub once : AreOnce g.edges.items

-- ---- where edges lead from

-- no edge leads from the node
abbrev pub HasNone : List Edge → ℕ → Type 0
HasNone edges at = (i : ℕ) (e : Edge) → slice_get edges i ≡ Some e → e.from ≡ at → ⊥

-- none does by this actor
abbrev pub HasNoneBy : List Edge → ℕ → ℕ → Type 0
HasNoneBy edges at actor = (i : ℕ) (e : Edge) → slice_get edges i ≡ Some e → e.from ≡ at → e.actor ≡ actor → ⊥

-- each edge is an old one, or leads from this node
abbrev pub LeavesMore : List Edge → List Edge → ℕ → Type 0
LeavesMore old new at = (i : ℕ) (e : Edge) → slice_get new i ≡ Some e → (slice_get old i ≡ Some e) ⊎ (e.from ≡ at)

-- each is an old one, or leads from this node by this actor
abbrev pub LeavesMoreBy : List Edge → List Edge → ℕ → ℕ → Type 0
LeavesMoreBy old new at actor = (i : ℕ) (e : Edge) → slice_get new i ≡ Some e →
    (slice_get old i ≡ Some e) ⊎ ((e.from ≡ at) × (e.actor ≡ actor))

-- each leads from a node that is marked
abbrev pub AreFromLooked : List Edge → List Bool → Type 0
AreFromLooked edges looked = (i : ℕ) (e : Edge) → slice_get edges i ≡ Some e → slice_get looked e.from ≡ Some true

-- an edge leads from the node
abbrev pub HasAny : List Edge → ℕ → Type 0
HasAny edges at = (i : ℕ) × (e : Edge) × (slice_get edges i ≡ Some e) × (e.from ≡ at)

-- so it is of each node that is marked
abbrev pub HaveAny : List Edge → List Bool → Type 0
HaveAny edges marks = (at : ℕ) → slice_get marks at ≡ Some true → HasAny edges at
