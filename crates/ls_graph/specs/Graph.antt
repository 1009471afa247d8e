-- What is known of a graph: what its nodes stand for, and where actors lead from those that were looked at.
use Rattle.std.specs.Prelude.{◌≡◌, ◌⊎◌, ◌<◌, ◌≤◌, ◌+◌, ◌++◌, ◌∷◌, ℕ, Bool, true, List, [], Some, length, map, slice_get}
use Rattle.ls_graph.specs.Grown.{Keeps}
use Rattle.ls_graph.specs.declared.closing.Edge.{Edge}
use Rattle.ls_graph.specs.declared.closing.Graph.{Graph}
use Rattle.ls_graph.specs.declared.nodes.Bounds.{Bounds}
use Rattle.ls_graph.specs.declared.nodes.Nodes.{Nodes}
use Rattle.ls_graph.specs.Weights.{total}

-- what the nodes stand for
abbrev pub states_in : {T N S : Type 0} → (T → N → S) → T → Graph N → List S
states_in stands t g = map (stands t) g.found.nodes.items

-- each is known
abbrev pub AreKnown : {T N : Type 0} → (T → N → Type 0) → T → List N → Type 0
AreKnown {T} {N} IsKnown t nodes = (at : ℕ) (n : N) → slice_get nodes at ≡ Some n → IsKnown t n

-- an edge of this actor leads from this node
pub record HasEdge (edges : List Edge) (at actor : ℕ) : Type 0 where
  pub place : ℕ
  pub edge : Edge
  pub here : slice_get edges place ≡ Some edge
  pub from_is : edge.from ≡ at
  pub actor_is : edge.actor ≡ actor

module _ {S : Type 0} (Leads : S → ℕ → ℕ → S → Type 0) where
  -- the edge's actor leads from the one node to the other
  pub record IsEdge (states : List S) (e : Edge) : Type 0 where
    pub one : S
    pub here : slice_get states e.from ≡ Some one
    pub other : S
    pub there : slice_get states e.to ≡ Some other
    pub leads : Leads one e.actor e.mark other

  abbrev pub AreEdges : List S → List Edge → Type 0
  AreEdges states edges = (i : ℕ) (e : Edge) → slice_get edges i ≡ Some e → IsEdge states e

-- what the nodes weigh together is no less than was counted
abbrev pub IsWeighed : {N : Type 0} → (N → ℕ) → Graph N → Type 0
IsWeighed weighs g = g.found.weight ≤ total weighs g.found.nodes.items

-- there are so many nodes, or they weigh more than so much
abbrev pub IsFull : {N : Type 0} → (N → ℕ) → Bounds → Graph N → Type 0
IsFull weighs bounds g =
    (bounds.limit ≤ length g.found.nodes.items) ⊎ (bounds.weight < total weighs g.found.nodes.items)

-- There are no more nodes than there may be. What is counted of their weight is no more than they may weigh and what
-- the last of them weighs.
pub record IsBounded {N : Type 0} (weighs : N → ℕ) (bounds : Bounds) (found : Nodes N) : Type 0 where
  pub few : length found.nodes.items ≤ bounds.limit
  pub light : (front : List N) (n : N) → found.nodes.items ≡ front ++ n ∷ [] → found.weight ≤ bounds.weight + weighs n

-- What was there stays: nodes are known and stand for what they stood for, and each edge leads as it tells.
pub record Goes {T N S : Type 0} (IsKnown : T → N → Type 0) (stands : T → N → S) (Leads : S → ℕ → ℕ → S → Type 0)
    (weighs : N → ℕ) (t : T) (g : Graph N) (t' : T) (g' : Graph N) : Type 0 where
  pub known : AreKnown IsKnown t' g'.found.nodes.items
  pub led : AreEdges Leads (states_in stands t' g') g'.edges.items
  pub states : Keeps (states_in stands t g) (states_in stands t' g')
  pub edges : Keeps g.edges.items g'.edges.items
  pub weighed : IsWeighed weighs g'

module _ {S : Type 0} (Rests : S → ℕ → Type 0) (Ends : S → Type 0) where
  -- the actor leads nowhere from there, or there is an edge
  abbrev pub IsTold : List Edge → ℕ → S → ℕ → Type 0
  IsTold edges at s actor = Rests s actor ⊎ HasEdge edges at actor

  -- the node is no end, and so it is of the first so many actors there
  pub record IsLooked (edges : List Edge) (actors at : ℕ) (s : S) : Type 0 where
    pub no_end : Ends s → ⊥
    pub told : (u : ℕ) → u < actors → IsTold edges at s u

  -- so it is at each that is marked
  abbrev pub AreLooked : List S → List Edge → ℕ → List Bool → Type 0
  AreLooked states edges actors looked =
      (at : ℕ) → slice_get looked at ≡ Some true →
      (at < length states) × ((s : S) → slice_get states at ≡ Some s → IsLooked edges actors at s)

-- What is told of a graph, whose nodes stand for these. All begins with the first.
pub record IsGraph {S : Type 0} (Rests : S → ℕ → Type 0) (Leads : S → ℕ → ℕ → S → Type 0) (Ends : S → Type 0)
    (actors : ℕ) (root : S) (states : List S) (edges : List Edge) (looked : List Bool) : Type 0 where
  pub begins : slice_get states 0 ≡ Some root
  pub led : AreEdges Leads states edges
  pub told : AreLooked Rests Ends states edges actors looked

-- the first so many nodes were looked at
abbrev pub IsWhole : ℕ → List Bool → Type 0
IsWhole count looked = (at : ℕ) → at < count → slice_get looked at ≡ Some true
