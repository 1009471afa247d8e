-- Walks along edges, and what they cost.
use Rattle.std.specs.Prelude.{◌≡◌, ◌≤◌, ◌<◌, ◌+◌, ◌⊎◌, ℕ, Bool, true, List, [], ◌∷◌, Some, map}
use Rattle.std.specs.Prelude.{slice_get, slice_index_or}
use Rattle.ls_graph.specs.declared.closing.Edge.{Edge}
use Rattle.ls_graph.specs.declared.costs.Counted.{Counted}
use Rattle.ls_graph.specs.Costs.{cost, costs, kept_last}

abbrev pub actors_of : List Edge → List ℕ
actors_of path = map (λ e. e.actor) path

-- the edge is one of these
abbrev pub IsOne : List Edge → Edge → Type 0
IsOne edges e = (i : ℕ) × (slice_get edges i ≡ Some e)

-- these edges lead from the one node to the other, one after another
abbrev pub Walks : List Edge → ℕ → List Edge → ℕ → Type 0
Walks edges at [] to = at ≡ to
Walks edges at (e ∷ path) to = IsOne edges e × (e.from ≡ at) × Walks edges e.to path to

module _ (counted : Counted) where
  -- what it is told to cost to reach a node by a last step of this actor
  abbrev pub cost_at : List (List ℕ) → ℕ → ℕ → ℕ
  cost_at costs last at = slice_index_or (slice_index_or costs (kept_last counted last) []) at 4294967295

  -- what it costs to come to the edge and go along, after a step of this actor
  abbrev pub cost_along : List (List ℕ) → ℕ → Edge → ℕ
  cost_along costs before e = cost_at costs before e.from + cost counted before e.actor

  -- along the edge nothing is cheaper than it is told to be, or it costs so much at least
  pub record IsCost (costs : List (List ℕ)) (actors least : ℕ) (e : Edge) : Type 0 where
    pub actor : e.actor < actors
    pub no_cheaper : (before : ℕ) → before < actors →
        (cost_at costs e.actor e.to ≤ cost_along costs before e) ⊎ (least ≤ cost_along costs before e)

  abbrev pub AreCosts : List (List ℕ) → ℕ → ℕ → List Edge → Type 0
  AreCosts costs actors least edges = (i : ℕ) (e : Edge) → slice_get edges i ≡ Some e → IsCost costs actors least e

  -- it costs at least so much to reach a node that isn't marked
  abbrev pub CostAtLeast : List (List ℕ) → ℕ → ℕ → List Bool → ℕ → Type 0
  CostAtLeast costs actors count marks least =
      (at : ℕ) → at < count →
      (slice_get marks at ≡ Some true) ⊎ ((last : ℕ) → last < actors → least ≤ cost_at costs last at)

  -- each walk from the first node to one of the first so many that isn't marked costs so much at least
  abbrev pub IsLeast : List Edge → ℕ → List Bool → ℕ → Type 0
  IsLeast edges count marks least = (path : List Edge) (to : ℕ) → to < count → Walks edges 0 path to →
      (slice_get marks to ≡ Some true) ⊎ (least ≤ costs counted 0 (actors_of path))
