-- States that were found.
use Rattle.std.specs.Prelude.{◌≡◌, ℕ, ◌⊎◌, ◌++◌, ◌∷◌, [], List, Some, slice_get}
use Rattle.ls_search.specs.declared.places.Node.{Node}
use Rattle.ls_search.specs.declared.places.NumberedState.{NumberedState}

-- one of them is this state
pub record HasPlace (nodes : List Node) (p : NumberedState) : Type 0 where
  pub at : ℕ
  pub node : Node
  pub here : slice_get nodes at ≡ Some node
  pub store : node.place.store ≡ p.store
  pub works : node.place.works.items ≡ p.works.items
  pub noted : node.place.noted ≡ p.noted

-- the same, or one more
abbrev pub Pushed : List Node → List Node → Node → Type 0
Pushed old new node = (new ≡ old) ⊎ (new ≡ old ++ node ∷ [])
