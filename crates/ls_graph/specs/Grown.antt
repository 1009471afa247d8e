-- Lists and tables that keep what they have.
use Rattle.std.specs.Prelude.{◌≡◌, ◌⊎◌, ◌<◌, ◌++◌, ◌∷◌, ℕ, List, [], Some, length, slice_get}

-- each item stays at its place
abbrev pub Keeps : {A : Type 0} → List A → List A → Type 0
Keeps {A} old new = (n : ℕ) (x : A) → slice_get old n ≡ Some x → slice_get new n ≡ Some x

-- the same, or one more
abbrev pub Pushed : {A : Type 0} → List A → List A → A → Type 0
Pushed old new x = (new ≡ old) ⊎ (new ≡ old ++ x ∷ [])

-- the place of an item: it is one of the old ones, or it is new and the last
abbrev pub Stands : {A : Type 0} → List A → List A → A → ℕ → Type 0
Stands old new x at = ((new ≡ old) × (at < length old)) ⊎ ((new ≡ old ++ x ∷ []) × (at ≡ length old))

-- what is known stays known, and stands for the same
abbrev pub Grows : {T N S : Type 0} → (T → N → Type 0) → (T → N → S) → T → T → Type 0
Grows {T} {N} IsKnown stands old new = (n : N) → IsKnown old n → IsKnown new n × (stands new n ≡ stands old n)

-- the one at a place stands for the same as this one
pub record IsNodeAt {T N S : Type 0} (stands : T → N → S) (nodes : List N) (node : N) (at : ℕ) : Type 0 where
  pub one : N
  pub here : slice_get nodes at ≡ Some one
  pub same : (t : T) → stands t one ≡ stands t node
