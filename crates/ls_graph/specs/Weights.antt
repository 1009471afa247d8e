-- What is kept for nodes.
use Rattle.std.specs.Prelude.{◌+◌, ℕ, List, [], ◌∷◌}

-- what they weigh together
abbrev pub total : {N : Type 0} → (N → ℕ) → List N → ℕ
total weighs [] = 0
total weighs (n ∷ nodes) = weighs n + total weighs nodes
