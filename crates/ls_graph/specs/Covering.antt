-- Runs, and walks that come near to where they lead.
use Rattle.std.specs.Prelude.{◌⊎◌, ◌<◌, ℕ}

module _ {S R : Type 0} (Rests : S → ℕ → Type 0) (Leads : S → ℕ → ℕ → S → Type 0) (Near : S → R → Type 0)
    (after : R → ℕ → R) where
  -- After an actor's step the node is near still, since the step was taken at once before, or since the actor rests
  -- at the node. Or each node that the actor leads to is near then.
  pub record Covers (actors : ℕ) : Type 0 where
    pub step : (s : S) (r : R) (u : ℕ) → Near s r →
        Near s (after r u)
        ⊎ ((u < actors) × (Rests s u → Near s (after r u))
        × ((m : ℕ) (s' : S) → Leads s u m s' → Near s' (after r u)))
