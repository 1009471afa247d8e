-- Small histories, and which call is pending after them.
use Rattle.std.specs.Prelude.{◌≡◌, ℕ, List, [], ◌∷◌, None, Some}
use Rattle.ls_events.specs.declared.event.Event.{Event}
use Rattle.ls_events.specs.declared.event.Happening.TheVariants.{Called, Returned}
use Rattle.ls_progress_laws.specs.Progress.{pending, rounds}

abbrev pub calls : ℕ → ℕ → Event
calls t n = record { thread = t; call = n; happening = Called }

abbrev pub returns : ℕ → ℕ → Event
returns t n = record { thread = t; call = n; happening = Returned None }

-- thread 1 begins its first call, thread 2 does, and the first one returns and begins its second call
abbrev pub history : List Event
history = calls 1 1 ∷ calls 2 1 ∷ returns 1 1 ∷ calls 1 2 ∷ []

pub record PendingRows : Type 0 where
  pub none : pending 1 [] ≡ None
  pub begun : pending 1 (calls 1 1 ∷ []) ≡ Some 1
  pub other : pending 2 (calls 1 1 ∷ []) ≡ None
  pub ended : pending 1 (calls 1 1 ∷ calls 2 1 ∷ returns 1 1 ∷ []) ≡ None
  pub second : pending 1 history ≡ Some 2
  pub waits : pending 2 history ≡ Some 1
  pub twice : rounds 2 (1 ∷ 2 ∷ []) ≡ 1 ∷ 2 ∷ 1 ∷ 2 ∷ []
