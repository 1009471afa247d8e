-- The draw that is even at each step.
use Rattle.std.specs.Prelude.{◌≡◌, ℕ, zero, suc, ◌+◌, ◌%◌, List, [], ◌∷◌}
use Rattle.rand_xoshiro.specs.SplitMix64.{mix_u64}
use Rattle.ls_batch.specs.Samples.{draws}

-- the next n entries of the generator at x: each of its words gives one of the threads 1, 2, .., as many as there are
unfoldable pub even_draws : ℕ → ℕ → ℕ → List ℕ
even_draws threads zero x = []
even_draws threads (suc n) x = (1 + (mix_u64 x).0 % threads) ∷ even_draws threads n (mix_u64 x).1

-- chance 1 in 1 is that draw, whichever thread went before
abbrev pub OneIsEven : Type 0
OneIsEven = (threads last n x : ℕ) → draws threads 1 last n x ≡ even_draws threads n x
