-- Samples of seeds. Each has been made by a generator that was written apart.
use Rattle.std.specs.Prelude.{◌≡◌, ℕ, List, [], ◌∷◌, ◌++◌, replicate}
use Rattle.ls_batch.specs.Samples.{sample_of}

-- the seed's sample of so many steps of so many threads, by chance 1 in `switch`, is this
abbrev pub Samples : ℕ → ℕ → ℕ → ℕ → List ℕ → Type 0
Samples seed threads steps switch sample = sample_of seed threads (record { steps = steps; switch = switch }) ≡ sample

-- by chance 1 in 1: each step's thread is drawn
abbrev pub EachDrawn : Type 0
EachDrawn =
    Samples 4 2 12 1 (1 ∷ 1 ∷ 2 ∷ 1 ∷ 2 ∷ 2 ∷ 1 ∷ 1 ∷ 2 ∷ 2 ∷ 1 ∷ 2 ∷ [])
    × Samples 4 3 12 1 (2 ∷ 2 ∷ 1 ∷ 1 ∷ 2 ∷ 2 ∷ 1 ∷ 3 ∷ 3 ∷ 2 ∷ 3 ∷ 1 ∷ [])

-- by chance 1 in 5, and in 20
abbrev pub FewDrawn : Type 0
FewDrawn =
    Samples 4 2 60 5 (replicate 30 2 ++ (replicate 2 1 ++ (replicate 13 2 ++ (replicate 4 1 ++ (2 ∷ replicate 10 1)))))
    × Samples 10 3 30 5 (replicate 7 1 ++ (2 ∷ (replicate 11 3 ++ (replicate 5 1 ++ replicate 6 2))))
    × Samples 4 2 60 20 (replicate 45 1 ++ replicate 15 2)

-- the greatest seed, and the rarest chance
abbrev pub AtTheEnds : Type 0
AtTheEnds = Samples 18446744073709551615 3 12 1 (3 ∷ 1 ∷ 2 ∷ 1 ∷ 1 ∷ 2 ∷ 2 ∷ 3 ∷ 1 ∷ 2 ∷ 2 ∷ 2 ∷ []) ×
    Samples 9 64 6 900000 (replicate 6 8)

-- one thread takes each step
abbrev pub OneThread : Type 0
OneThread = Samples 7 1 5 1 (replicate 5 1) × Samples 7 1 5 3 (replicate 5 1)

-- without threads there are no steps, and without steps none is drawn
abbrev pub NothingDrawn : Type 0
NothingDrawn = Samples 7 0 5 3 [] × Samples 7 2 0 3 []
