-- States that do the same, as one.
use Rattle.std.specs.Prelude.{◌≡◌, ℕ, List, [], ◌∷◌, slice_get}
use Rattle.std.specs.declared.vec.Vec.{Vec}
use Rattle.std.specs.declared.alloc.Global.{Global}
use Rattle.ls_automaton.specs.declared.outcome.Outcome.{Outcome}
use Rattle.ls_automaton.specs.Held.{row_of}

-- the outcomes in the state of this number
abbrev pub row_in : List (Vec Outcome Global) → ℕ → List Outcome
row_in rows n = row_of (slice_get rows n)

-- the outcomes have the same end, and lead to states with the same outcomes
abbrev pub IsAlikeIn : List (Vec Outcome Global) → Outcome → Outcome → Type 0
IsAlikeIn rows o p = (o.end ≡ p.end) × (row_in rows o.after ≡ row_in rows p.after)

-- so it is one by one
abbrev pub AreAlikeIn : List (Vec Outcome Global) → List Outcome → List Outcome → Type 0
AreAlikeIn rows [] [] = Unit {0}
AreAlikeIn rows (o ∷ row) (p ∷ others) =
    IsAlikeIn rows o p × AreAlikeIn rows row others
AreAlikeIn rows [] (p ∷ others) = ⊥
AreAlikeIn rows (o ∷ row) [] = ⊥

-- so it is in each state, where some outcomes lead to others than before
abbrev pub AreMerged : List (Vec Outcome Global) → List (Vec Outcome Global) → Type 0
AreMerged rows merged = (n : ℕ) → AreAlikeIn merged (row_in rows n) (row_in merged n)
