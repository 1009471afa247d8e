-- The topmost operands of a list that is too short, and a write into the front of a list.
use Rattle.std.proofs.Common.{◌≡◌, ℕ, ◌<◌, List, [], ◌∷◌, length, take, set, None, refl, arith}
use Rattle.std.proofs.Math.Seq.{take-set-lt}
use Rattle.ls_code.specs.Frame.{top_two, top_three}

pub two_short : (xs : List ℕ) → length xs < 2 → top_two xs ≡ None
two_short [] h = refl
two_short (b ∷ []) h = refl
two_short (b ∷ a ∷ rest) h = absurd (omega arith)

pub three_short : (xs : List ℕ) → length xs < 3 → top_three xs ≡ None
three_short [] h = refl
three_short (c ∷ []) h = refl
three_short (c ∷ b ∷ []) h = refl
three_short (c ∷ b ∷ a ∷ rest) h = absurd (omega arith)

pub take_set_below : (xs : List ℕ) (n i y : ℕ) → i < n → take n (set xs i y) ≡ set (take n xs) i y
take_set_below xs n i y h = take-set-lt n xs i y h
