-- Choices, one after another, by number.
use Rattle.std.specs.Prelude.{ℕ, zero, suc, ◌+◌, ◌-◌, ◌*◌, ◌/◌, ◌%◌, List, [], ◌∷◌, ◌++◌, fold}

-- So many choices out of so many, by their number: its last digits in that base, each counted from 1. So the last
-- choice changes first.
abbrev pub choices : ℕ → ℕ → ℕ → List ℕ
choices out_of zero number = []
choices out_of (suc count) number = choices out_of count (number / out_of) ++ (number % out_of + 1) ∷ []

-- the number with which one choice more is that of all, after choices of a number
abbrev pub with_choice : ℕ → ℕ → ℕ → ℕ
with_choice out_of number choice = number * out_of + (choice - 1)

-- the number that choices have
abbrev pub number_of : ℕ → List ℕ → ℕ
number_of out_of chosen = fold (with_choice out_of) 0 chosen
