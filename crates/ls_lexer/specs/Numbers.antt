-- Decimal numbers (JLS 3.10.1).
use Rattle.std.specs.Prelude.{ℕ, ◌+◌, ◌-◌, ◌*◌, ◌==◌, ◌&&◌, nat_le, Bool, false, List, [], ◌∷◌, length, if◌then◌else◌}
use Rattle.ls_lexer.specs.Characters.{is_digit, run}

-- the value of digits that come after a number
abbrev pub value_of : ℕ → List ℕ → ℕ
value_of so_far [] = so_far
value_of so_far (b ∷ bs) = value_of (10 * so_far + (b - 48)) bs

-- `0`, or a digit other than `0` and digits after it, with a value of at most 2147483648
abbrev pub is_number : List ℕ → Bool
is_number [] = false
is_number (b ∷ bs) =
    (if b == 48 then length bs == 0 else (run is_digit bs == length bs)) && nat_le (value_of 0 (b ∷ bs)) 2147483648
