-- The characters of names, numbers and gaps, as bytes.
use Rattle.std.specs.Prelude.{ℕ, ◌+◌, ◌==◌, ◌&&◌, ◌||◌, nat_le, Bool, List, [], ◌∷◌, if◌then◌else◌}

-- '0' to '9'
abbrev pub is_digit : ℕ → Bool
is_digit b = nat_le 48 b && nat_le b 57

-- a letter of ASCII, `_` or `$` (a Java letter, JLS 3.8)
abbrev pub is_letter : ℕ → Bool
is_letter b = (nat_le 65 b && nat_le b 90) || (nat_le 97 b && nat_le b 122) || b == 95 || b == 36

abbrev pub is_part : ℕ → Bool
is_part b = is_digit b || is_letter b

-- white space (JLS 3.6): space, tab, form feed, and the ends of lines CR and LF (JLS 3.4)
abbrev pub is_white : ℕ → Bool
is_white b = b == 32 || b == 9 || b == 12 || b == 13 || b == 10

abbrev pub is_line_end : ℕ → Bool
is_line_end b = b == 13 || b == 10

-- how many bytes at the front pass a test
abbrev pub run : (ℕ → Bool) → List ℕ → ℕ
run test [] = 0
run test (b ∷ bs) = if test b then run test bs + 1 else 0
