-- Texts as JSON strings that may be in a page. They contain no `<`, so they end no script and begin no comment.
use Rattle.std.specs.Prelude.{ℕ, ◌+◌, ◌-◌, ◌==◌, nat_lt, List, [], ◌∷◌, ◌++◌, chars, codes, flat_map, encode_utf8}
use Rattle.std.specs.Prelude.{if◌then◌else◌}

abbrev pub Text : Type 0
Text = List ℕ

-- a digit of base 16, in small letters
abbrev pub hex_digit : ℕ → ℕ
hex_digit n = if nat_lt n 10 then n + 48 else n + 87

-- a control character, as `\u001f`
abbrev pub control_text : ℕ → Text
control_text c =
    if nat_lt c 16
    then codes "\\u000" ++ hex_digit c ∷ []
    else codes "\\u001" ++ hex_digit (c - 16) ∷ []

-- a character of a text
abbrev pub escaped : ℕ → Text
escaped c =
    if c == 34 then codes "\\\"" else (
    if c == 92 then codes "\\\\" else (
    if c == 60 then codes "\\u003c" else (
    if c == 127 then codes "\\u007f" else (
    if nat_lt c 32 then control_text c else encode_utf8 c))))

abbrev pub quoted : Text → Text
quoted text = 34 ∷ (flat_map escaped (chars text) ++ 34 ∷ [])
