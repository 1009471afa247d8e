-- The line of a text that has a given byte.
use Rattle.std.specs.Prelude.{ℕ, ◌+◌, ◌-◌, ◌==◌, Bool, true, List, length, take, drop, not, nat_lt, if◌then◌else◌}
use Rattle.std.specs.List.{before_first, count_by, suffix_len}

abbrev pub Bytes : Type 0
Bytes = List ℕ

abbrev pub is_feed : ℕ → Bool
is_feed byte = byte == 10

-- a byte of UTF-8 that isn't the first of its character is 128 to 191
abbrev pub begins_character : ℕ → Bool
begins_character byte = if nat_lt byte 128 then true else not (nat_lt byte 192)

abbrev pub characters : Bytes → ℕ
characters bytes = count_by begins_character bytes

-- the text after the last line feed
abbrev pub last_line : Bytes → Bytes
last_line bytes = drop (length bytes - suffix_len (λ b. not (is_feed b)) bytes) bytes

-- lines are numbered from 1
abbrev pub line_number : Bytes → ℕ → ℕ
line_number text at = 1 + count_by is_feed (take at text)

-- the text of a byte's line before the byte
abbrev pub before : Bytes → ℕ → Bytes
before text at = last_line (take at text)

-- the text from the byte on
abbrev pub from_on : Bytes → ℕ → Bytes
from_on text at = before_first is_feed (drop at text)
