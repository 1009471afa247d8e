-- The text around a place.
use Rattle.std.specs.Prelude.{ℕ, ◌-◌, ◌==◌, nat_lt, Bool, List, [], length, take, drop, not, slice_get, if◌then◌else◌}
use Rattle.std.specs.List.{before_first, suffix_len}
use Rattle.std.specs.Option.{option_map_or}
use Rattle.ls_lexer.specs.Characters.{is_part, is_white}
use Rattle.ls_lexer.specs.Lexemes.{Lexeme}
use Rattle.ls_lexer.specs.Places.{text_limit}
use Rattle.ls_lexer.specs.Tokens.{tokens_of}

abbrev pub Bytes : Type 0
Bytes = List ℕ

-- the tokens of a text that isn't too long, if it has tokens
abbrev pub lexemes_in : Bytes → List Lexeme
lexemes_in text = if nat_lt text_limit (length text) then [] else option_map_or (λ ks. ks) (tokens_of text) []

-- the name, word or number at the front; empty if none begins there
abbrev pub front_name : Bytes → Bytes
front_name text = before_first (λ b. not (is_part b)) text

-- a text without the white space at its end
abbrev pub trimmed : Bytes → Bytes
trimmed text = take (length text - suffix_len is_white text) text

-- the white space at its end
abbrev pub gap : Bytes → Bytes
gap text = drop (length text - suffix_len is_white text) text

-- the name, word or number at its end
abbrev pub last_name : Bytes → Bytes
last_name text = drop (length text - suffix_len is_part text) text

abbrev pub opens : ℕ → Bool
opens b = b == 40

-- the name of the method that a call begins with: the last one before its first parenthesis
abbrev pub called_name : Bytes → Bytes
called_name text = last_name (before_first opens text)

-- a byte of a text, or 0 if there is none
abbrev pub byte_at : Bytes → ℕ → ℕ
byte_at text at = option_map_or (λ b. b) (slice_get text at) 0

abbrev pub last_byte : Bytes → ℕ
last_byte text = byte_at text (length text - 1)
