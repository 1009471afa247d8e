-- What JSON reads as a string.
use Rattle.std.specs.Prelude.{◌≡◌, ◌==◌, ◌+◌, ◌*◌, ◌-◌, ℕ, Bool, true, false, not, ◌&&◌, ◌||◌, nat_le, nat_lt, []}
use Rattle.std.specs.Prelude.{◌∷◌, ◌++◌, Option, Some, None, encode_utf8, if◌then◌else◌}
use Rattle.std.specs.Char.{digit_value, is_digit}
use Rattle.ls_page.specs.Quoted.{Text}

-- a byte that stands for itself: no control character, quote or backslash
abbrev pub is_plain : ℕ → Bool
is_plain byte = not (nat_lt byte 32 || (byte == 34 || byte == 92))

-- what a byte after a backslash stands for, if it stands for anything: `"`, `\` and `/` for themselves, and `b f n r
-- t`
abbrev pub letter_of : ℕ → Option ℕ
letter_of byte =
    if byte == 34 || (byte == 92 || byte == 47) then Some byte else (
    if byte == 98 then Some 8 else (
    if byte == 102 then Some 12 else (
    if byte == 110 then Some 10 else (
    if byte == 114 then Some 13 else (
    if byte == 116 then Some 9 else None)))))

-- the number of four hexadecimal digits
abbrev pub unit_of : ℕ → ℕ → ℕ → ℕ → Option ℕ
unit_of a b c d =
    if is_digit a 16 && (is_digit b 16 && (is_digit c 16 && is_digit d 16))
    then Some (digit_value a * 4096 + (digit_value b * 256 + (digit_value c * 16 + digit_value d)))
    else None

abbrev pub is_in : ℕ → ℕ → ℕ → Bool
is_in least past n = nat_le least n && nat_lt n past

-- what comes after the opening quote, the text as which it is read, and what comes after the closing quote
pub data Inside : Text → Text → Text → Type 0 where
  Closes : (rest : Text) → Inside (34 ∷ rest) [] rest
  Byte : (byte : ℕ) (written text rest : Text) → is_plain byte ≡ true → Inside written text rest →
      Inside (byte ∷ written) (byte ∷ text) rest
  Letter : (letter byte : ℕ) (written text rest : Text) → letter_of letter ≡ Some byte → Inside written text rest →
      Inside (92 ∷ letter ∷ written) (byte ∷ text) rest
  -- a character by its number
  Number : (a b c d n : ℕ) (written text rest : Text) → unit_of a b c d ≡ Some n → is_in 55296 57344 n ≡ false →
      Inside written text rest →
      Inside (92 ∷ 117 ∷ a ∷ b ∷ c ∷ d ∷ written) (encode_utf8 n ++ text) rest
  -- a character that takes two numbers
  Pair : (a b c d n e f g h m : ℕ) (written text rest : Text) → unit_of a b c d ≡ Some n → is_in 55296 56320 n ≡ true →
      unit_of e f g h ≡ Some m → is_in 56320 57344 m ≡ true → Inside written text rest →
      Inside (92 ∷ 117 ∷ a ∷ b ∷ c ∷ d ∷ 92 ∷ 117 ∷ e ∷ f ∷ g ∷ h ∷ written)
      (encode_utf8 (65536 + ((n - 55296) * 1024 + (m - 56320))) ++ text) rest

-- what is written begins with a string that is read as this text; the last text comes after that string
pub data Reads : Text → Text → Text → Type 0 where
  Opens : (written text rest : Text) → Inside written text rest → Reads (34 ∷ written) text rest
