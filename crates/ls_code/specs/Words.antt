-- Machine words read as ints, booleans and pairs.
use Rattle.std.specs.Prelude.{ℕ, ◌+◌, ◌*◌, ◌%◌, ◌^◌, Bool, true, false, ◌==◌, ℤ}
use Rattle.std.specs.Int.{w32, cast_signed, cast_unsigned, int_wrapping_add, int_wrapping_sub, int_wrapping_mul}
use Rattle.std.specs.Int.{int_wrapping_neg, int_wrapping_div}
use Rattle.std.specs.Int.RustNames.{int_lt, int_le, int_rem}

-- the int of a word: its last 32 bits, signed
abbrev pub int_of : ℕ → ℤ
int_of word = cast_signed w32 (word % 2 ^ 32)

-- the word of an int: its value modulo 2^32
abbrev pub word_of : ℤ → ℕ
word_of z = cast_unsigned w32 z

-- the word of a boolean, and the boolean of a word
abbrev pub bool_word : Bool → ℕ
bool_word true = 1
bool_word false = 0

abbrev pub bool_of : ℕ → Bool
bool_of word = word == 1

abbrev pub sum_word : ℕ → ℕ → ℕ
sum_word a b = word_of (int_wrapping_add w32 (int_of a) (int_of b))

abbrev pub difference_word : ℕ → ℕ → ℕ
difference_word a b = word_of (int_wrapping_sub w32 (int_of a) (int_of b))

abbrev pub product_word : ℕ → ℕ → ℕ
product_word a b = word_of (int_wrapping_mul w32 (int_of a) (int_of b))

-- rounded toward zero; the least int by -1 is itself
abbrev pub quotient_word : ℕ → ℕ → ℕ
quotient_word a b = word_of (int_wrapping_div w32 (int_of a) (int_of b))

abbrev pub remainder_word : ℕ → ℕ → ℕ
remainder_word a b = word_of (int_rem (int_of a) (int_of b))

abbrev pub negative_word : ℕ → ℕ
negative_word a = word_of (int_wrapping_neg w32 (int_of a))

abbrev pub less_word : ℕ → ℕ → ℕ
less_word a b = bool_word (int_lt (int_of a) (int_of b))

abbrev pub at_most_word : ℕ → ℕ → ℕ
at_most_word a b = bool_word (int_le (int_of a) (int_of b))

abbrev pub same_word : ℕ → ℕ → ℕ
same_word a b = bool_word (a == b)

-- 1 for 0, and 0 for anything else
abbrev pub not_word : ℕ → ℕ
not_word a = bool_word (a == 0)

abbrev pub other_word : ℕ → ℕ → ℕ
other_word a b = not_word (same_word a b)

-- a markable's word
abbrev pub pair_word : ℕ → ℕ → ℕ
pair_word reference mark = (2 * reference + mark) % 2 ^ 64
