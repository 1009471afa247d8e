-- The machine words of values.
use Rattle.std.specs.Prelude.{ℕ, ◌<◌, ◌^◌}
use Rattle.ls_events.specs.declared.value.Value.{Value}
use Rattle.ls_events.specs.declared.value.Value.TheVariants.{Int, Boolean, Reference, Pair}
use Rattle.ls_events.specs.declared.value.ValueType.{ValueType}
use Rattle.ls_lowered.specs.Words as words

-- an int modulo 2^32, a boolean as 0 or 1, a reference as it is, and a pair as `2 * reference + mark`
abbrev pub value_word : Value → ℕ
value_word (Int z) = words.word_of z
value_word (Boolean b) = words.bool_word b
value_word (Reference n) = n
value_word (Pair n m) = words.pair_word n (words.bool_word m)

-- a reference that a word can hold with a mark
abbrev pub IsSmall : ℕ → ValueType → Type 0
IsSmall n t = n < 2 ^ 32
