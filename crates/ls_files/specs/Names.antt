-- The names of files among the words of a command line.
use Rattle.std.specs.Prelude.{ℕ, Bool, List, [], ◌∷◌, codes, Option, Some, None, String, string_bytes}
use Rattle.std.specs.Prelude.{if◌then◌else◌}
use Rattle.std.specs.Global.{Global}
use Rattle.std.specs.List.{before_first}
use Rattle.std.specs.Str.{bytes_eq}

abbrev pub Word : Type 0
Word = List ℕ

-- the word after which the names of files come
abbrev pub begins_names : Word → Bool
begins_names word = bytes_eq word (codes "--names")

-- the same of a word that is owned
abbrev pub is_names_word : String Global → Bool
is_names_word word = begins_names (string_bytes word)

-- the words that ask for something: those before it
abbrev pub asking : List Word → List Word
asking words = before_first begins_names words

-- the names of the files that an input holds: the words after it, if it is there
abbrev pub file_names_in : List Word → Option (List Word)
file_names_in [] = None
file_names_in (word ∷ words) = if begins_names word then Some words else file_names_in words
