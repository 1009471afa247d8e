-- What files hold as one input.
use Rattle.std.specs.Prelude.{◌==◌, ◌-◌, Bool, true, List, [], ◌∷◌, ◌++◌, length, drop, slice_index_or}
use Rattle.std.specs.Prelude.{if◌then◌else◌}
use Rattle.ls_files.specs.Files.{Bytes, first_end}

-- nothing, or it ends with a line feed
abbrev pub is_ended : Bytes → Bool
is_ended input = if length input == 0 then true else slice_index_or input (length input - 1) 0 == 10

abbrev pub ended : Bytes → Bytes
ended input = if is_ended input then input else input ++ 10 ∷ []

-- with one file more: behind its last line, and behind a line that stands between two files
abbrev pub with_file : Bytes → Bytes → Bytes
with_file input file = (ended input ++ 37 ∷ 28 ∷ 10 ∷ []) ++ file

abbrev pub with_files : Bytes → List Bytes → Bytes
with_files input [] = input
with_files input (file ∷ files) = with_files (with_file input file) files

-- the files as one input; a single file is taken as it is, and so is the last
abbrev pub joined : List Bytes → Bytes
joined [] = []
joined (file ∷ files) = with_files file files

-- an input with another text in the place of its first part: that text, whose last line is ended, and the input from
-- the line on that ends its first part
abbrev pub with_first : Bytes → Bytes → Bytes
with_first text input = ended text ++ drop (first_end input) input
