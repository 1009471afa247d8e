-- Where a byte of an input stands in the files that the input holds.
use Rattle.std.specs.Prelude.{◌+◌, ◌==◌, ◌||◌, ℕ, zero, suc, Bool, List, [], ◌∷◌, length, map, take, if◌then◌else◌}
use Rattle.std.specs.Str.{bytes_eq}
use Rattle.ls_items.specs.Parts.{is_mark, lines_of, part_of}
use Rattle.ls_files.specs.declared.lines.FileLine.{FileLine}

abbrev pub Bytes : Type 0
Bytes = List ℕ

abbrev pub is_feed : ℕ → Bool
is_feed byte = byte == 10

-- the line between two files: `%` and byte 28, the file separator of ASCII
abbrev pub ends_file : Bytes → Bool
ends_file line = bytes_eq line (37 ∷ 28 ∷ [])

-- the line between two parts, which is `%%` within a file
abbrev pub ends_part : Bytes → Bool
ends_part line = is_mark line || ends_file line

-- a line `%%` in the place of one between two files
abbrev pub unmarked_line : Bytes → Bytes
unmarked_line line = if ends_file line then 37 ∷ 37 ∷ [] else line

-- the files as one text, in which a part ends where a file does
abbrev pub unmarked : Bytes → Bytes
unmarked input = part_of (map unmarked_line (lines_of input))

-- the line that comes after one: files are numbered from 0, and the lines of a file from 1
abbrev pub next_line : FileLine → Bytes → FileLine
next_line here line =
    if ends_file line
    then record { file = here.file + 1; line = 1 }
    else record { file = here.file; line = here.line + 1 }

-- from the first of some lines to the last
abbrev pub last_line_from : FileLine → List Bytes → FileLine
last_line_from here [] = here
last_line_from here (line ∷ []) = here
last_line_from here (line ∷ next ∷ lines) = last_line_from (next_line here line) (next ∷ lines)

-- the file and the line of a byte
abbrev pub file_line : Bytes → ℕ → FileLine
file_line input at = last_line_from (record { file = 0; line = 1 }) (lines_of (take at input))

-- where a part begins that comes after so many ends of parts, in lines of which the first begins at a byte
abbrev pub start_in : ℕ → ℕ → List Bytes → ℕ
start_in zero at lines = at
start_in (suc number) at [] = at
start_in (suc number) at (line ∷ lines) =
    start_in (if ends_part line then number else suc number) (at + length line + 1) lines

-- the byte with which the part of a number begins, from 0
abbrev pub part_start : Bytes → ℕ → ℕ
part_start input number = start_in number 0 (lines_of input)

-- where the first line begins that ends a part, in lines of which the first begins at a byte
abbrev pub end_in : ℕ → List Bytes → ℕ
end_in at [] = at
end_in at (line ∷ lines) = if ends_part line then at else end_in (at + length line + 1) lines

-- the byte with which the line begins that ends the first part; where there is one part alone, it comes after the end
abbrev pub first_end : Bytes → ℕ
first_end input = end_in 0 (lines_of input)
