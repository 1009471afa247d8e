-- What is said of a fault in files that are named: its file, line and column in front, as compilers do.
use Rattle.std.specs.Prelude.{ℕ, ◌+◌, ◌==◌, ◌||◌, min, Bool, List, [], ◌∷◌, ◌++◌, length, drop, Option, Some, None}
use Rattle.std.specs.Prelude.{slice_get, codes}
use Rattle.std.specs.Fmt.{decimal}
use Rattle.std.specs.List.{before_first}
use Rattle.std.specs.Option.{option_map, option_map_or}
use Rattle.std.specs.Str.Lossy.{utf8_valid_len}
use Rattle.ls_lexer.specs.declared.token.Span.{Span}
use Rattle.ls_faults.specs.Faults.{fault_line}
use Rattle.ls_faults.specs.declared.fault.ToolFault.{ToolFault}
use Rattle.ls_faults.specs.declared.fault.ToolFault.TheVariants as faults
use Rattle.ls_files.specs.Files.{file_line, part_start}
use Rattle.ls_explanations.specs.declared.place.Part.{Part}
use Rattle.ls_explanations.specs.declared.place.Part.TheVariants as parts
use Rattle.ls_explanations.specs.declared.place.PartSpan.{PartSpan}
use Rattle.ls_explanations.specs.Places.{place_of}
use Rattle.ls_explanations.specs.Spots.{Bytes, before, characters}
use Rattle.ls_explanations.specs.Explanations.{hint, part_number, shown, whole_sentence}

-- the part in which a fault is, also where it has no place in that part
abbrev pub part_of_fault : ToolFault → Option Part
part_of_fault (faults.Text f) = Some parts.Classes
part_of_fault (faults.Check f) = Some parts.Classes
part_of_fault (faults.Program f) = Some parts.Program
part_of_fault (faults.Schedule f) = Some parts.Schedule
part_of_fault (faults.Aim f) = Some parts.Schedule
part_of_fault (faults.History f) = Some parts.History
part_of_fault (faults.Order f) = Some parts.Order
part_of_fault (faults.BadEntry at) = Some parts.Menu
part_of_fault (faults.Specification f) = Some parts.Reference
part_of_fault (faults.LacksMethod span) = Some parts.Reference
part_of_fault (faults.UnlikeSpecification at) = Some parts.Program
part_of_fault _ = None

-- the byte of an input of `count` parts with which a part begins
abbrev pub start_of : Bytes → ℕ → Part → ℕ
start_of input count part = part_start input (part_number part count)

-- a byte of a part, in the whole input
abbrev pub in_input : Bytes → ℕ → Part → ℕ → ℕ
in_input input count part at = min (start_of input count part + at) (length input)

-- a place in the whole input
abbrev pub span_in_input : Bytes → ℕ → PartSpan → Span
span_in_input input count place = record {
  start = in_input input count place.part place.span.start;
  end = in_input input count place.part place.span.end;
}

-- the place of a fault in the whole input; what isn't UTF-8 is at the first byte after which it isn't
abbrev pub input_span : Bytes → ℕ → ToolFault → Option Span
input_span input count faults.NotText = Some (record { start = utf8_valid_len input; end = utf8_valid_len input })
input_span input count f = option_map (span_in_input input count) (place_of f)

abbrev pub file_name : List Bytes → ℕ → Bytes
file_name names number = option_map_or (λ name. name) (slice_get names number) (codes "<stdin>")

-- `Counter.java:3:9` of a byte of the input: lines and columns are counted from 1, and columns in characters
abbrev pub site_of : List Bytes → Bytes → ℕ → Bytes
site_of names input at =
    file_name names (file_line input at).file
    ++ (58 ∷ (decimal (file_line input at).line ++ (58 ∷ decimal (1 + characters (before input at)))))

-- of a fault without a place the name of the file in which its part begins, and else that of the program
abbrev pub part_site : List Bytes → Bytes → ℕ → ToolFault → Bytes
part_site names input count f =
    option_map_or (λ part. file_name names (file_line input (start_of input count part)).file) (part_of_fault f)
    (codes "listset")

abbrev pub site : List Bytes → Bytes → ℕ → ToolFault → Bytes
site names input count f =
    option_map_or (λ (span : Span). site_of names input span.start) (input_span input count f)
    (part_site names input count f)

-- a word ends before a space or a line feed
abbrev pub ends_word : ℕ → Bool
ends_word byte = byte == 32 || byte == 10

abbrev pub word : Bytes → Bytes
word bytes = before_first ends_word bytes

-- `13 WrongType` of the line `fault 13 WrongType at 4-9`
abbrev pub title : Bytes → Bytes
title line = word (drop 6 line) ++ (32 ∷ word (drop (7 + length (word (drop 6 line))) line))

-- what is wrong: `wanted` says which parts the command reads
abbrev pub named_sentence : Bytes → List Bytes → ToolFault → Bytes
named_sentence wanted texts faults.WrongParts =
    codes "expected " ++ (wanted ++ (codes ", found " ++ (decimal (length texts) ++ codes "\n")))
named_sentence wanted texts faults.NotText = codes "this byte isn't UTF-8\n"
named_sentence wanted texts f = whole_sentence f texts

-- a sentence has its line feed
abbrev pub said : Bytes → Bytes
said [] = codes "\n"
said (byte ∷ bytes) = codes ": " ++ (byte ∷ bytes)

-- the line of a place and a mark under the place, where the input is text
abbrev pub shown_in : Bytes → ℕ → ToolFault → Bytes
shown_in input count faults.NotText = []
shown_in input count f = option_map_or (shown input) (input_span input count f) []

-- `Counter.java:3:9: error 13 WrongType: ..`, the line, a mark under the place, and what more there is to say
abbrev pub named_note : List Bytes → Bytes → Bytes → List Bytes → ToolFault → Bytes
named_note names input wanted texts f =
    site names input (length texts) f
    ++ (codes ": error " ++ (title (fault_line f) ++ (said (named_sentence wanted texts f)
    ++ (shown_in input (length texts) f ++ hint f texts))))
