-- What is said after the line of a fault.
use Rattle.std.specs.Prelude.{ℕ, nat_lt, ◌+◌, ◌-◌, ◌==◌, ◌&&◌, max, Bool, true, false, List, [], ◌∷◌, ◌++◌, length}
use Rattle.std.specs.Prelude.{take, replicate, slice_get, codes, if◌then◌else◌}
use Rattle.std.specs.Fmt.{decimal}
use Rattle.std.specs.List.{flat_map, list_any}
use Rattle.std.specs.Option.{option_map_or}
use Rattle.ls_lexer.specs.declared.token.Span.{Span}
use Rattle.ls_faults.specs.Faults.{lifted_compile}
use Rattle.ls_faults.specs.declared.fault.ToolFault.{ToolFault}
use Rattle.ls_faults.specs.declared.fault.ToolFault.TheVariants as faults
use Rattle.ls_explanations.specs.declared.place.Part.{Part}
use Rattle.ls_explanations.specs.declared.place.Part.TheVariants as parts
use Rattle.ls_explanations.specs.declared.place.PartSpan.{PartSpan}
use Rattle.ls_explanations.specs.Mismatches.{details}
use Rattle.ls_explanations.specs.Places.{place_of}
use Rattle.ls_explanations.specs.Sentences.{sentence}
use Rattle.ls_explanations.specs.Spots.{Bytes, before, begins_character, characters, from_on, line_number}

abbrev pub part_name : Part → Bytes
part_name parts.Classes = codes "class text"
part_name parts.Program = codes "program"
part_name parts.Schedule = codes "schedule"
part_name parts.History = codes "history"
part_name parts.Order = codes "order"
part_name parts.Tallies = codes "tallies"
part_name parts.Menu = codes "menu"
part_name parts.Reference = codes "reference"

-- The number of the part, from 0, in an input of `count` parts. A history is the third of three or more; an order is
-- the last, and so is a reference.
abbrev pub part_number : Part → ℕ → ℕ
part_number parts.Classes count = 0
part_number parts.Program count = 1
part_number parts.Schedule count = 2
part_number parts.History count = if nat_lt 2 count then 2 else 0
part_number parts.Order count = count - 1
part_number parts.Tallies count = 0
part_number parts.Menu count = 1
part_number parts.Reference count = count - 1

-- a space below each character, a tab below a tab
abbrev pub space_below : ℕ → Bytes
space_below byte = if begins_character byte then (if byte == 9 then 9 else 32) ∷ [] else []

-- a mark below each character of the place, as far as the place is in its line, and at least one mark
abbrev pub marks : Bytes → Span → Bytes
marks text span = replicate (max 1 (characters (take (span.end - span.start) (from_on text span.start)))) 94

-- `program, line 2, column 8:`
abbrev pub heading : Part → Bytes → ℕ → Bytes
heading part text at =
    part_name part ++ (codes ", line " ++ (decimal (line_number text at)
    ++ (codes ", column " ++ (decimal (1 + characters (before text at)) ++ codes ":\n"))))

-- the line of the place, and a mark under the place
abbrev pub shown : Bytes → Span → Bytes
shown text span =
    before text span.start ++
    (from_on text span.start ++
    (10 ∷ (flat_map space_below (before text span.start) ++ (marks text span ++ 10 ∷ []))))

abbrev pub explanation : PartSpan → Bytes → Bytes
explanation place text = heading place.part text place.span.start ++ shown text place.span

-- a part, or nothing if there is none
abbrev pub part_text : List Bytes → ℕ → Bytes
part_text texts number = option_map_or (λ t. t) (slice_get texts number) []

-- nothing if the part doesn't exist
abbrev pub in_part : List Bytes → PartSpan → Bytes
in_part texts place =
    if nat_lt (part_number place.part (length texts)) (length texts)
    then explanation place (part_text texts (part_number place.part (length texts)))
    else []

-- A carriage return is a part of its line in histories and where parts are cut. Elsewhere it is a gap or white space.
abbrev pub minds_returns : ToolFault → Bool
minds_returns faults.WrongParts = true
minds_returns (faults.History f) = true
minds_returns _ = false

abbrev pub has_return : Bytes → Bool
has_return text = list_any (λ b. b == 13) text

abbrev pub return_hint : Bytes
return_hint = codes "unexpected carriage return: a line ends with a line feed alone here\n"

abbrev pub hint : ToolFault → List Bytes → Bytes
hint f texts = if minds_returns f && list_any has_return texts then return_hint else []

-- what is said if the command reads another number of parts
abbrev pub counted : ToolFault → ℕ → Bytes
counted faults.WrongParts count = codes "parts of this input: " ++ (decimal count ++ codes "\n")
counted _ count = []

-- A fault of the reference is told as one of a class text: of the last part.
abbrev pub told : ToolFault → ToolFault
told (faults.Specification f) = lifted_compile f
told f = f

abbrev pub classes_of : ToolFault → List Bytes → Bytes
classes_of (faults.Specification f) texts = part_text texts (length texts - 1)
classes_of f texts = part_text texts 0

-- what is wrong, and what to write in its place
abbrev pub whole_sentence : ToolFault → List Bytes → Bytes
whole_sentence f texts =
    sentence (told f) (classes_of f texts) ++ details (told f) (classes_of f texts) (part_text texts 1)

-- What is said of a fault of these parts: where it is, if it has a place, and what is wrong there.
abbrev pub note : ToolFault → List Bytes → Bytes
note f texts =
    option_map_or (in_part texts) (place_of f) []
    ++ (whole_sentence f texts ++ (counted f (length texts) ++ hint f texts))
