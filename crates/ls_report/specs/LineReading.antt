-- How a line is taken apart. What is taken apart is the text of its parts. A number or a value is read if it is written
-- as it is printed.
use Rattle.std.specs.Prelude.{◌==◌, ◌&&◌, ◌++◌, ◌∷◌, [], Bool, true, length, not, Option, Some, None, option_map}
use Rattle.std.specs.Prelude.{option_and_then, if◌then◌else◌, codes}
use Rattle.std.specs.Str.{bytes_eq}
use Rattle.ls_report.specs.Cut.{cut}
use Rattle.ls_report.specs.Events.{Text}
use Rattle.ls_report.specs.declared.line_reading.Pieces.{Pieces}
use Rattle.ls_report.specs.declared.line_reading.Pieces.TheVariants as pieces

-- the texts of an occurrence
pub data Parts : Type 0 where
  Making : (object class arguments : Text) → Parts
  Calling : (object method arguments : Text) → Parts
  Returning : Parts
  Giving : (value : Text) → Parts
  Trapping : (kind : Text) → Parts

-- `object = new class`, by its four words
abbrev pub made_parts : Text → Text → Text → Text → Text → Option Parts
made_parts object equals new class arguments =
    if bytes_eq equals (codes "=") && bytes_eq new (codes "new") then Some (Making object class arguments) else None

abbrev pub making_parts : Text → Text → Option Parts
making_parts arguments head =
    option_and_then
    (λ p. option_and_then (λ q. option_and_then (λ r. made_parts p.0 q.0 r.0 r.1 arguments) (cut 32 q.1))
    (cut 32 p.1)) (cut 32 head)

abbrev pub head_parts : Text → Text → Option (Text × Text) → Option Parts
head_parts arguments head (Some p) = Some (Calling p.0 p.1 arguments)
head_parts arguments head None = making_parts arguments head

-- nothing comes after the arguments
abbrev pub closed_parts : Text → Text → Text → Option Parts
closed_parts head arguments after = if length after == 0 then head_parts arguments head (cut 46 head) else None

abbrev pub call_parts : Text → Option Parts
call_parts text =
    option_and_then (λ p. option_and_then (λ q. closed_parts p.0 q.0 q.1) (cut 41 p.1)) (cut 40 text)

abbrev pub word_parts : Text → Text → Option Parts
word_parts word rest =
    if bytes_eq word (codes "call") then call_parts rest
    else (if bytes_eq word (codes "return") then Some (Giving rest)
    else (if bytes_eq word (codes "trap") then Some (Trapping rest) else None))

abbrev pub parts_of : Text → Option Parts
parts_of text = if bytes_eq text (codes "return") then Some Returning
    else option_and_then (λ p. word_parts p.0 p.1) (cut 32 text)

abbrev pub plain_pieces : Pieces → Parts
plain_pieces (pieces.Making object class arguments) = Making object.now class.now arguments.now
plain_pieces (pieces.Calling object method arguments) = Calling object.now method.now arguments.now
plain_pieces pieces.Returning = Returning
plain_pieces (pieces.Giving value) = Giving value.now
plain_pieces (pieces.Trapping kind) = Trapping kind.now

-- the text of an occurrence with these parts
abbrev pub parts_text : Parts → Text
parts_text (Making object class arguments) =
    codes "call " ++ (object ++ (codes " = new " ++ (class ++ (40 ∷ (arguments ++ 41 ∷ [])))))
parts_text (Calling object method arguments) =
    codes "call " ++ (object ++ (46 ∷ (method ++ (40 ∷ (arguments ++ 41 ∷ [])))))
parts_text Returning = codes "return"
parts_text (Giving value) = codes "return " ++ value
parts_text (Trapping kind) = codes "trap " ++ kind

-- Of two bytes or more, the first is no zero and no plus. So digits are written as they are printed.
abbrev pub is_plain : Text → Bool
is_plain (b ∷ c ∷ bs) = not (b == 48) && not (b == 43)
is_plain other = true

-- the first byte, if there is one, is no zero
abbrev pub has_no_zero : Text → Bool
has_no_zero (b ∷ bs) = not (b == 48)
has_no_zero other = true

-- the same of an int, which may have a minus
abbrev pub is_plain_int : Text → Bool
is_plain_int (b ∷ bs) = if b == 45 then has_no_zero bs else is_plain (b ∷ bs)
is_plain_int other = true
