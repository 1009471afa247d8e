-- What is known of the lines of a text, one line after the other.
use Rattle.std.proofs.Common.{◌≡◌, ◌∙◌, ◌+◌, ◌==◌, ℕ, zero, suc, Bool, true, false, cond, List, [], ◌∷◌, ◌++◌, length}
use Rattle.std.proofs.Common.{map, ◌≤◌, arith}
use Rattle.std.proofs.Common.{refl, sym, ap}
use Rattle.ls_items.specs.Parts.{lines_of, onto_first, part_of}
use Rattle.ls_files.specs.Files.{Bytes, end_in, ends_file, ends_part, last_line_from, next_line, start_in, unmarked}
use Rattle.ls_files.specs.Files.{unmarked_line}
use Rattle.ls_files.specs.declared.lines.FileLine.{FileLine}

-- each text has a first line
pub has_line : (bs : Bytes) → (line : Bytes) × (lines : List Bytes) × (lines_of bs ≡ line ∷ lines)
has_line [] = ([], [], refl)
has_line (b ∷ bs) = go (b == 10) refl (has_line bs)
  where
    go : (t : Bool) →
        (b == 10) ≡ t →
        (line : Bytes) × (lines : List Bytes) × (lines_of bs ≡ line ∷ lines)
        → (line : Bytes) × (lines : List Bytes) × (lines_of (b ∷ bs) ≡ line ∷ lines)
    go true e h = ([], lines_of bs, ap (λ t. cond t ([] ∷ lines_of bs) (onto_first b (lines_of bs))) e)
    go false e h = (
      b ∷ h.0,
      h.1,
      ap (λ t. cond t ([] ∷ lines_of bs) (onto_first b (lines_of bs))) e ∙ ap (onto_first b) h.2,
    )

-- one line on
pub moves_on : (here : FileLine) (bs line after : Bytes) →
    lines_of bs ≡ line ∷ lines_of after →
    last_line_from here (lines_of bs) ≡ last_line_from (next_line here line) (lines_of after)
moves_on here bs line after e =
    let more = has_line after in
    ap (last_line_from here) e ∙ ap (λ ls. last_line_from here (line ∷ ls)) more.2
    ∙ ap (last_line_from (next_line here line)) (sym more.2)

-- at the last line
pub is_last : (here : FileLine) (bs : Bytes) → lines_of bs ≡ bs ∷ [] → last_line_from here (lines_of bs) ≡ here
is_last here bs e = ap (last_line_from here) e

-- the files as one text: its first line, and the others
pub unmarks_on : (bs line after : Bytes) →
    lines_of bs ≡ line ∷ lines_of after →
    unmarked bs ≡ unmarked_line line ++ 10 ∷ unmarked after
unmarks_on bs line after e =
    let more = has_line after in
    ap (λ ls. part_of (map unmarked_line ls)) e
    ∙ ap (λ ls. part_of (map unmarked_line (line ∷ ls))) more.2
    ∙ ap (λ ls. unmarked_line line ++ 10 ∷ part_of (map unmarked_line ls)) (sym more.2)

-- at a line that ends a part, and at another
pub part_ends : (number at : ℕ) (bs line after : Bytes) →
    lines_of bs ≡ line ∷ lines_of after →
    ends_part line ≡ true →
    start_in (suc number) at (lines_of bs) ≡ start_in number (at + length line + 1) (lines_of after)
part_ends number at bs line after e is =
    ap (start_in (suc number) at) e
    ∙ ap (λ b. start_in (cond b number (suc number)) (at + length line + 1) (lines_of after)) is

pub part_goes_on : (number at : ℕ) (bs line after : Bytes) →
    lines_of bs ≡ line ∷ lines_of after →
    ends_part line ≡ false →
    start_in (suc number) at (lines_of bs) ≡ start_in (suc number) (at + length line + 1) (lines_of after)
part_goes_on number at bs line after e is =
    ap (start_in (suc number) at) e
    ∙ ap (λ b. start_in (cond b number (suc number)) (at + length line + 1) (lines_of after)) is

-- after the last line
past_end : (number at : ℕ) → start_in number at [] ≡ at
past_end zero at = refl
past_end (suc number) at = refl

-- at the last line
pub part_after_end : (number at : ℕ) (bs : Bytes) →
    lines_of bs ≡ bs ∷ [] →
    start_in (suc number) at (lines_of bs) ≡ at + length bs + 1
part_after_end number at bs e =
    ap (start_in (suc number) at) e
    ∙ past_end (cond (ends_part bs) number (suc number)) (at + length bs + 1)

-- the numbers grow by one in all
pub next_room : (here : FileLine) (line : Bytes) →
    1 ≤ here.line →
    (1 ≤ (next_line here line).line) × ((next_line here line).file + (next_line here line).line ≤
    here.file + here.line + 1)
next_room here line first = go (ends_file line)
  where
    next : Bool → FileLine
    next t = cond t (record { file = here.file + 1; line = 1 }) (record { file = here.file; line = here.line + 1 })

    go : (t : Bool) → (1 ≤ (next t).line) × ((next t).file + (next t).line ≤ here.file + here.line + 1)
    go true = (omega arith, omega (arith, first))
    go false = (omega arith, omega arith)

-- the first line that ends a part: at such a line, and at another
pub end_here : (at : ℕ) (bs line : Bytes) (lines : List Bytes) →
    lines_of bs ≡ line ∷ lines →
    ends_part line ≡ true →
    end_in at (lines_of bs) ≡ at
end_here at bs line lines e is = ap (end_in at) e ∙ ap (λ b. cond b at (end_in (at + length line + 1) lines)) is

pub end_goes_on : (at : ℕ) (bs line : Bytes) (lines : List Bytes) →
    lines_of bs ≡ line ∷ lines →
    ends_part line ≡ false →
    end_in at (lines_of bs) ≡ end_in (at + length line + 1) lines
end_goes_on at bs line lines e is = ap (end_in at) e ∙ ap (λ b. cond b at (end_in (at + length line + 1) lines)) is
