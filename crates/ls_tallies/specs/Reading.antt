-- Which texts are those of tallies, one after another.
use Rattle.std.specs.Prelude.{◌≡◌, ◌<◌, ◌^◌, ◌++◌, ℕ, List, [], ◌∷◌, length}
use Rattle.ls_report.specs.Events.{Event, Text}
use Rattle.ls_report.specs.Reading.{Says}
use Rattle.ls_tallies.specs.Printing.{row_text}
use Rattle.ls_tallies.specs.Tallies.{Row}
use Rattle.ls_tallies.specs.Plain.{plain_row}
use Rattle.ls_tallies.specs.declared.row.Row.{Row as CodeRow}
use Rattle.ls_tallies.specs.declared.fault.TallyFault.{TallyFault}
use Rattle.ls_tallies.specs.declared.fault.TallyFault.TheVariants as faults
use denote.Ref.{Bor}

-- the text is a history's lines
abbrev pub IsHistory : Text → Type 0
IsHistory text = (events : List Event) × Says text events

-- some seed gave the history, and the numbers have 64 bits
pub record IsRow (r : Row) : Type 0 where
  pub seed : r.seed < 2 ^ 64
  pub some : 0 < r.count
  pub count : r.count < 2 ^ 64
  pub history : IsHistory r.history

-- a line that is exactly `%%`
abbrev pub mark : Text
mark = 37 ∷ 37 ∷ 10 ∷ []

-- The text is that of these rows, one after another, and of lines `%%` in front of, between and after them. So it is of
-- tallies one after another, since each row by itself is a tally.
pub data Lists : Text → List Row → Type 0 where
  Ends : Lists [] []
  Marked : (after : Text) (rows : List Row) → Lists after rows → Lists (mark ++ after) rows
  Entry : (r : Row) (after : Text) (rows : List Row) →
      IsRow r →
      Lists after rows →
      Lists (row_text r ++ after) (r ∷ rows)

-- The text begins with tallies, and goes on at this place, where neither a row nor a line `%%` begins.
pub record BreaksAt (text : Text) (at : ℕ) : Type 0 where
  pub read : Text
  pub rest : Text
  pub rows : List Row
  pub lists : Lists read rows
  pub parts : text ≡ read ++ rest
  pub place : at ≡ length read
  pub goes_on : 0 < length rest
  pub no_mark : (after : Text) → rest ≡ mark ++ after → ⊥
  pub no_row : (r : Row) (after : Text) → IsRow r → rest ≡ row_text r ++ after → ⊥

abbrev pub Explains : Text → TallyFault → Type 0
Explains text faults.Memory = Unit {0}
Explains text (faults.BadTally at) = BreaksAt text at
Explains text faults.CountTooGreat = ⊥
Explains text faults.OtherCount = ⊥

-- a row and the text after it
abbrev pub plain_entry : CodeRow × Bor (List ℕ) → Row × Text
plain_entry p = (plain_row p.0, p.1.now)
