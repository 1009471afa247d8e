-- What the command `merge` says.
use Rattle.std.specs.Prelude.{◌≢◌, ◌<◌, ◌≤◌, ◌^◌, ℕ, List, MatchBool, Option, Some, None, Result, Ok, Err}
use Rattle.ls_report.specs.Events.{Text}
use Rattle.ls_tallies.specs.Printing.{rows_text}
use Rattle.ls_tallies.specs.Tallies.{IsMerge, Row, total_of}
use Rattle.ls_tallies.specs.Reading.{BreaksAt, Lists}
use Rattle.ls_tallies.specs.declared.fault.TallyFault.TheVariants as tally
use Rattle.ls_faults.specs.declared.fault.ToolFault.{ToolFault}
use Rattle.ls_faults.specs.declared.fault.ToolFault.TheVariants as faults
use Rattle.ls_commands.specs.MergedRanges.{is_of_ranges, MergesRangesTo}

-- a number is wanted, and it is another
abbrev pub IsOther : Option ℕ → ℕ → Type 0
IsOther None total = ⊥
IsOther (Some wanted) total = wanted ≢ total

-- The text of the merge of all rows of the text; or the text isn't that of tallies, or the counts have more than 64
-- bits or come to another number than is wanted.
pub data MergesTalliesTo (wanted : Option ℕ) (text : Text) : Result Text ToolFault → Type 0 where
  Merges : (rows merge : List Row) →
      Lists text rows →
      total_of rows < 2 ^ 64 →
      ¬ IsOther wanted (total_of rows) →
      IsMerge rows merge
      → MergesTalliesTo wanted text (Ok (rows_text merge))
  NoTally : (at : ℕ) → BreaksAt text at → MergesTalliesTo wanted text (Err (faults.Tally (tally.BadTally at)))
  TooGreat : (rows : List Row) →
      Lists text rows →
      2 ^ 64 ≤ total_of rows →
      MergesTalliesTo wanted text (Err (faults.Tally tally.CountTooGreat))
  Other : (rows : List Row) → Lists text rows → total_of rows < 2 ^ 64 → IsOther wanted (total_of rows)
      → MergesTalliesTo wanted text (Err (faults.Tally tally.OtherCount))

-- The merge of what `find` says of ranges, or of tallies.
abbrev pub MergesTo : Option ℕ → Text → Result Text ToolFault → Type 0
MergesTo wanted text answer =
    MatchBool (is_of_ranges text) (MergesRangesTo wanted text answer) (MergesTalliesTo wanted text answer)
