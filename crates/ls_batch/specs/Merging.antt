-- The merge of the tallies of two lists of histories, one after the other, is the tally of both.
use Rattle.std.specs.Prelude.{◌≡◌, ◌+◌, ℕ, List, ◌++◌, length, map, slice_get, Some}
use Rattle.ls_checked.specs.CheckedProgram.{Program}
use Rattle.ls_report.specs.Printing.{run_text}
use Rattle.ls_batch.specs.Printing.{tally_text}
use Rattle.ls_batch.specs.Tallies as counted
use Rattle.ls_batch.specs.Tallies.{History, IsTally}
use Rattle.ls_tallies.specs.Printing.{rows_text}
use Rattle.ls_tallies.specs.Tallies.{IsMerge, Row, row}

-- the row with the history's text
abbrev pub text_row : Program → counted.Row → Row
text_row p r = row (run_text p r.history) r.count r.seed

-- what is printed of a tally is the text of these rows
abbrev pub TalliesAreRows : Type 0
TalliesAreRows = (p : Program) (rows : List counted.Row) → tally_text p rows ≡ rows_text (map (text_row p) rows)

-- histories with the same text are the same
abbrev pub AreToldApart : Program → List History → Type 0
AreToldApart p hs =
    (i j : ℕ) (g h : History) → slice_get hs i ≡ Some g → slice_get hs j ≡ Some h → run_text p g ≡ run_text p h → g ≡ h

-- The first histories are those of the seeds from `first` on, and the others those of the seeds after these.
abbrev pub TalliesMerge : Type 0
TalliesMerge =
    (p : Program) (hs ms : List History) (first : ℕ) (left right all : List counted.Row) → AreToldApart p (hs ++ ms)
    → IsTally hs first left → IsTally ms (first + length hs) right → IsTally (hs ++ ms) first all
    → IsMerge (map (text_row p) (left ++ right)) (map (text_row p) all)
