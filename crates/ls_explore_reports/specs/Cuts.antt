-- Of the rows without a legal order, the shortest beginning of a schedule that has none.
use Rattle.std.specs.Prelude.{◌≡◌, ◌<◌, ◌++◌, ◌∷◌, [], ℕ, Bool, true, false, List, None, All, Contains, codes, length}
use Rattle.std.specs.Prelude.{map}
use Rattle.std.specs.Prelude.{take}
use Rattle.ls_checked.specs.CheckedTree.{File}
use Rattle.ls_checked.specs.CheckedProgram.{Program}
use Rattle.ls_meaning.specs.Runs.{source_history}
use Rattle.ls_report.specs.Events.{Text}
use Rattle.ls_report.specs.Printing.{run_text}
use Rattle.ls_labels.specs.Names.{Names}
use Rattle.ls_schedule.specs.Printing.{schedule_text}
use Rattle.ls_verdicts.specs.Cuts.{IsCut, IsLegalRun, history_to}
use Rattle.ls_verdicts.specs.declared.verdicts.Verdict.TheVariants as verdicts
use Rattle.ls_explore.specs.Rows.{ActAll}
use Rattle.ls_explore.specs.Tellings.{schedule_of}
use Rattle.ls_explore_reports.specs.Below.{IsBelow}
use Rattle.ls_explore_reports.specs.Judged.{IsJudged, Judged, count_illegal}
use Rattle.ls_explore_reports.specs.Printing.{last_text, row_text, rows_text, shown}
use Rattle.ls_explore_reports.specs.Shortest.{IsKnown, IsShorter}
use Rattle.ls_explore_reports.specs.declared.printing.Exploring.{Exploring}

-- The row's history is that of its schedule, each of whose steps acts, and its verdict is the one on that history.
pub record IsSo (file : File) (program : Program) (k : ℕ) (j : Judged) : Type 0 where
  pub history : j.row.history ≡ source_history file program (schedule_of k j.row)
  pub acts : ActAll file program (schedule_of k j.row)
  pub verdict : IsJudged program j

abbrev pub schedules_of : ℕ → List Judged → List (List ℕ)
schedules_of k judged = map (λ j. schedule_of k j.row) judged

-- if the row is illegal, the history after fewer than so many steps of its schedule has a legal order
abbrev pub IsNoShorter : File → Program → ℕ → ℕ → Judged → Type 0
IsNoShorter file program k n j =
    j.verdict ≡ verdicts.Illegal → (m : ℕ) → m < n →
    IsLegalRun program (history_to file program (schedule_of k j.row) m)

-- The row is illegal, and with so many steps of its schedule the history ceases to have a legal order. Of no illegal
-- row does it so with fewer.
pub record IsLeastCut (file : File) (program : Program) (k : ℕ) (judged : List Judged) (row : Judged) (steps : ℕ)
    : Type 0 where
  pub there : Contains judged row
  pub illegal : row.verdict ≡ verdicts.Illegal
  pub cut : IsCut file program (schedule_of k row.row) steps
  pub least : All (IsNoShorter file program k steps) judged

-- what is said, a schedule, a history's lines, what stands below it, an empty line
abbrev pub parts_text : Text → Text → Text → Text → Text
parts_text head steps lines below = head ++ (10 ∷ (steps ++ (lines ++ (below ++ 10 ∷ []))))

-- `goes on, illegal`, a schedule, and its history
abbrev pub beginning_text : Names → List Text → List ℕ → Text → Text
beginning_text names threads schedule below = parts_text (codes "goes on, illegal") (schedule_text threads schedule)
    (run_text names.program (source_history names.file names.program schedule)) below

-- what is said where no shorter schedule of the program has a history without a legal order
abbrev pub known_text : Bool → Text
known_text true = codes "no shorter schedule is illegal\n"
known_text false = []

-- the row, with what is said of its schedule below it
abbrev pub with_known : Bool → Judged → Judged
with_known known row = record row { below = row.below ++ known_text known }

-- So many steps of a row's schedule, after which a thread acts; or the row, if these are all. Or a schedule of fewer
-- steps, if no cells are asked for, with whose last event the history ceases to have a legal order, and after which a
-- thread acts. With orders, what
-- the command `order` tells of the history of these steps stands below it. Where it is said that no shorter schedule is
-- illegal, none is.
pub data IsCutText (names : Names) (threads : List Text) (k : ℕ) (e : Exploring) (row : Judged) (steps : ℕ)
    : Text → Type 0 where
  TheWhole : (known : Bool) →
      steps ≡ length (schedule_of k row.row) →
      IsKnown known names e (schedule_of k row.row) →
      IsCutText names threads k e row steps (row_text names threads k (with_known known row))
  ABeginning : (known : Bool) (below : Text) →
      steps < length (schedule_of k row.row) →
      (t : ℕ) × ActAll names.file names.program (take steps (schedule_of k row.row) ++ t ∷ []) →
      IsBelow e.order names.file names.program (history_to names.file names.program (schedule_of k row.row) steps)
      below →
      IsKnown known names e (take steps (schedule_of k row.row)) →
      IsCutText names threads k e row steps
      (beginning_text names threads (take steps (schedule_of k row.row)) (below ++ known_text known))
  AShorter : (known : Bool) (schedule : List ℕ) (below : Text) →
      e.cells ≡ None →
      IsShorter names steps schedule →
      IsBelow e.order names.file names.program (source_history names.file names.program schedule) below →
      IsKnown known names e schedule →
      IsCutText names threads k e row steps (beginning_text names threads schedule (below ++ known_text known))

-- what stands in place of the row that is cut first, with so many steps
pub record IsOfLeast (names : Names) (threads : List Text) (k : ℕ) (judged : List Judged) (e : Exploring) (steps : ℕ)
    (text : Text) : Type 0 where
  pub row : Judged
  pub least : IsLeastCut names.file names.program k judged row steps
  pub is : IsCutText names threads k e row steps text

-- With `--illegal` and `--first`, if a row is illegal, the least cut. Else the rows that are shown.
pub data IsPrinted (names : Names) (threads : List Text) (k : ℕ) (judged : List Judged) (e : Exploring)
    : Text → Type 0 where
  OfRows : (e.illegal ≡ true → e.first ≡ true → count_illegal judged ≡ 0) →
      IsPrinted names threads k judged e (rows_text names threads k (shown e judged))
  OfACut : (steps : ℕ) (text : Text) →
      e.illegal ≡ true →
      e.first ≡ true →
      IsOfLeast names threads k judged e steps text →
      IsPrinted names threads k judged e text

-- what is printed of the rows, and the last line
pub record IsExploredText (names : Names) (threads : List Text) (k : ℕ) (judged : List Judged) (states : ℕ)
    (complete roomy : Bool) (e : Exploring) (text : Text) : Type 0 where
  pub rows : Text
  pub printed : IsPrinted names threads k judged e rows
  pub is : text ≡ rows ++ last_text e.states states judged complete roomy
