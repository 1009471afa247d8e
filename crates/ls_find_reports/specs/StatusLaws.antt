-- The statuses of what is printed.
use Rattle.std.specs.Prelude.{◌≡◌, ◌<◌, ◌++◌, ℕ, if◌then◌else◌}
use Rattle.ls_family_search.specs.Judged.{Text}
use Rattle.ls_find_reports.specs.Printing.{found_text, none_text}
use Rattle.ls_find_reports.specs.Reports.{AreFigures}
use Rattle.ls_find_reports.specs.Statuses.{status_of, warns}
use Rattle.ls_find_reports.specs.declared.figures.Figures.{Figures}

abbrev pub FoundIsThree : Type 0
FoundIsThree =
    (f : Figures) (number : ℕ) (reason program schedule : Text) →
    status_of (found_text f number reason program schedule) ≡ 3

abbrev pub NoneIsFourIfCut : Type 0
NoneIsFourIfCut = (f : Figures) (below : Text) → 0 < f.cut → status_of (none_text f ++ below) ≡ 4

abbrev pub NoneBesideIsFive : Type 0
NoneBesideIsFive = (f : Figures) (below : Text) → AreFigures f → f.cut ≡ 0 →
    status_of (none_text f ++ below) ≡ (if warns below then 5 else 0)
