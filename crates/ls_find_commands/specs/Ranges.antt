-- What is said of two ranges of numbers, one after the other, adds up to what is said of both.
use Rattle.std.specs.Prelude.{◌≡◌, ◌+◌, ℕ, List, [], ◌++◌, Option, None, Some, Ok, length, string_bytes}
use Rattle.ls_family_search.specs.Judged.{Programs}
use Rattle.ls_family_search.specs.declared.judging.Halted.{Halted}
use Rattle.ls_family_search.specs.declared.judging.Passed.{Passed}
use Rattle.ls_family_search.specs.declared.searching.Finding.{Finding}
use Rattle.ls_find.specs.Family.{IsFound}
use Rattle.ls_find.specs.declared.explorer.Why.{Why}
use Rattle.ls_find.specs.declared.explorer.Why.TheVariants as whys
use Rattle.ls_find.specs.declared.sought.Sought.{Sought}
use Rattle.ls_find_reports.specs.Reports.{Found, Report, report_text}
use Rattle.ls_find_reports.specs.Sums.{joined}
use Rattle.ls_find_reports.specs.Printing.{figures_of}
use Rattle.ls_report.specs.Events.{Text}
use Rattle.ls_find_commands.specs.Found.{halted_answer}

-- the program of a number with which a search ends; nothing is told of one that doesn't compile
abbrev pub told : ℕ → Text → Why → Found
told number program (whys.Bad why note schedule) = record {
  number = number;
  reason = string_bytes why;
  program = string_bytes note ++ program;
  schedule = string_bytes schedule;
}
told number program (whys.NotCompiled fault) = record { number = number; reason = []; program = program; schedule = [] }
told number program (whys.NotSpecified fault) =
    record { number = number; reason = []; program = program; schedule = [] }

abbrev pub found_of : ℕ → Option (Halted Why) → Option Found
found_of number None = None
found_of number (Some h) = Some (told number (string_bytes h.program) h.halt)

-- what is said of a search of the numbers after so many, up to one, of so many in all
abbrev pub report_of : ℕ → ℕ → ℕ → Finding Why → Report
report_of before to count f = record {
  figures = figures_of before to count f.passed.items;
  found = found_of (before + length f.passed.items + 1) f.halted;
}

-- it ends with no program that doesn't compile
abbrev pub IsShown : Why → Type 0
IsShown (whys.Bad why note schedule) = Unit {0}
IsShown (whys.NotCompiled fault) = ⊥
IsShown (whys.NotSpecified fault) = ⊥

abbrev pub AreShown : Option (Halted Why) → Type 0
AreShown None = Unit {0}
AreShown (Some h) = IsShown h.halt

-- so the text of the report is what `find` prints
abbrev pub ReportsArePrinted : Type 0
ReportsArePrinted =
    (before to count : ℕ) (f : Finding Why) → AreShown f.halted →
    halted_answer before to count f.passed.items f.halted ≡ Ok (report_text (report_of before to count f))

-- two searches as one: it ends with the program of the first, if that ends with one
abbrev pub passed_by : Option (Halted Why) → List Passed → List Passed → List Passed
passed_by None ps qs = ps ++ qs
passed_by (Some h) ps qs = ps

abbrev pub halted_by : Option (Halted Why) → Option (Halted Why) → Option (Halted Why)
halted_by None other = other
halted_by (Some h) other = Some h

pub record AreOne (f g all : Finding Why) : Type 0 where
  pub passed : all.passed.items ≡ passed_by f.halted f.passed.items g.passed.items
  pub halted : all.halted ≡ halted_by f.halted g.halted

-- Of two ranges, one after the other, both searches together are one of all numbers, and the sum of their reports is
-- its report.
abbrev pub RangesAddUp : Type 0
RangesAddUp =
    (sought : Sought) (states : ℕ) (reference : Option Text) (classes : Text) (p : Programs) (from mid to count : ℕ)
    (f g all : Finding Why) →
    IsFound sought states reference classes p from mid f → IsFound sought states reference classes p mid to g →
    AreOne f g all →
    IsFound sought states reference classes p from to all ×
    (joined (report_of from mid count f) (report_of mid to count g) ≡ report_of from to count all)
