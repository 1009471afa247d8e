-- What `find` says of ranges of numbers, one text after another.
use Rattle.std.specs.Prelude.{◌≡◌, ◌+◌, ◌<◌, ◌≤◌, ◌^◌, ◌==◌, ◌++◌, ℕ, Bool, true, not, List, [], ◌∷◌, Option, Some}
use Rattle.std.specs.Prelude.{None, IfSome, length}
use Rattle.std.specs.Prelude.{codes, option_map}
use denote.Ref.{Bor}
use Rattle.std.specs.List.{list_all}
use Rattle.ls_find_reports.specs.Printing.{found_text, none_line, none_text, number_text}
use Rattle.ls_find_reports.specs.Programs.{are_lines}
use Rattle.ls_find_reports.specs.declared.figures.Figures.{Figures}
use Rattle.ls_find_reports.specs.declared.report.Found.{Found as CodeFound}
use Rattle.ls_find_reports.specs.declared.report.Report.{Report as CodeReport}
use Rattle.ls_find_reports.specs.declared.fault.RangeFault.{RangeFault}
use Rattle.ls_find_reports.specs.declared.fault.RangeFault.TheVariants as faults
use Rattle.ls_report.specs.Events.{Text}

-- a program that is found: its number, why, its text, below a line of a comment if there is one, and that of a schedule
pub record Found : Type 0 where
  pub number : ℕ
  pub reason : Text
  pub program : Text
  pub schedule : Text

-- what is counted of a range of numbers, and the program that is found
pub record Report : Type 0 where
  pub figures : Figures
  pub found : Option Found

abbrev pub text_with : Figures → Option Found → Text
text_with f None = none_text f
text_with f (Some p) = found_text f p.number p.reason p.program p.schedule

abbrev pub report_text : Report → Text
report_text r = text_with r.figures r.found

-- Its parts: the first line, the line of what is counted, and what stands behind these, with a text after it.
abbrev pub head_of : Figures → Option Found → Text
head_of f None = none_line f.cut
head_of f (Some p) = number_text p.number f.count ++ p.reason

abbrev pub tail_of : Option Found → Text → Text
tail_of None after = after
tail_of (Some p) after = p.program ++ (codes "%%\n" ++ (p.schedule ++ after))

-- no byte of the text is this one
abbrev pub lacks : ℕ → Text → Bool
lacks b = list_all (λ c. not (c == b))

-- A range of some numbers of all. The doubles and the cut ones are numbers of the range. If some are cut the first of
-- these is told, with room in the range for the others.
pub record AreFigures (f : Figures) : Type 0 where
  pub some : 0 < f.from
  pub order : f.from ≤ f.to
  pub last : f.to ≤ f.count
  pub count : f.count < 2 ^ 64
  pub passed : f.doubles + f.cut + f.from ≤ f.to + 1
  pub first : f.first < 2 ^ 64
  pub none : f.cut ≡ 0 → f.first ≡ 0
  pub begins : 0 < f.cut → f.from ≤ f.first
  pub ends : f.first + f.cut ≤ f.to + 1

-- A program that is found has a number of the range, and those that were passed stand before it.
pub record ComesAfter (f : Figures) (number : ℕ) : Type 0 where
  pub last : number ≤ f.to
  pub passed : f.doubles + f.cut + f.from ≤ number
  pub cut : f.first + f.cut ≤ number

-- one line, with its line feed
abbrev pub IsLine : Text → Type 0
IsLine text = (line : Text) × (text ≡ line ++ 10 ∷ []) × (lacks 10 line ≡ true)

-- The reason and the schedule are each one line, the reason without a line feed. The lines of the program are those of
-- a setup and of threads, below a line of a comment if there is one. No sign of these lines is a `%`.
pub record IsProgram (p : Found) : Type 0 where
  pub number : p.number < 2 ^ 64
  pub reason : lacks 10 p.reason ≡ true
  pub program : lacks 37 p.program ≡ true
  pub lines : are_lines p.program ≡ true
  pub schedule : IsLine p.schedule

pub record IsReport (r : Report) : Type 0 where
  pub figures : AreFigures r.figures
  pub found : IfSome r.found IsProgram
  pub number : IfSome r.found (λ p. ComesAfter r.figures p.number)

-- a line that is exactly `%%`
abbrev pub mark : Text
mark = 37 ∷ 37 ∷ 10 ∷ []

-- The text is that of these reports, one after another, and of lines `%%` in front of, between and after them.
pub data Lists : Text → List Report → Type 0 where
  Ends : Lists [] []
  Marked : (after : Text) (reports : List Report) → Lists after reports → Lists (mark ++ after) reports
  Entry : (r : Report) (after : Text) (reports : List Report) →
      IsReport r →
      Lists after reports →
      Lists (report_text r ++ after) (r ∷ reports)

-- The text begins with reports, and goes on at this place, where neither a report nor a line `%%` begins.
pub record BreaksAt (text : Text) (at : ℕ) : Type 0 where
  pub read : Text
  pub rest : Text
  pub reports : List Report
  pub lists : Lists read reports
  pub parts : text ≡ read ++ rest
  pub place : at ≡ length read
  pub goes_on : 0 < length rest
  pub no_mark : (after : Text) → rest ≡ mark ++ after → ⊥
  pub no_report : (r : Report) (after : Text) → IsReport r → rest ≡ report_text r ++ after → ⊥

abbrev pub Explains : Text → RangeFault → Type 0
Explains text faults.Memory = Unit {0}
Explains text (faults.BadReport at) = BreaksAt text at
Explains text faults.NotFollowing = ⊥
Explains text faults.OtherCount = ⊥

-- a report of these figures, whose first line and what stands behind its second are these; after it stands a text
pub record IsWith (f : Figures) (head tail : Text) (r : Report) (after : Text) : Type 0 where
  pub figures : r.figures ≡ f
  pub found : IfSome r.found IsProgram
  pub number : IfSome r.found (λ p. ComesAfter f p.number)
  pub line : head ≡ head_of f r.found
  pub behind : tail ≡ tail_of r.found after

-- ---- those of the code

abbrev pub plain_found : CodeFound → Found
plain_found p = record {
  number = p.number;
  reason = p.reason.now;
  program = p.program.now;
  schedule = p.schedule.now ++ 10 ∷ [];
}

abbrev pub plain_report : CodeReport → Report
plain_report r = record { figures = r.figures; found = option_map plain_found r.found }

-- with the text after it
abbrev pub plain_program : CodeFound × Bor (List ℕ) → Found × Text
plain_program p = (plain_found p.0, p.1.now)

abbrev pub plain_entry : CodeReport × Bor (List ℕ) → Report × Text
plain_entry p = (plain_report p.0, p.1.now)

-- a number and a reason; a program, a schedule and the text after it
abbrev pub plain_reason : ℕ × Bor (List ℕ) → ℕ × Text
plain_reason p = (p.0, p.1.now)

abbrev pub plain_body : Bor (List ℕ) × Bor (List ℕ) × Bor (List ℕ) → Text × Text × Text
plain_body p = (p.0.now, p.1.now, p.2.now)
