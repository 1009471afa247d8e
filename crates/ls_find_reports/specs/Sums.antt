-- What reports of ranges that follow one another say of all their numbers.
use Rattle.std.specs.Prelude.{◌≡◌, ◌≢◌, ◌+◌, ℕ, zero, suc, List, [], ◌∷◌, Option, Some, None, Result, Ok, Err}
use Rattle.std.specs.Prelude.{IsPermutation}
use Rattle.std.specs.List.Sorted.{IsNonDecreasingBy}
use Rattle.ls_find_reports.specs.declared.figures.Figures.{Figures}
use Rattle.ls_find_reports.specs.Reports.{BreaksAt, Found, Lists, Report, report_text}
use Rattle.ls_find_reports.specs.declared.fault.RangeFault.{RangeFault}
use Rattle.ls_find_reports.specs.declared.fault.RangeFault.TheVariants as faults
use Rattle.ls_report.specs.Events.{Text}

-- the first that is cut of two ranges: so many are cut in the first
abbrev pub first_of : ℕ → ℕ → ℕ → ℕ
first_of zero first next = next
first_of (suc cut) first next = first

-- of the numbers of both ranges, where none is found in the first
abbrev pub both : Figures → Figures → Figures
both f g = record {
  from = f.from;
  to = g.to;
  count = f.count;
  doubles = f.doubles + g.doubles;
  cut = f.cut + g.cut;
  first = first_of f.cut f.first g.first;
}

-- of a range with a program that is found, and of one after it: as many are passed
abbrev pub with_end : Figures → ℕ → Figures
with_end f to = record {
  from = f.from;
  to = to;
  count = f.count;
  doubles = f.doubles;
  cut = f.cut;
  first = f.first;
}

-- the report of two ranges, one after the other
abbrev pub joined_by : Option Found → Figures → Report → Report
joined_by None f r = record { figures = both f r.figures; found = r.found }
joined_by (Some p) f r = record { figures = with_end f r.figures.to; found = Some p }

abbrev pub joined : Report → Report → Report
joined r s = joined_by r.found r.figures s

-- and of more
abbrev pub sum_from : Report → List Report → Report
sum_from r [] = r
sum_from r (s ∷ more) = sum_from (joined r s) more

abbrev pub from_of : Report → ℕ
from_of r = r.figures.from

-- the second range follows the first, among as many numbers
pub record Follows (r s : Report) : Type 0 where
  pub next : s.figures.from ≡ r.figures.to + 1
  pub count : s.figures.count ≡ r.figures.count

-- each follows the one before it
abbrev pub FollowFrom : Report → List Report → Type 0
FollowFrom r [] = Unit {0}
FollowFrom r (s ∷ more) = Follows r s × FollowFrom s more

-- another number of numbers is wanted than the range has
abbrev pub IsOther : Option ℕ → Figures → Type 0
IsOther None f = ⊥
IsOther (Some wanted) f = wanted + f.from ≢ f.to + 1

-- the reports of the text, in the order of their first numbers
pub record AreIn (text : Text) (first : Report) (more : List Report) : Type 0 where
  pub read : List Report
  pub lists : Lists text read
  pub permutes : IsPermutation read (first ∷ more)
  pub rise : IsNonDecreasingBy from_of (first ∷ more)

-- The text of the report of all numbers. Or the text isn't of reports; or there is none, or a range doesn't follow the
-- one before it; or the range has another number of numbers than is wanted.
pub data AddsTo (wanted : Option ℕ) (text : Text) : Result Text RangeFault → Type 0 where
  OutOfMemory : AddsTo wanted text (Err faults.Memory)
  NoReport : (at : ℕ) → BreaksAt text at → AddsTo wanted text (Err (faults.BadReport at))
  Nothing : Lists text [] → AddsTo wanted text (Err faults.NotFollowing)
  Apart : (r : Report) (more : List Report) →
      AreIn text r more →
      ¬ FollowFrom r more →
      AddsTo wanted text (Err faults.NotFollowing)
  Other : (r : Report) (more : List Report) →
      AreIn text r more →
      FollowFrom r more →
      IsOther wanted (sum_from r more).figures →
      AddsTo wanted text (Err faults.OtherCount)
  Adds : (r : Report) (more : List Report) →
      AreIn text r more →
      FollowFrom r more →
      ¬ IsOther wanted (sum_from r more).figures →
      AddsTo wanted text (Ok (report_text (sum_from r more)))
