-- What `merge` says of ranges of numbers.
use Rattle.std.specs.Prelude.{◌≡◌, ◌==◌, ℕ, Bool, codes, Option, Result, Ok, Err}
use Rattle.std.specs.List.{starts_with}
use Rattle.ls_faults.specs.declared.fault.ToolFault.{ToolFault}
use Rattle.ls_faults.specs.declared.fault.ToolFault.TheVariants as faults
use Rattle.ls_find_reports.specs.Sums.{AddsTo}
use Rattle.ls_find_reports.specs.declared.fault.RangeFault.{RangeFault}
use Rattle.ls_find_reports.specs.declared.fault.RangeFault.TheVariants as range
use Rattle.ls_report.specs.Events.{Text}
use Rattle.ls_tallies.specs.declared.fault.TallyFault.TheVariants as tally

-- whether a text is of what `find` says, and not of tallies
abbrev pub is_of_ranges : Text → Bool
is_of_ranges text = starts_with ◌==◌ text (codes "//")

abbrev pub lifted_range : RangeFault → ToolFault
lifted_range range.Memory = faults.Memory
lifted_range (range.BadReport at) = faults.Tally (tally.BadTally at)
lifted_range range.NotFollowing = faults.BadNumbers
lifted_range range.OtherCount = faults.Tally tally.OtherCount

abbrev pub lifted_sum : Result Text RangeFault → Result Text ToolFault
lifted_sum (Ok text) = Ok text
lifted_sum (Err f) = Err (lifted_range f)

-- what is said of all numbers of the ranges, or why nothing is
abbrev pub MergesRangesTo : Option ℕ → Text → Result Text ToolFault → Type 0
MergesRangesTo wanted text answer =
    (sum : Result Text RangeFault) × AddsTo wanted text sum × (answer ≡ lifted_sum sum)
