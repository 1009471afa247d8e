-- Rows with a verdict on each.
use Rattle.std.specs.Prelude.{◌≡◌, ◌⊎◌, ℕ, Bool, true, false, List, All, length, map}
use Rattle.std.specs.List.{filter, list_all}
use Rattle.ls_checked.specs.CheckedTree.{File}
use Rattle.ls_checked.specs.CheckedProgram.{Program}
use Rattle.ls_events.specs.declared.event.Event.{Event}
use Rattle.ls_explore.specs.Rows.{Told}
use Rattle.ls_explore_reports.specs.Below.{HasNames, IsBelow}
use Rattle.ls_report.specs.Events.{Text}
use Rattle.ls_linearity.specs.Meant.{IsMeant}
use Rattle.ls_linearizable.specs.Linearizable.{IsLinearizable}
use Rattle.ls_linearizable.specs.Once.{AreOnce}
use Rattle.ls_explore_reports.specs.Rows.{RowsExplain}
use Rattle.ls_linearity.specs.declared.judging.Linearity.{Linearity}
use Rattle.ls_linearity.specs.declared.judging.Linearity.TheVariants as linearities
use Rattle.ls_verdicts.specs.Verdicts.{IsHistoryOf, IsVerdict}
use Rattle.ls_verdicts.specs.declared.verdicts.Verdict.{Verdict}
use Rattle.ls_verdicts.specs.declared.verdicts.Verdict.TheVariants as verdicts

pub record Judged : Type 0 where
  pub row : Told
  pub verdict : Verdict
  pub linearity : Linearity
  -- what stands below the row
  pub below : Text

abbrev pub rows_of : List Judged → List Told
rows_of judged = map (λ j. j.row) judged

-- the events of each row's history have names, and are a history with these
abbrev pub AreHistories : Program → List Told → Type 0
AreHistories p rows = All (λ (r : Told). IsHistoryOf p r.history) rows

-- the verdict is one on the row's history
abbrev pub IsJudged : Program → Judged → Type 0
IsJudged p j = IsVerdict p j.row.history j.verdict

-- What is said is so. Or it isn't known by the program's calls alone: then a history is linearizable if one of the rows
-- begins with a serial history that explains it. If none does, it is not linearizable where the rows tell of every
-- schedule. Where they don't, it stays unknown, with the reason that is said.
abbrev pub IsLinearity : File → Program → Bool → List Told → List Event → Linearity → Type 0
IsLinearity file program whole rows h linearities.Linearizable = RowsExplain rows h ⊎ IsLinearizable file program h
IsLinearity file program whole rows h linearities.NotLinearizable =
    (¬ IsLinearizable file program h) ⊎ (¬ RowsExplain rows h × (whole ≡ true))
IsLinearity file program whole rows h linearities.LongCall =
    ¬ RowsExplain rows h × (whole ≡ false) × IsMeant file program h linearities.LongCall
IsLinearity file program whole rows h linearities.ManyStates =
    ¬ RowsExplain rows h × (whole ≡ false) × IsMeant file program h linearities.ManyStates

-- it is said so of the row's history
abbrev pub IsToldLinear : File → Program → Bool → List Told → Judged → Type 0
IsToldLinear file program whole rows j = IsLinearity file program whole rows j.row.history j.linearity

-- with orders it is what the command `order` tells of the row's history
abbrev pub IsToldBelow : Bool → File → Program → Judged → Type 0
IsToldBelow orders file program j = IsBelow orders file program j.row.history j.below

-- the same by a specification, if the events of the history are calls of its program
abbrev pub IsToldBelowLike : Bool → File → Program → Judged → Type 0
IsToldBelowLike orders file program j = HasNames program j.row.history → IsToldBelow orders file program j

-- nothing is said of the row's history as one of a set
abbrev pub SaysNoSet : Judged → Type 0
SaysNoSet j = j.verdict ≡ verdicts.NotOneSet

abbrev pub AreMeant : File → Program → List Judged → Type 0
AreMeant file program judged = All (λ (j : Judged). IsMeant file program j.row.history j.linearity) judged

-- no event stands twice in a row's history
abbrev pub AreEachOnce : List Told → Type 0
AreEachOnce rows = All (λ (r : Told). AreOnce r.history) rows

abbrev pub is_not_linearizable : Linearity → Bool
is_not_linearizable linearities.NotLinearizable = true
is_not_linearizable linearities.Linearizable = false
is_not_linearizable linearities.LongCall = false
is_not_linearizable linearities.ManyStates = false

-- whether it says if it is linearizable
abbrev pub is_known : Linearity → Bool
is_known linearities.Linearizable = true
is_known linearities.NotLinearizable = true
is_known linearities.LongCall = false
is_known linearities.ManyStates = false

abbrev pub are_known : List Judged → Bool
are_known judged = list_all (λ j. is_known j.linearity) judged

abbrev pub count_not_linearizable : List Judged → ℕ
count_not_linearizable judged = length (filter (λ j. is_not_linearizable j.linearity) judged)

abbrev pub is_illegal : Verdict → Bool
is_illegal verdicts.Illegal = true
is_illegal verdicts.Legal = false
is_illegal verdicts.NotOneSet = false
is_illegal verdicts.TooManyTrapped = false

-- whether it says if there is a legal order
abbrev pub is_decided : Verdict → Bool
is_decided verdicts.Legal = true
is_decided verdicts.Illegal = true
is_decided verdicts.NotOneSet = false
is_decided verdicts.TooManyTrapped = false

abbrev pub are_decided : List Judged → Bool
are_decided judged = list_all (λ j. is_decided j.verdict) judged

abbrev pub count_illegal : List Judged → ℕ
count_illegal judged = length (filter (λ j. is_illegal j.verdict) judged)
