-- The text of an exploration.
use Rattle.std.specs.Prelude.{ℕ, zero, suc, Bool, true, false, List, [], ◌∷◌, ◌++◌, codes, length, nat_lt, take}
use Rattle.std.specs.Prelude.{if◌then◌else◌}
use Rattle.std.specs.Fmt.{decimal}
use Rattle.std.specs.List.{filter, flat_map}
use Rattle.ls_report.specs.Events.{Text}
use Rattle.ls_report.specs.Printing.{run_text}
use Rattle.ls_labels.specs.Names.{Names}
use Rattle.ls_state.specs.Scene.{scene_of}
use Rattle.ls_schedule.specs.Printing.{schedule_text}
use Rattle.ls_explore.specs.declared.rows.Ending.{Ending}
use Rattle.ls_explore.specs.declared.rows.Ending.TheVariants as ending
use Rattle.ls_verdicts.specs.declared.verdicts.Verdict.{Verdict}
use Rattle.ls_verdicts.specs.declared.verdicts.Verdict.TheVariants as verdicts
use Rattle.ls_explore_reports.specs.declared.printing.Exploring.{Exploring}
use Rattle.ls_linearity.specs.declared.judging.Linearity.{Linearity}
use Rattle.ls_linearity.specs.declared.judging.Linearity.TheVariants as linearities
use Rattle.ls_explore_reports.specs.Judged.{Judged, are_decided, are_known, count_illegal, count_not_linearizable}
use Rattle.ls_explore_reports.specs.Judged.{is_not_linearizable}
use Rattle.ls_explore_reports.specs.Waiting.{waiting}
use Rattle.ls_explore.specs.Tellings.{schedule_of}

-- that all threads have ended or are trapped, or what those wait for that haven't
abbrev pub over_text : Text → Text
over_text [] = codes "ended"
over_text (c ∷ waiting) = c ∷ waiting

abbrev pub ending_text : Ending → Text → Text
ending_text ending.Over waiting = over_text waiting
ending_text ending.OutOfCells waiting = codes "out of cells"
ending_text ending.GoesOn waiting = codes "goes on"
ending_text ending.NotSeen waiting = codes "not seen"

abbrev pub linearity_part : Linearity → Text
linearity_part linearities.Linearizable = codes ", linearizable"
linearity_part linearities.NotLinearizable = codes ", not linearizable"
linearity_part linearities.LongCall = []
linearity_part linearities.ManyStates = []

-- the verdict on set calls
abbrev pub set_part : Verdict → Text
set_part verdicts.Legal = codes ", legal"
set_part verdicts.Illegal = codes ", illegal"
set_part verdicts.TooManyTrapped = codes ", not judged"
set_part verdicts.NotOneSet = []

-- of set calls it is said if they are not linearizable to their own serial runs
abbrev pub beside_part : Linearity → Text
beside_part linearities.Linearizable = []
beside_part linearities.NotLinearizable = codes ", not linearizable"
beside_part linearities.LongCall = []
beside_part linearities.ManyStates = []

-- of other calls it is said if they are linearizable
abbrev pub linear_part : Verdict → Linearity → Text
linear_part verdicts.NotOneSet l = linearity_part l
linear_part verdicts.Legal l = beside_part l
linear_part verdicts.Illegal l = beside_part l
linear_part verdicts.TooManyTrapped l = beside_part l

abbrev pub verdict_part : Verdict → Linearity → Text
verdict_part v l = set_part v ++ linear_part v l

-- how a row ends and the verdict, its schedule, its history's lines, what stands below it, an empty line
abbrev pub row_text : Names → List Text → ℕ → Judged → Text
row_text names threads k j =
    ending_text j.row.ending (waiting names (scene_of names (schedule_of k j.row)) 0 threads)
    ++ (verdict_part j.verdict j.linearity ++
    (10 ∷ (schedule_text threads (schedule_of k j.row) ++ (run_text names.program j.row.history ++
    (j.below ++ 10 ∷ [])))))

-- a set's history without a legal order, or one that is not linearizable
abbrev pub is_wrong : Verdict → Linearity → Bool
is_wrong verdicts.Illegal l = true
is_wrong verdicts.Legal l = is_not_linearizable l
is_wrong verdicts.TooManyTrapped l = is_not_linearizable l
is_wrong verdicts.NotOneSet l = is_not_linearizable l

-- with `--illegal` those rows alone
abbrev pub is_shown : Bool → Judged → Bool
is_shown true j = is_wrong j.verdict j.linearity
is_shown false j = true

-- with `--first` the first of them
abbrev pub first_of : Bool → List Judged → List Judged
first_of true judged = take 1 judged
first_of false judged = judged

abbrev pub shown : Exploring → List Judged → List Judged
shown e judged = first_of e.first (filter (λ j. is_shown e.illegal j) judged)

abbrev pub counts_text : ℕ → ℕ → Text
counts_text states histories = codes "states " ++ (decimal states ++ (codes " histories " ++ decimal histories))

-- how many are not linearizable, where that is known of each row
abbrev pub linear_text : Bool → ℕ → Text
linear_text true count = codes " not linearizable " ++ decimal count
linear_text false count = []

-- How many have no legal order. That none has is said only where each row's verdict says if there is one.
abbrev pub illegal_text : Bool → ℕ → Text
illegal_text decided (suc n) = codes " illegal " ++ decimal (suc n)
illegal_text true zero = codes " illegal 0"
illegal_text false zero = []

-- That not all states were kept. If as many were kept as may be, these were too many. If fewer were, they have too many
-- objects.
abbrev pub cut_text : ℕ → ℕ → Text
cut_text limit states = if nat_lt states limit then codes " cut: too many objects\n" else codes " cut\n"

-- whether the histories are complete, and whether a schedule runs out of cells
abbrev pub end_text : ℕ → ℕ → Bool → Bool → Text
end_text limit states true true = codes " complete\n"
end_text limit states true false = codes " complete in these cells\n"
end_text limit states false roomy = cut_text limit states

-- as `states 402 histories 6 illegal 0 not linearizable 0 complete`
abbrev pub last_text : ℕ → ℕ → List Judged → Bool → Bool → Text
last_text limit states judged complete roomy =
    counts_text states (length judged) ++ (illegal_text (are_decided judged) (count_illegal judged) ++
    (linear_text (are_known judged) (count_not_linearizable judged) ++ end_text limit states complete roomy))

abbrev pub rows_text : Names → List Text → ℕ → List Judged → Text
rows_text names threads k judged = flat_map (row_text names threads k) judged
