-- The states of a graph as JSON.
use Rattle.std.specs.Prelude.{ℕ, ◌+◌, Bool, not, List, [], ◌∷◌, ◌++◌, codes, slice_index_or}
use Rattle.std.specs.Prelude.{if◌then◌else◌}
use Rattle.std.specs.List.{list_all, list_any}
use Rattle.std.specs.Fmt.{decimal}
use Rattle.ls_report.specs.Events.{Text}
use Rattle.ls_labels.specs.Names.{Names}
use Rattle.ls_state.specs.State.{state_text}
use Rattle.ls_page.specs.Quoted.{quoted}
use Rattle.ls_choices.specs.Rows.{Graph, Row}
use Rattle.ls_page.specs.Lists.{listed, number_text, truth_text}

-- the states to which the steps lead
abbrev pub targets_text : List (List Row) → Text
targets_text all = listed (listed (λ row. number_text row.to)) all

-- no thread acts
abbrev pub is_end : List Row → Bool
is_end rows = list_all (λ row. not row.acts) rows

-- a thread waits
abbrev pub waits_in : List Row → Bool
waits_in rows = list_any (λ row. row.waits) rows

-- the numbers of the ends among some states; the first of the states has this number
abbrev pub ends_from : ℕ → List (List Row) → List ℕ
ends_from number [] = []
ends_from number (rows ∷ all) = if is_end rows then number ∷ ends_from (number + 1) all else ends_from (number + 1) all

-- an end: its number, what `state` prints of it, and whether a thread waits
abbrev pub told_text : ℕ → Text → Bool → Text
told_text number words waits =
    codes "[" ++ (decimal number ++ (codes "," ++ (quoted words ++ (codes "," ++ (truth_text waits ++ codes "]")))))

abbrev pub end_text : Names → Graph → ℕ → Text
end_text names g number = told_text number (state_text names (slice_index_or g.paths number []))
    (waits_in (slice_index_or g.rows number []))

-- all ends
abbrev pub ends_text : Names → Graph → Text
ends_text names g = listed (end_text names g) (ends_from 0 g.rows)
