-- Walks over a graph.
use Rattle.std.specs.Prelude.{ℕ, ◌+◌, List, [], ◌∷◌, ◌++◌, Option, Some, slice_get, option_map}
use Rattle.std.specs.Option.{option_and_then}
use Rattle.std.specs.Fmt.{decimal}
use Rattle.ls_report.specs.Events.{Text}
use Rattle.ls_choices.specs.Rows.{Graph, Row}

-- the row of a thread in a state, if there is one
abbrev pub row_at : Graph → ℕ → ℕ → Option Row
row_at g number thread = option_and_then (λ rows. slice_get rows thread) (slice_get g.rows number)

-- what is told along a walk from a state, if all its states are kept
abbrev pub words_along : Graph → ℕ → List ℕ → Option (List Text)
words_along g number [] = Some []
words_along g number (thread ∷ threads) =
    option_and_then (λ row. option_and_then (λ to. option_map (λ rest. row.words ∷ rest) (words_along g to threads))
    row.to) (row_at g number thread)

-- the number of the state to which a walk leads, if all its states are kept
abbrev pub end_along : Graph → ℕ → List ℕ → Option ℕ
end_along g number [] = Some number
end_along g number (thread ∷ threads) =
    option_and_then (λ row. option_and_then (λ to. end_along g to threads) row.to) (row_at g number thread)

-- lines of `trace`, the first of which has this number
abbrev pub numbered : ℕ → List Text → Text
numbered number [] = []
numbered number (words ∷ rest) = (decimal number ++ (32 ∷ (words ++ 10 ∷ []))) ++ numbered (number + 1) rest
