-- The text of rows, as `batch` prints it.
use Rattle.std.specs.Prelude.{List, [], ◌∷◌, ◌++◌, codes}
use Rattle.std.specs.Fmt.{decimal}
use Rattle.std.specs.List.{flat_map}
use Rattle.ls_report.specs.Events.{Text}
use Rattle.ls_tallies.specs.Tallies.{Row}

-- as `seed 7 count 3`, with its line feed
abbrev pub head_text : Row → Text
head_text r = codes "seed " ++ (decimal r.seed ++ (codes " count " ++ (decimal r.count ++ 10 ∷ [])))

-- the line with the least seed and the count, the history's lines, an empty line
abbrev pub row_text : Row → Text
row_text r = head_text r ++ (r.history ++ 10 ∷ [])

abbrev pub rows_text : List Row → Text
rows_text = flat_map row_text
