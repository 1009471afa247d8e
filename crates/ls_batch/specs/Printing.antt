-- The text of a tally.
use Rattle.std.specs.Prelude.{List, [], ◌∷◌, ◌++◌, codes}
use Rattle.std.specs.Fmt.{decimal}
use Rattle.std.specs.List.{flat_map}
use Rattle.ls_checked.specs.CheckedProgram.{Program}
use Rattle.ls_report.specs.Events.{Text}
use Rattle.ls_report.specs.Printing.{run_text}
use Rattle.ls_batch.specs.Tallies.{Row}

-- as `seed 7 count 3`, with its line feed
abbrev pub head_text : Row → Text
head_text r = codes "seed " ++ (decimal r.seed ++ (codes " count " ++ (decimal r.count ++ 10 ∷ [])))

-- the line with the least seed and the count, the history's lines, an empty line
abbrev pub entry_text : Program → Row → Text
entry_text p r = head_text r ++ (run_text p r.history ++ 10 ∷ [])

abbrev pub tally_text : Program → List Row → Text
tally_text p = flat_map (entry_text p)
