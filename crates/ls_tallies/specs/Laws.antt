-- Merging in parts.
use Rattle.std.specs.Prelude.{List, ◌++◌}
use Rattle.ls_tallies.specs.Tallies.{IsMerge, Row}

-- The merge of merges is the merge of all their rows: so tallies may be merged in parts, in any order, and a tally of
-- some
-- runs and one of others merge to the tally of all.
abbrev pub MergesMerge : Type 0
MergesMerge = (rows more left right all : List Row) → IsMerge rows left → IsMerge more right →
    IsMerge (left ++ right) all
    → IsMerge (rows ++ more) all
