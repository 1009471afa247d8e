-- The line in front of a history.
use Rattle.std.specs.Prelude.{ℕ, ◌++◌, codes, Option, option_map, option_and_then}
use Rattle.std.specs.Fmt.{decimal}
use Rattle.ls_report.specs.Cut.{cut}
use Rattle.ls_report.specs.Events.{Text}

-- as `seed 7 count 3`, without its line feed
abbrev pub head_line : ℕ → ℕ → Text
head_line seed count = codes "seed " ++ (decimal seed ++ (codes " count " ++ decimal count))

-- what stands between the first two spaces, and what after the third
abbrev pub fields_of : Text → Option (Text × Text)
fields_of line =
    option_and_then (λ p. option_and_then (λ q. option_map (λ r. (q.0, r.1)) (cut 32 q.1)) (cut 32 p.1)) (cut 32 line)
