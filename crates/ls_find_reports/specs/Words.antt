-- The words of a line: what stands between spaces.
use Rattle.std.specs.Prelude.{ℕ, zero, suc, [], Option, Some, None}
use Rattle.ls_report.specs.Cut.{cut}
use Rattle.ls_report.specs.Events.{Text}

-- what stands after the first space, and what before it
abbrev pub after_cut : Option (Text × Text) → Text
after_cut None = []
after_cut (Some p) = p.1

abbrev pub before_cut : Text → Option (Text × Text) → Text
before_cut line None = line
before_cut line (Some p) = p.0

-- what stands after so many spaces
abbrev pub rest_at : ℕ → Text → Text
rest_at zero line = line
rest_at (suc k) line = rest_at k (after_cut (cut 32 line))

-- the word at a place, from 0
abbrev pub word_at : ℕ → Text → Text
word_at k line = before_cut (rest_at k line) (cut 32 (rest_at k line))
