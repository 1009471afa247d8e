-- What a text says to a script.
use Rattle.std.specs.Prelude.{◌==◌, ◌&&◌, ◌||◌, ℕ, Bool, [], Option, Some, None, codes}
use Rattle.std.specs.Prelude.{if◌then◌else◌}
use Rattle.std.specs.List.{starts_with}
use Rattle.ls_family_search.specs.Judged.{Text}
use Rattle.ls_report.specs.Cut.{cut}

abbrev pub begins : Text → Text → Bool
begins text first = starts_with ◌==◌ text first

abbrev pub behind : Option (Text × Text) → Text
behind None = []
behind (Some p) = p.1

-- what stands behind the first line
abbrev pub behind_line : Text → Text
behind_line text = behind (cut 10 text)

-- it begins with a line on a menu that asks for no answer, on calls that run one at a time, or on a data race that
-- there is
abbrev pub warns : Text → Bool
warns text =
    begins text (codes "// no call of the menu ") ||
    (begins text (codes "// in ") || begins text (codes "// data race on "))

-- 3 if a program is found; if none is, 4 if some are cut, and else 5 if the third line warns; else 0
abbrev pub status_of : Text → ℕ
status_of text =
    if begins text (codes "// number ") then 3
    else (if begins text (codes "// none in what was explored") then 4
    else (if begins text (codes "// none\n") && warns (behind_line (behind_line text)) then 5 else 0))
