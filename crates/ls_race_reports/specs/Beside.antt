-- What is said of data races beside a verdict that nothing is wrong.
use Rattle.std.specs.Prelude.{Bool, true, false, ◌++◌, codes}
use Rattle.ls_report.specs.Events.{Text}

-- No race is found: so it is of all, or of what was explored. A `tryLock()` that fails sees its lock; the API promises
-- nothing of one.
abbrev pub free_line : Bool → Bool → Text
free_line false tries = codes "// no data race in what was explored\n"
free_line true true =
    codes "// no data race, if a tryLock() that fails sees what the owner of its lock did before it took the lock\n"
free_line true false = codes "// no data race: Java allows no other history\n"

-- there is one on this variable, in this program
abbrev pub raced_line : Text → Text → Text
raced_line on place =
    codes "// data race on " ++ (on ++ (place ++ codes ": Java allows more than is shown here\n"))
