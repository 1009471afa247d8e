-- Races of which it is known that they are some.
use Rattle.std.specs.Prelude.{Bool, List, [], ◌∷◌, Option, Some, None, if◌then◌else◌}
use Rattle.ls_races.specs.declared.finding.Race.{Race}
use Rattle.ls_races.specs.Volatile.{is_unsure}

-- the first race on a variable that isn't volatile in any class that its object may be of
abbrev pub first_sure : List (List Bool) → List Race → Option Race
first_sure classes [] = None
first_sure classes (r ∷ races) = if is_unsure classes r.on then first_sure classes races else Some r
