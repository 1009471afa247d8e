-- What a search says of the data races of the programs of a family.
use Rattle.std.specs.Prelude.{ℕ}
use Rattle.ls_family_search.specs.Judged.{Programs}
use Rattle.ls_family_search.specs.Searched.{IsFinding, PassedAreGood}
use Rattle.ls_family_search.specs.declared.searching.Finding.{Finding}
use Rattle.ls_find.specs.Found.{Text}
use Rattle.ls_find_races.specs.Raced.{IsNotSaid, IsRaceFree, IsRaceWhy}
use Rattle.ls_find_races.specs.declared.explorer.RaceWhy.{RaceWhy}

-- what a search of a class text's programs from one number to another says, where so many states of each may be kept
abbrev pub IsRaceFinding : ℕ → Text → Programs → ℕ → ℕ → Finding RaceWhy → Type 0
IsRaceFinding states classes p from to f =
    IsFinding p (IsRaceFree classes) (IsNotSaid states classes) (IsRaceWhy classes) from to f

-- Each program that it has passed from a number on has no race, if none up to that one is cut.
abbrev pub PassedAreFree : Text → Programs → ℕ → Finding RaceWhy → Type 0
PassedAreFree classes p from f = PassedAreGood p (IsRaceFree classes) from f
