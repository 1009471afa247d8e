-- What is found of the data races of a program that is another with two threads exchanged.
use Rattle.std.specs.Prelude.{ℕ}
use Rattle.ls_find.specs.Doubles.{ExchangesAt}
use Rattle.ls_find.specs.Found.{Text}
use Rattle.ls_find_races.specs.Raced.{IsRaceFree}

-- If a program is another with two threads exchanged, its accesses never meet if those of that one never do.
abbrev pub RaceFreeFollows : Type 0
RaceFreeFollows =
    (classes program other : Text) (u : ℕ) → ExchangesAt u classes other program → IsRaceFree classes other →
    IsRaceFree classes program
