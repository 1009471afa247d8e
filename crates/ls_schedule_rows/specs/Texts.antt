-- Texts that say steps of the threads setup, A and B.
use Rattle.std.specs.Prelude.{◌≡◌, [], ◌∷◌, ◌++◌, codes, Ok}
use Rattle.ls_schedule.specs.Reading.{schedule_of}
use Rattle.ls_schedule_rows.specs.Said.{Says}

abbrev pub OneStepEach : Type 0
OneStepEach = Says (codes "A B B A") (1 ∷ 2 ∷ 2 ∷ 1 ∷ [])

-- a text with no item
abbrev pub NothingAtAll : Type 0
NothingAtAll = Says [] [] × Says (32 ∷ 10 ∷ []) []

-- space, tab, CR and LF divide items, several in a row too
abbrev pub EachGap : Type 0
EachGap =
    Says (65 ∷ 32 ∷ 66 ∷ []) (1 ∷ 2 ∷ [])
    × Says (65 ∷ 9 ∷ 66 ∷ []) (1 ∷ 2 ∷ [])
    × Says (65 ∷ 13 ∷ 66 ∷ []) (1 ∷ 2 ∷ [])
    × Says (65 ∷ 10 ∷ 66 ∷ []) (1 ∷ 2 ∷ [])
    × Says (65 ∷ 13 ∷ 10 ∷ 32 ∷ 9 ∷ 66 ∷ []) (1 ∷ 2 ∷ [])

-- gaps before the first item and after the last
abbrev pub GapsRoundAText : Type 0
GapsRoundAText = Says (32 ∷ 9 ∷ (codes "A B" ++ 13 ∷ 10 ∷ [])) (1 ∷ 2 ∷ [])

-- a star and a count: this many steps in a row
abbrev pub Times : Type 0
Times =
    Says (codes "A*1") (1 ∷ [])
    × Says (codes "A*3 B*2") (1 ∷ 1 ∷ 1 ∷ 2 ∷ 2 ∷ [])
    × Says (codes "A*10") (1 ∷ 1 ∷ 1 ∷ 1 ∷ 1 ∷ 1 ∷ 1 ∷ 1 ∷ 1 ∷ 1 ∷ [])
    × Says (codes "B*9") (2 ∷ 2 ∷ 2 ∷ 2 ∷ 2 ∷ 2 ∷ 2 ∷ 2 ∷ 2 ∷ [])

-- `all` is a step of each thread but the setup, in their order
abbrev pub All : Type 0
All = Says (codes "all") (1 ∷ 2 ∷ []) × Says (codes "B all A") (2 ∷ 1 ∷ 2 ∷ 1 ∷ [])

-- a step of each thread in turn, several times; not one thread after the other
abbrev pub AllSeveralTimes : Type 0
AllSeveralTimes = Says (codes "all*3") (1 ∷ 2 ∷ 1 ∷ 2 ∷ 1 ∷ 2 ∷ [])

-- the setup by its name
abbrev pub SetupIsZero : Type 0
SetupIsZero = Says (codes "setup*2 A") (0 ∷ 0 ∷ 1 ∷ [])

-- `all` of a program with the setup alone
abbrev pub AllOfNone : Type 0
AllOfNone = schedule_of (codes "setup" ∷ []) (codes "all*5 setup") ≡ Ok (0 ∷ [])
