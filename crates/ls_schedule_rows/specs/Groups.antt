-- Texts of version 2 that say steps of the threads setup, A and B.
use Rattle.std.specs.Prelude.{◌≡◌, [], ◌∷◌, ◌++◌, codes, Ok}
use Rattle.ls_schedule.specs.Reading.{schedule_of}
use Rattle.ls_schedule_rows.specs.Said.{Says}

-- `@2` alone, and with gaps around it
abbrev pub VersionAlone : Type 0
VersionAlone = Says (codes "@2") [] × Says (codes " @2") [] × Says (9 ∷ 13 ∷ (codes "@2" ++ 10 ∷ [])) []

-- without groups a text says the same in both versions
abbrev pub ItemsAlone : Type 0
ItemsAlone =
    Says (codes "@2 A B*2 all") (1 ∷ 2 ∷ 2 ∷ 1 ∷ 2 ∷ [])
    × Says (codes "@2 setup*2 A") (0 ∷ 0 ∷ 1 ∷ [])
    × Says (codes "A B*2 all") (1 ∷ 2 ∷ 2 ∷ 1 ∷ 2 ∷ [])

-- a group goes as many times as its count says, or once if it has no count
abbrev pub GroupsTimes : Type 0
GroupsTimes =
    Says (codes "@2 (A*2 B)*2 all") (1 ∷ 1 ∷ 2 ∷ 1 ∷ 1 ∷ 2 ∷ 1 ∷ 2 ∷ [])
    × Says (codes "@2 (A B)") (1 ∷ 2 ∷ [])
    × Says (codes "@2 (A)*10") (1 ∷ 1 ∷ 1 ∷ 1 ∷ 1 ∷ 1 ∷ 1 ∷ 1 ∷ 1 ∷ 1 ∷ [])
    × Says (codes "@2 B (A)*3 B") (2 ∷ 1 ∷ 1 ∷ 1 ∷ 2 ∷ [])

-- what comes before a group goes once
abbrev pub GroupsInARow : Type 0
GroupsInARow =
    Says (codes "@2 (A)*2 (B)*2") (1 ∷ 1 ∷ 2 ∷ 2 ∷ [])
    × Says (codes "@2 (A (B)*2)*2") (1 ∷ 2 ∷ 2 ∷ 1 ∷ 2 ∷ 2 ∷ [])
    × Says (codes "@2 ((A)*2 B)*2") (1 ∷ 1 ∷ 2 ∷ 1 ∷ 1 ∷ 2 ∷ [])

-- gaps may be at both parentheses, and none is needed
abbrev pub GapsInGroups : Type 0
GapsInGroups =
    Says (codes "@2 ( (A)*2 )*3") (1 ∷ 1 ∷ 1 ∷ 1 ∷ 1 ∷ 1 ∷ [])
    × Says (codes "@2 ((A)*2)*3") (1 ∷ 1 ∷ 1 ∷ 1 ∷ 1 ∷ 1 ∷ [])
    × Says (codes "@2" ++ 10 ∷ (codes "(" ++ 9 ∷ (codes "A" ++ 13 ∷ 10 ∷ codes ")*2"))) (1 ∷ 1 ∷ [])

-- eight groups in one another
abbrev pub EightInOneAnother : Type 0
EightInOneAnother = Says (codes "@2 ((((((((A))))))))") (1 ∷ []) ×
    Says (codes "@2 ((((((((A)*2)))))) B)") (1 ∷ 1 ∷ 2 ∷ [])

-- a group without a step isn't empty
abbrev pub GroupOfNone : Type 0
GroupOfNone = schedule_of (codes "setup" ∷ []) (codes "@2 (all*5)*7 setup") ≡ Ok (0 ∷ [])
