-- Texts with groups that are refused. A place is the byte with which an item or a group begins, counted from 0.
use Rattle.std.specs.Prelude.{codes}
use Rattle.ls_schedule.specs.declared.fault.ScheduleFault.TheVariants.{BadItem, UnknownThread}
use Rattle.ls_schedule_rows.specs.Said.{IsRefused}

-- a group without `@2` as the first item
abbrev pub GroupsOfVersionOne : Type 0
GroupsOfVersionOne =
    IsRefused (codes "(A)") (BadItem 0)
    × IsRefused (codes "A (B)") (BadItem 2)
    × IsRefused (codes "A @2 (B)") (BadItem 2)

-- other first items than `@2`, and `@2` once more
abbrev pub OtherVersions : Type 0
OtherVersions =
    IsRefused (codes "@2*3") (BadItem 0)
    × IsRefused (codes "@1 A") (BadItem 0)
    × IsRefused (codes "@22 A") (BadItem 0)
    × IsRefused (codes "@2(A)") (BadItem 0)
    × IsRefused (codes "@2 A @2") (BadItem 5)
    × IsRefused (codes "@2 (@2 A)") (BadItem 4)

-- a group that isn't closed is refused at its own place, a parenthesis that ends no group at that parenthesis
abbrev pub NotClosed : Type 0
NotClosed =
    IsRefused (codes "@2 (A B") (BadItem 3)
    × IsRefused (codes "@2 (A) (B") (BadItem 7)
    × IsRefused (codes "@2 (A (B") (BadItem 3)
    × IsRefused (codes "@2 (") (BadItem 3)
    × IsRefused (codes "@2)") (BadItem 2)
    × IsRefused (codes "@2 A ) (") (BadItem 5)
    × IsRefused (codes "@2 (A))") (BadItem 6)
    × IsRefused (codes "@2 )*2") (BadItem 3)

abbrev pub EmptyGroups : Type 0
EmptyGroups =
    IsRefused (codes "@2 ()") (BadItem 3)
    × IsRefused (codes "@2 ( )*2") (BadItem 3)
    × IsRefused (codes "@2 A (B ())") (BadItem 8)

-- a count of another form, or the count 0
abbrev pub BadGroupCounts : Type 0
BadGroupCounts =
    IsRefused (codes "@2 (A)*0") (BadItem 3)
    × IsRefused (codes "@2 (A)*02") (BadItem 3)
    × IsRefused (codes "@2 (A)*") (BadItem 3)
    × IsRefused (codes "@2 (A)2") (BadItem 3)
    × IsRefused (codes "@2 (A)*2*3") (BadItem 3)
    × IsRefused (codes "@2 (A) *2") (BadItem 7)
    × IsRefused (codes "@2 (A )* 2") (BadItem 3)

-- after an item or a group comes a gap, a closing parenthesis or the end
abbrev pub WithoutGaps : Type 0
WithoutGaps =
    IsRefused (codes "@2 A(B)") (BadItem 3)
    × IsRefused (codes "@2 A*2(B)") (BadItem 3)
    × IsRefused (codes "@2 (A)(B)") (BadItem 3)
    × IsRefused (codes "@2 (A)*2(B)") (BadItem 3)
    × IsRefused (codes "@2 (A)B") (BadItem 3)
    × IsRefused (codes "@2 ((A)B)") (BadItem 4)

-- a ninth group is refused at its own place
abbrev pub NineInOneAnother : Type 0
NineInOneAnother =
    IsRefused (codes "@2 (((((((((A)))))))))") (BadItem 11)
    × IsRefused (codes "@2 (((((((((C)))))))))") (BadItem 11)
    × IsRefused (codes "@2 ((((((((A (B)))))))))") (BadItem 13)
    × IsRefused (codes "@2 (((((((((A)))))))))*0") (BadItem 3)

-- the first fault of the text counts: a fault of a group itself comes before all that is in the group
abbrev pub FirstOfGroups : Type 0
FirstOfGroups =
    IsRefused (codes "@2 (C") (BadItem 3)
    × IsRefused (codes "@2 (C)") (UnknownThread 4)
    × IsRefused (codes "@2 (C)*0") (BadItem 3)
    × IsRefused (codes "@2 C (A") (UnknownThread 3)
    × IsRefused (codes "@2 (A*0 (B") (BadItem 3)
    × IsRefused (codes "@2 (A C) (B)*0") (UnknownThread 6)
    × IsRefused (codes "@2 (A (C) B)*0 C") (BadItem 3)
    × IsRefused (codes "@2 (A (C)*0)") (BadItem 6)
