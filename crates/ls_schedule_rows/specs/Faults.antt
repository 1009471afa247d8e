-- Texts with a fault. A place is the byte with which an item begins, counted from 0.
use Rattle.std.specs.Prelude.{[], ◌∷◌, codes}
use Rattle.ls_schedule.specs.declared.fault.ScheduleFault.TheVariants.{BadItem, UnknownThread}
use Rattle.ls_schedule_rows.specs.Said.{IsRefused}

abbrev pub ZeroTimes : Type 0
ZeroTimes = IsRefused (codes "A*0") (BadItem 0) × IsRefused (codes "A*00") (BadItem 0)

-- a count is a digit other than 0, and then digits
abbrev pub BadCounts : Type 0
BadCounts =
    IsRefused (codes "A*") (BadItem 0)
    × IsRefused (codes "A*01") (BadItem 0)
    × IsRefused (codes "A*1x") (BadItem 0)
    × IsRefused (codes "A*+1") (BadItem 0)
    × IsRefused (codes "A**1") (BadItem 0)
    × IsRefused (codes "A*2*3") (BadItem 0)
    × IsRefused (codes "A*/") (BadItem 0)
    × IsRefused (codes "A*:") (BadItem 0)
    × IsRefused (codes "all*0") (BadItem 0)

-- what comes before the star is a name
abbrev pub BadNames : Type 0
BadNames =
    IsRefused (codes "*2") (BadItem 0)
    × IsRefused (codes "1A") (BadItem 0)
    × IsRefused (codes "A-B") (BadItem 0)
    × IsRefused (codes "2*A") (BadItem 0)

-- a comma and a form feed are no gaps, and there is no gap in an item
abbrev pub OtherGaps : Type 0
OtherGaps =
    IsRefused (codes "A,B") (BadItem 0)
    × IsRefused (65 ∷ 12 ∷ 66 ∷ []) (BadItem 0)
    × IsRefused (65 ∷ 11 ∷ 66 ∷ []) (BadItem 0)
    × IsRefused (codes "A *2") (BadItem 2)
    × IsRefused (codes "A* 2") (BadItem 0)

-- a name is one as it is written, and whole
abbrev pub UnknownNames : Type 0
UnknownNames =
    IsRefused (codes "C") (UnknownThread 0)
    × IsRefused (codes "a") (UnknownThread 0)
    × IsRefused (codes "AB") (UnknownThread 0)
    × IsRefused (codes "ALL") (UnknownThread 0)
    × IsRefused (codes "set") (UnknownThread 0)
    × IsRefused (codes "C*2") (UnknownThread 0)

-- a reserved word is no name
abbrev pub ReservedNames : Type 0
ReservedNames = IsRefused (codes "int") (BadItem 0) × IsRefused (codes "true*2") (BadItem 0)

-- the first item with a fault counts, whichever fault it has
abbrev pub FirstFault : Type 0
FirstFault =
    IsRefused (codes "C A*0") (UnknownThread 0)
    × IsRefused (codes "A*0 C") (BadItem 0)
    × IsRefused (codes "C*0") (BadItem 0)

abbrev pub PlacesOfFaults : Type 0
PlacesOfFaults =
    IsRefused (codes "A B C") (UnknownThread 4)
    × IsRefused (codes "  A*12 B*0") (BadItem 7)
    × IsRefused (32 ∷ 13 ∷ 10 ∷ 67 ∷ 67 ∷ []) (UnknownThread 3)
