-- A closed list of machines shows the history of each schedule that fits.
use Rattle.ls_explore.specs.Explored.{Covers, CoversWhole}
use Rattle.ls_explore.proofs.SettingUp.{place_of, place_roomy, shown}

pub covers_all : Covers
covers_all file program code cells k root machines within acts histories up has_root closed ts fits =
    shown file program code cells within acts machines closed k root up has_root histories ts
    (place_of file program code cells within acts machines closed k root up has_root ts fits)

-- and of each schedule, where none of them would stop
pub covers_whole : CoversWhole
covers_whole file program code cells k root machines within acts histories up has_root closed room ts =
    shown file program code cells within acts machines closed k root up has_root histories ts
    (place_roomy file program code cells within acts machines closed k root up has_root room ts)
