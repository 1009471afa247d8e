-- Why `chosen` in src/words.rt keeps its contract.

use Rattle.ls_command_line.proofs.Chosen.{asked_so}
use Rattle.ls_command_line.proofs.words.chosen.Goals as goal

pub returns-in-Some : goal.returns-in-Some
returns-in-Some c =
    rw (c.asked.ensures, c.flag.ensures, c.flag-in-Some.ensures, c.flag-in-Some-2.ensures)
    (asked_so _ _ _ _ _ c.in-Some.ensures.name c.in-Some.ensures.rows)
