-- What `steps_past` in src/cutting.rt keeps, and why it ends.

use Rattle.std.proofs.Common.{◌-◌, ◌<◌, ◌≤◌, length}
use Rattle.ls_checked.specs.Plain.{plain_file}
use Rattle.ls_checked.specs.PlainProgram.{plain_program}
use Rattle.ls_verdicts.specs.Cuts.{history_to}
use Rattle.ls_verdicts.proofs.cutting.steps_past.Given as goal

abbrev pub invariant-bisect : goal.invariant-bisect
invariant-bisect l = (l.fewer < l.enough) × (l.enough ≤ length l.steps)
    × (length (history_to (plain_file l.file) (plain_program l.program) l.steps l.fewer) ≤ l.at)
    × (l.at < length (history_to (plain_file l.file) (plain_program l.program) l.steps l.enough))

abbrev pub decreases-bisect : goal.decreases-bisect
decreases-bisect l = l.enough - l.fewer
