-- Why `frames` in src/lib.rt keeps its contract.

use Rattle.std.proofs.Common.{refl}
use Rattle.ls_machine_rows.proofs.frames.Goals as goal

pub returns-clause-enters : goal.returns-clause-enters
returns-clause-enters c = refl

pub returns-clause-enters_no_deeper : goal.returns-clause-enters_no_deeper
returns-clause-enters_no_deeper c = (refl, refl, refl)

pub returns-clause-leaves : goal.returns-clause-leaves
returns-clause-leaves c = (refl, refl, refl, refl, refl)

pub returns-clause-throws : goal.returns-clause-throws
returns-clause-throws c = (refl, refl, refl)

pub returns-clause-begins : goal.returns-clause-begins
returns-clause-begins c = (refl, refl, refl, refl, refl)

pub returns-clause-returns : goal.returns-clause-returns
returns-clause-returns c = (refl, refl, refl, refl, refl, refl, refl)

pub returns-clause-stops : goal.returns-clause-stops
returns-clause-stops c = (refl, refl, refl, refl, refl)
