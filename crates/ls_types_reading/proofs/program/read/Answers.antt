-- Why `read` in src/program.rt keeps its clause `stands`.

use Rattle.ls_types_checked.specs.CheckedFile.{elaborated_file}
use Rattle.ls_types_reading.proofs.program.read.Goals as goal

pub returns-in-Err-clause-stands : goal.returns-in-Err-clause-stands
returns-in-Err-clause-stands c = c.fault_of.ensures.stands c.args.text.now c.in-Err.ensures.refused
    (elaborated_file c.args.checked.now)
