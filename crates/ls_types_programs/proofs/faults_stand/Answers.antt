-- Why `faults_stand` in src/lib.rt keeps its contract.

use Rattle.ls_types_programs.proofs.Faults as faults
use Rattle.ls_types_programs.proofs.faults_stand.Goals as goal

pub returns : goal.returns
returns c = faults.faults_stand
