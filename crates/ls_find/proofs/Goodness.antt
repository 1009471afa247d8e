-- What the states of the source say.
use Rattle.std.proofs.Common.{◌≡◌, Bool, true}
use Rattle.ls_checked.specs.CheckedTree.{File}
use Rattle.ls_checked.specs.CheckedProgram.{Program}
use Rattle.ls_specification.specs.Specification.{Given}
use Rattle.ls_find.specs.Verdicts.{AllLinearizable, IsGood, NoneWaits}

pub all_good : (waiting : Bool) (given : Given) (file : File) (program : Program) → AllLinearizable given file program →
    (waiting ≡ true → NoneWaits given file program) → IsGood waiting given file program
all_good waiting given file program linear waits = record { linearizable = linear; waits = waits }
