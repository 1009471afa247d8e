-- What is told of threads that turn for ever.
use Rattle.ls_checked.specs.CheckedTree.{File}
use Rattle.ls_checked.specs.CheckedProgram.{Program}
use Rattle.ls_spinning.specs.declared.finding.Turning.{Turning}
use Rattle.ls_spinning.specs.declared.finding.Turning.TheVariants as turning
use Rattle.ls_spinning.specs.Turning.{NeverTurns, TurnsForEver}

-- no schedule leads to that, or this one does, or nothing is said
abbrev pub IsTurning : File → Program → Turning → Type 0
IsTurning file program turning.Never = NeverTurns file program
IsTurning file program (turning.After schedule) = TurnsForEver file program schedule
IsTurning file program turning.Unknown = Unit {0}
