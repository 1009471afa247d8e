-- What judges the histories of a program.
use Rattle.ls_checked.specs.CheckedTree.{File}
use Rattle.ls_checked.specs.CheckedProgram.{Program}
use Rattle.ls_serial_search.specs.Open.{HasManyOrders}
use Rattle.ls_serial_search.specs.Told.{usual}
use Rattle.ls_linearity.specs.Tabled.{IsTableOf, most_states}
use Rattle.ls_linearity.specs.declared.judging.SerialJudge.{SerialJudge}
use Rattle.ls_linearity.specs.declared.judging.SerialJudge.TheVariants.{ManyStates, Table}

-- It is the table of the program, or calls that run one at a time lead to too many states: then there are more serial
-- histories than so many, too.
abbrev pub Judges : File → Program → SerialJudge → Type 0
Judges file program (Table t) = IsTableOf file program usual t
Judges file program ManyStates = HasManyOrders file program most_states
