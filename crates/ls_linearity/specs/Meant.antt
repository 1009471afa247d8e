-- What is said of the linearizability of a history.
use Rattle.std.specs.Prelude.{◌⊎◌, List}
use Rattle.ls_checked.specs.CheckedTree.{File}
use Rattle.ls_checked.specs.CheckedProgram.{Program}
use Rattle.ls_events.specs.declared.event.Event.{Event}
use Rattle.ls_linearizable.specs.Linearizable.{IsLinearizable}
use Rattle.ls_serial_search.specs.Open.{HasManyOrders}
use Rattle.ls_serial_search.specs.Told.{usual}
use Rattle.ls_source_judge.specs.Judged.{IsUnexplainedWithin}
use Rattle.ls_linearity.specs.Tabled.{most_states}
use Rattle.ls_linearity.specs.declared.judging.Linearity.{Linearity}
use Rattle.ls_linearity.specs.declared.judging.Linearity.TheVariants as linearities

-- What is said is so. If it isn't known, there is the reason that is said. A call goes on, and no serial run explains
-- the history, each call of which ends within 10,000 steps. Or calls that run one at a time lead to too many states:
-- then there are more serial histories than so many, too.
abbrev pub IsMeant : File → Program → List Event → Linearity → Type 0
IsMeant file program h linearities.Linearizable = IsLinearizable file program h
IsMeant file program h linearities.NotLinearizable = ¬ IsLinearizable file program h
IsMeant file program h linearities.LongCall = IsUnexplainedWithin file program usual.steps h
IsMeant file program h linearities.ManyStates = HasManyOrders file program most_states

-- it isn't known, for one of both reasons
abbrev pub IsUndecided : File → Program → List Event → Type 0
IsUndecided file program h =
    IsMeant file program h linearities.LongCall ⊎ IsMeant file program h linearities.ManyStates
