-- What there is to say of a history, in words.
use Rattle.std.specs.Prelude.{[], codes}
use Rattle.ls_report.specs.Events.{Text}
use Rattle.ls_linearity.specs.declared.judging.Linearity.{Linearity}
use Rattle.ls_linearity.specs.declared.judging.Linearity.TheVariants as linearities
use Rattle.ls_verdicts.specs.declared.verdicts.Verdict.{Verdict}
use Rattle.ls_verdicts.specs.declared.verdicts.Verdict.TheVariants as verdicts

-- whether it is linearizable
abbrev pub linearity_text : Linearity → Text
linearity_text linearities.Linearizable = codes "linearizable"
linearity_text linearities.NotLinearizable = codes "not linearizable"
linearity_text linearities.LongCall = codes "not judged: a call goes on"
linearity_text linearities.ManyStates = codes "not judged: too many states"

-- of set calls whether they have a legal order; of other calls whether they are linearizable
abbrev pub first_text : Verdict → Linearity → Text
first_text verdicts.Legal l = codes "legal"
first_text verdicts.Illegal l = codes "illegal"
first_text verdicts.TooManyTrapped l = codes "not judged"
first_text verdicts.NotOneSet l = linearity_text l

-- of set calls it is said beside it if they are not linearizable
abbrev pub beside_set : Linearity → Text
beside_set linearities.Linearizable = []
beside_set linearities.NotLinearizable = codes ", not linearizable"
beside_set linearities.LongCall = []
beside_set linearities.ManyStates = []

abbrev pub beside_text : Verdict → Linearity → Text
beside_text verdicts.Legal l = beside_set l
beside_text verdicts.Illegal l = beside_set l
beside_text verdicts.TooManyTrapped l = beside_set l
beside_text verdicts.NotOneSet l = []
