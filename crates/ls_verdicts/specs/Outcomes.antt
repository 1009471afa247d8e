-- The verdict of an outcome.
use Rattle.ls_order_search.specs.declared.judging.OrderAnswer.{OrderAnswer}
use Rattle.ls_order_search.specs.declared.judging.OrderAnswer.TheVariants as outcomes
use Rattle.ls_verdicts.specs.declared.verdicts.Verdict.{Verdict}
use Rattle.ls_verdicts.specs.declared.verdicts.Verdict.TheVariants as verdicts

abbrev pub verdict_of : OrderAnswer → Verdict
verdict_of (outcomes.NotOneSet call) = verdicts.NotOneSet
verdict_of outcomes.TooManyTrapped = verdicts.TooManyTrapped
verdict_of (outcomes.Legal order) = verdicts.Legal
verdict_of (outcomes.Hopeless at order) = verdicts.Illegal
