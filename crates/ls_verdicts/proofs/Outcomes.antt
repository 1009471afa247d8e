-- An outcome's verdict holds.
use Rattle.std.proofs.Common.{ℕ, List, length, map, string_bytes, take_all, le_of_eq, refl, subst}
use Rattle.ls_report.specs.Events.{Event}
use Rattle.ls_order_search.specs.Answers.{IsHopeless, IsOutcome, NoneIsLegal}
use Rattle.ls_order_search.specs.declared.judging.OrderAnswer.{OrderAnswer}
use Rattle.ls_order_search.specs.declared.judging.OrderAnswer.TheVariants as outcomes
use Rattle.ls_verdicts.specs.Outcomes.{verdict_of}
use Rattle.ls_verdicts.specs.Verdicts.{IsVerdictOn}

-- if no order is legal from an event on, none is legal of all events
hopeless_is_illegal : (events : List Event) (at : ℕ) → IsHopeless events at → NoneIsLegal events
hopeless_is_illegal events at h = subst NoneIsLegal (take_all (length events) events (le_of_eq refl))
    (h.with_it (length events) h.within)

-- an outcome of the search gives its verdict
pub outcome_told : (events : List Event) (outcome : OrderAnswer) →
    IsOutcome events outcome →
    IsVerdictOn events (verdict_of outcome)
outcome_told events (outcomes.NotOneSet call) h = (h.0, h.1)
outcome_told events outcomes.TooManyTrapped h = h
outcome_told events (outcomes.Legal order) h = (h.0, (map string_bytes order.items, h.1))
outcome_told events (outcomes.Hopeless at order) h = (h.0, hopeless_is_illegal events at h.1)
