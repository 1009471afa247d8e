-- The event with which a run ceases to have a legal order.
use Rattle.std.specs.Prelude.{ℕ, List, Option, Some, None}
use Rattle.ls_events.specs.declared.event.Event.{Event as RunEvent}
use Rattle.ls_checked.specs.CheckedProgram.{Program}
use Rattle.ls_report.specs.Events.{Event}
use Rattle.ls_order_search.specs.Answers.{IsDecided, IsHopeless}
use Rattle.ls_order_search.specs.declared.judging.OrderAnswer.{OrderAnswer}
use Rattle.ls_order_search.specs.declared.judging.OrderAnswer.TheVariants as outcomes
use Rattle.ls_verdicts.specs.Verdicts.{IsNamed, IsVerdict}
use Rattle.ls_verdicts.specs.declared.verdicts.Verdict.TheVariants as verdicts

abbrev pub hopeless_at : OrderAnswer → Option ℕ
hopeless_at (outcomes.NotOneSet call) = None
hopeless_at outcomes.TooManyTrapped = None
hopeless_at (outcomes.Legal order) = None
hopeless_at (outcomes.Hopeless at order) = Some at

-- All calls are set calls on one object. Each beginning of at most `at` events has a legal order, and no longer one
-- has.
pub record IsHopelessRun (p : Program) (run : List RunEvent) (at : ℕ) : Type 0 where
  pub events : List Event
  pub named : IsNamed p run events
  pub decided : IsDecided events
  pub hopeless : IsHopeless events at

-- the verdict is that all calls are set calls on one object, and no order of them is legal
abbrev pub IsIllegal : Program → List RunEvent → Type 0
IsIllegal p run = IsVerdict p run verdicts.Illegal
