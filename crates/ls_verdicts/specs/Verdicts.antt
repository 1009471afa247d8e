-- The verdict on the history of a run.
use Rattle.std.specs.Prelude.{◌≡◌, true, List, Some, None, map}
use Rattle.ls_events.specs.declared.event.Event.{Event as RunEvent}
use Rattle.ls_checked.specs.CheckedProgram.{Program}
use Rattle.ls_report.specs.Discipline.{is_history}
use Rattle.ls_report.specs.Events.{Event}
use Rattle.ls_report.specs.Printing.{named}
use Rattle.ls_orders.specs.SetCalls.{first_foreign, set_calls}
use Rattle.ls_order_search.specs.Answers.{HasOrder, IsDecided, NoneIsLegal}
use Rattle.ls_order_search.specs.Trapped.{has_many_trapped}
use Rattle.ls_verdicts.specs.declared.verdicts.Verdict.{Verdict}
use Rattle.ls_verdicts.specs.declared.verdicts.Verdict.TheVariants as verdicts

-- the events are those of the run, each with the names of its call, and they are a history
pub record IsNamed (p : Program) (run : List RunEvent) (events : List Event) : Type 0 where
  pub is_named : map (named p) run ≡ map Some events
  pub history : is_history events ≡ true

-- the run has named events that are a history, as each run of a checked program has
abbrev pub IsHistoryOf : Program → List RunEvent → Type 0
IsHistoryOf p run = (events : List Event) × IsNamed p run events

-- All calls are set calls on one object, and have a legal order, or none. Or there is a call of another kind. Or an
-- item has too many trapped calls.
abbrev pub IsVerdictOn : List Event → Verdict → Type 0
IsVerdictOn events verdicts.Legal = IsDecided events × HasOrder events
IsVerdictOn events verdicts.Illegal = IsDecided events × NoneIsLegal events
IsVerdictOn events verdicts.NotOneSet = (e : Event) × (first_foreign events ≡ Some e)
IsVerdictOn events verdicts.TooManyTrapped = (first_foreign events ≡ None) ×
    (has_many_trapped (set_calls events) ≡ true)

-- the verdict on the events with their names
pub record IsVerdict (p : Program) (run : List RunEvent) (v : Verdict) : Type 0 where
  pub events : List Event
  pub named : IsNamed p run events
  pub verdict : IsVerdictOn events v
