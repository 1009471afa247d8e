-- What `order` may answer.
use Rattle.std.proofs.Common.{◌≡◌, subst, Result, Ok, Err}
use Rattle.std.specs.Prelude.{String}
use Rattle.std.specs.Global.{Global}
use Rattle.ls_report.specs.Events.{Text}
use Rattle.ls_order_search.specs.Telling.{Tells}
use Rattle.ls_order_search.specs.Telling as telling
use Rattle.ls_order_search.specs.declared.fault.SearchFault.{SearchFault}
use Rattle.ls_order_search.specs.declared.fault.SearchFault.TheVariants as search
use Rattle.ls_faults.specs.Faults.{lifted_search}
use Rattle.ls_faults.specs.Given.{GivesText}
use Rattle.ls_faults.specs.declared.fault.ToolFault.{ToolFault}
use Rattle.ls_commands.specs.Check.{with_feed}
use Rattle.ls_commands.specs.Ordered.{OrdersTo, Told, lifted}

abbrev Failed : ToolFault → Result (String Global) ToolFault
Failed f = Err f

abbrev Untold : SearchFault → Result (String Global) SearchFault
Untold f = Err f

told : (h t : Text) (answer : Result Text SearchFault) → t ≡ with_feed h → Tells t answer → OrdersTo h (lifted answer)
told h t answer e s = Told answer (subst (λ x. Tells x answer) e s)

pub told_fails : (h t : Text) (f : SearchFault) →
    t ≡ with_feed h →
    telling.GivesText (Tells t) (Untold f) →
    GivesText (OrdersTo h) (Failed (lifted_search f))
told_fails h t search.Memory e s = tt
told_fails h t (search.BadHistory at) e s = told h t (Err (search.BadHistory at)) e s
told_fails h t search.TooManyTrapped e s = told h t (Err search.TooManyTrapped) e s

pub told_given : (h t text : Text) → t ≡ with_feed h → Tells t (Ok text) → OrdersTo h (Ok text)
told_given h t text e s = told h t (Ok text) e s
