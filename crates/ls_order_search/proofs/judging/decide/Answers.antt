-- Why `decide` in src/judging.rt keeps its contract and what `find_hopeless` requires.

use Rattle.std.proofs.Common.{subst, map, string_bytes, IfNone, IfSome}
use Rattle.ls_report.specs.Plain.{plain_event}
use Rattle.ls_orders.specs.Legal.{IsLegal}
use Rattle.ls_order_search.specs.Answers.{NoneIsLegal}
use Rattle.ls_order_search.proofs.judging.decide.Goals as goal

pub returns-in-Some : goal.returns-in-Some
returns-in-Some c = (
  c.requires.decided,
  subst (λ o. IfSome o (λ order. IsLegal (map plain_event c.args.events.now) (map string_bytes order.items)))
      c.in-Some.is c.in_ok-order.ensures.some,
)

pub find_hopeless-requires-clause-none : goal.find_hopeless-requires-clause-none
find_hopeless-requires-clause-none c = subst (λ o. IfNone o (NoneIsLegal (map plain_event c.args.events.now)))
    c.in-None.is c.in_ok-order.ensures.none
