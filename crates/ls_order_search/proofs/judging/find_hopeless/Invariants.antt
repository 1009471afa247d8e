-- What `find_hopeless` in src/judging.rt keeps, and why it ends.

use Rattle.std.proofs.Common.{◌≤◌, ◌<◌, ◌-◌, length, map, take, string_bytes}
use Rattle.ls_report.specs.Plain.{plain_event}
use Rattle.ls_orders.specs.Legal.{IsLegal}
use Rattle.ls_order_search.specs.Answers.{NoneIsLegal}
use Rattle.ls_order_search.proofs.judging.find_hopeless.Given as goal

abbrev pub invariant-bisect : goal.invariant-bisect
invariant-bisect l = record {
  apart : l.at < l.illegal;
  within : l.illegal ≤ length l.events;
  before : IsLegal (take l.at (map plain_event l.events)) (map string_bytes l.order.items);
  after : NoneIsLegal (take l.illegal (map plain_event l.events));
}

abbrev pub decreases-bisect : goal.decreases-bisect
decreases-bisect l = l.illegal - l.at
