-- What the loop `rest` of `read_order` in src/reading.rt keeps, and why the loop ends.

use Rattle.std.proofs.Common.{◌≡◌, ◌+◌, length, map}
use Rattle.ls_orders.specs.Each.{each}
use Rattle.ls_items.specs.Items.{items}
use Rattle.ls_orders.specs.Orders.{call_at, plain_text}
use Rattle.ls_orders.proofs.ItemLemmas.{with_front}
use Rattle.ls_orders.proofs.reading.read_order.Given as goal

abbrev pub invariant-loop-rest : goal.invariant-loop-rest
invariant-loop-rest l = record {
  place : l.at + length l.rest ≡ length l.text;
  read : with_front (map plain_text l.calls.items) (each call_at (items l.at l.rest)) ≡ each call_at (items 0 l.text);
}

abbrev pub decreases-loop-rest : goal.decreases-loop-rest
decreases-loop-rest l = length l.rest
