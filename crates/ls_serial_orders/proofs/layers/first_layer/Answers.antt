-- Why `first_layer` in src/layers.rt keeps its contract.

use Rattle.std.proofs.Common.{◌∷◌, ◌++◌, ◌∙◌, [], ap}
use Rattle.ls_serial_orders.proofs.layers.first_layer.Goals as goal

pub returns : goal.returns
returns c = record {
  placed = c.nothing_placed.result;
  is = c.in_ok-push.ensures.items ∙ ap (λ l. l ++ c.nothing_placed.result ∷ []) c.new-layer.ensures.items;
  state = c.nothing_placed.ensures.state;
  ends = c.nothing_placed.ensures.ends;
}
