-- Why `history_key` in src/keys.rt keeps its contract.

use Rattle.std.proofs.Common.{◌∙◌, ap}
use Rattle.ls_batch.specs.Numbers.{number_onto}
use Rattle.ls_batch.proofs.keys.history_key.Goals as goal

pub returns : goal.returns
returns c =
    let events = c.in_ok-events.ensures in
    let number = c.number_of-number.ensures ∙ ap (number_onto 0) (c.as_slice.ensures.value ∙ events) in
    λ i. record { number = number i; events = events i }
