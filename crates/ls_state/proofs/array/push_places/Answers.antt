-- Why `push_places` in src/array.rt keeps its contract.

use Rattle.std.proofs.Common.{arith}
use Rattle.std.proofs.lemmas.Grind.{common_steps}
use Rattle.ls_state.proofs.Places.{places_of_map}
use Rattle.ls_state.proofs.array.push_places.Goals as goal

pub returns-then-has_one-2 : goal.returns-then-has_one-2
returns-then-has_one-2 c =
    let all = places_of_map c.args.size c.args.items.now c.iter-place-items.ensures.ordered in
    grind (arith, common_steps)

pub returns : goal.returns
returns c =
    let all = places_of_map c.args.size c.args.items.now c.iter-place-items.ensures.ordered in
    grind (arith, common_steps)
