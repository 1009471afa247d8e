-- Why `put_place` in src/gathering.rt keeps its contract.

use Rattle.std.proofs.lemmas.Map.Text.{btree_map_updates_str}
use Rattle.ls_tallies.proofs.gathering.put_place.Goals as goal

pub returns : goal.returns
returns c = btree_map_updates_str c.args.history.now c.args.places.now c.insert.new.self _
    c.in_ok-insert.ensures.updates
