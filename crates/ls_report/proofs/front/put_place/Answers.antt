-- Why `put_place` in src/front.rt keeps its contract.

use Rattle.std.proofs.lemmas.Map.Text.{hash_map_updates_str}
use Rattle.ls_report.proofs.front.put_place.Goals as goal

pub returns : goal.returns
returns c = hash_map_updates_str c.args.thread.now c.args.places.now c.insert.new.self _ c.in_ok-insert.ensures.updates
