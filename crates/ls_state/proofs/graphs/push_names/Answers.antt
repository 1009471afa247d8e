-- Why `push_names` in src/graphs.rt keeps its loop `number`.

use Rattle.std.proofs.Common.{arith, string_bytes}
use Rattle.ls_checked.specs.PlainProgram.{plain_name}
use Rattle.ls_state.specs.Seen.{scene_seen}
use Rattle.ls_state.specs.Drawing.{drawn_name}
use Rattle.ls_state.proofs.Lists.{numbered_step}
use Rattle.ls_state.proofs.graphs.push_names.Goals as goal

pub loop-number-preserved : goal.loop-number-preserved
loop-number-preserved c =
    numbered_step (drawn_name (scene_seen c.args.scene.now).state.store) c.loop-number.number plain_name
    c.as_slice-names.result.now c.loop-number.number c.index-names-number.result (string_bytes c.loop-number.out)
    (string_bytes c.push_drawn_name.new.out) _ (omega arith) c.index-names-number.is c.in_ok-push_drawn_name.ensures
    c.loop-number.invariant
