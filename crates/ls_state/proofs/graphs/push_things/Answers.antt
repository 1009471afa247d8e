-- Why `push_things` in src/graphs.rt keeps its loop `place`.

use Rattle.std.proofs.Common.{◌+◌, arith, string_bytes}
use Rattle.ls_source_store.specs.SeenThing.{thing_of}
use Rattle.ls_state.specs.Seen.{names_in}
use Rattle.ls_state.specs.Drawing.{drawn_thing}
use Rattle.ls_state.proofs.Lists.{numbered_step}
use Rattle.ls_state.proofs.graphs.push_things.Goals as goal

pub loop-place-preserved : goal.loop-place-preserved
loop-place-preserved c =
    numbered_step (drawn_thing (names_in c.args.scene.now) c.args.scene.now.labels.items) (c.loop-place.place + 1)
    thing_of
    c.things-things.result.now c.loop-place.place c.index-things-place.result (string_bytes c.loop-place.out)
    (string_bytes c.push_thing.new.out) _ (omega arith) c.index-things-place.is c.in_ok-push_thing.ensures
    c.loop-place.invariant
