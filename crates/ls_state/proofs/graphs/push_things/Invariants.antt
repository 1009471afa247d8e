-- What the loop `place` of `push_things` in src/graphs.rt keeps.

use Rattle.std.proofs.Common.{◌≡◌, ◌+◌, ◌++◌, drop, map, string_bytes}
use Rattle.ls_source_store.specs.SeenThing.{thing_of}
use Rattle.ls_state.specs.Parts.{numbered}
use Rattle.ls_state.specs.Drawing.{drawn_thing}
use Rattle.ls_state.specs.Seen.{names_in}
use Rattle.ls_state.proofs.graphs.push_things.Given as goal

abbrev pub invariant-loop-place : goal.invariant-loop-place
invariant-loop-place l =
    string_bytes l.out ++ numbered (drawn_thing (names_in l.scene) l.scene.labels.items) (l.place + 1)
    (map thing_of (drop l.place l.things))
    ≡ string_bytes l.fn.out ++ numbered (drawn_thing (names_in l.scene) l.scene.labels.items) 1 (map thing_of l.things)
