-- What the loop `thing` of `copy_things` in src/stores.rt keeps.

use Rattle.std.proofs.Common.{◌≡◌, take}
use Rattle.std.specs.Prelude.{map}
use Rattle.ls_source_store.specs.SeenThing.{thing_of}
use Rattle.ls_transitions.proofs.stores.copy_things.Given as goal

abbrev pub invariant-loop-thing : goal.invariant-loop-thing
invariant-loop-thing l = map thing_of l.copies.items ≡ map thing_of (take l.thing-index l.things)
