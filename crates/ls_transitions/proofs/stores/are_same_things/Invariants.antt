-- What the loop `i` of `are_same_things` in src/stores.rt keeps.

use Rattle.std.proofs.Common.{◌≡◌, drop}
use Rattle.std.specs.Prelude.{map}
use Rattle.ls_source_store.specs.SeenThing.{thing_of}
use Rattle.ls_transitions.proofs.stores.are_same_things.Given as goal

abbrev pub invariant-loop-i : goal.invariant-loop-i
invariant-loop-i l =
    map thing_of (drop l.i l.things) ≡ map thing_of (drop l.i l.others) →
    map thing_of l.things ≡ map thing_of l.others
