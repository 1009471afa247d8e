-- What the loop `i` of `are_other_things` in src/stores.rt keeps.

use Rattle.std.proofs.Common.{drop, map}
use Rattle.ls_source_store.specs.SeenThing.{thing_of}
use Rattle.ls_renaming.specs.Seen.{names_of}
use Rattle.ls_renaming.specs.Renumbered.{AreThingsThere}
use Rattle.ls_renaming.proofs.stores.are_other_things.Given as goal

abbrev pub invariant-loop-i : goal.invariant-loop-i
invariant-loop-i l =
    AreThingsThere (names_of l.names) (drop l.i l.names.numbers.items) (map thing_of (drop l.i l.things))
    (map thing_of l.others) →
    AreThingsThere (names_of l.names) l.names.numbers.items (map thing_of l.things) (map thing_of l.others)
