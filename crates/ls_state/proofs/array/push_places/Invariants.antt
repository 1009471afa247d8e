-- What the loop `place` of `push_places` in src/array.rt keeps.

use Rattle.std.proofs.Common.{◌≡◌, ◌++◌, string_bytes}
use Rattle.ls_state.specs.Parts.{places_text}
use Rattle.ls_state.proofs.Places.{listed, places_in}
use Rattle.ls_state.proofs.array.push_places.Given as goal

abbrev pub invariant-loop-place : goal.invariant-loop-place
invariant-loop-place l =
    string_bytes l.out ++ listed l.has_one (places_in l.size l.place-iterator)
    ≡ string_bytes l.fn.out ++ places_text (places_in l.size l.items.entries)
