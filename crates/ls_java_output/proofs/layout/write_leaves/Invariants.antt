-- What the loop of `write_leaves` in src/layout.rt keeps.

use Rattle.std.proofs.Common.{length}
use Rattle.std.specs.Prelude.{string_len}
use Rattle.ls_java_output.specs.Places.{AreInOrder}
use Rattle.ls_java_output.proofs.layout.write_leaves.Given as goal

abbrev pub invariant-all : goal.invariant-all
invariant-all l =
    AreInOrder (length l.source.tokens.now) 0 l.initial.page.places.items (string_len l.initial.page.text) →
    AreInOrder (length l.source.tokens.now) 0 l.page.places.items (string_len l.page.text)
