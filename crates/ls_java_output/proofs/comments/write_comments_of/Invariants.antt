-- What the loop `pieces` of `write_comments_of` in src/comments.rt keeps, and why it ends.

use Rattle.std.proofs.Common.{◌≡◌, ◌≤◌, ◌-◌}
use Rattle.std.specs.Prelude.{string_len}
use Rattle.ls_java_output.proofs.comments.write_comments_of.Given as goal

abbrev pub invariant-pieces : goal.invariant-pieces
invariant-pieces l =
    (string_len l.initial.page.text ≤ string_len l.page.text) × (l.page.places ≡ l.initial.page.places)

abbrev pub decreases-pieces : goal.decreases-pieces
decreases-pieces l = l.found.start - l.at
