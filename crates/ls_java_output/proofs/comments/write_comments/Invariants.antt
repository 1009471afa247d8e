-- What the loop `omitted` of `write_comments` in src/comments.rt keeps.

use Rattle.std.proofs.Common.{◌≡◌, ◌≤◌}
use Rattle.std.specs.Prelude.{string_len}
use Rattle.ls_java_output.proofs.comments.write_comments.Given as goal

abbrev pub invariant-omitted : goal.invariant-omitted
invariant-omitted l =
    (string_len l.initial.page.text ≤ string_len l.page.text) × (l.page.places ≡ l.initial.page.places)
