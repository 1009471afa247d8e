-- What the loop of `write_steps` in src/page.rt keeps.

use Rattle.std.proofs.Common.{◌≡◌, ◌≤◌}
use Rattle.std.specs.Prelude.{string_len}
use Rattle.ls_java_output.proofs.page.write_steps.Given as goal

abbrev pub invariant-steps : goal.invariant-steps
invariant-steps l =
    (string_len l.initial.page.text ≤ string_len l.page.text) × (l.page.places ≡ l.initial.page.places)
