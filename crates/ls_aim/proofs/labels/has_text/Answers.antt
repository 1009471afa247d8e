-- Why `has_text` in src/labels.rt keeps its contract.

use Rattle.std.proofs.Common.{◌∙◌, sym}
use Rattle.ls_aim.proofs.Finding.{here}
use Rattle.ls_aim.proofs.labels.has_text.Goals as goal

pub returns-then-begins : goal.returns-then-begins
returns-then-begins c = here c.args.text.now c.places.rest.now (sym c.begins.ensures ∙ c.if-begins.true) ∙
    c.places.invariant
