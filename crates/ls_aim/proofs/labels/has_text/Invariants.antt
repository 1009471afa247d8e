-- What `has_text` in src/labels.rt keeps, and why it ends.

use Rattle.std.proofs.Common.{◌≡◌, length}
use Rattle.ls_aim.specs.Labels.{has_text}
use Rattle.ls_aim.proofs.labels.has_text.Given as goal

abbrev pub invariant-places : goal.invariant-places
invariant-places l = has_text l.text l.rest ≡ has_text l.text l.label

abbrev pub decreases-places : goal.decreases-places
decreases-places l = length l.rest
