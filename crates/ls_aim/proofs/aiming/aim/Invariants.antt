-- What `aim` in src/aiming.rt keeps, and why it ends.

use Rattle.std.proofs.Common.{◌≡◌, ◌+◌, length}
use Rattle.ls_labels.specs.Names.{names_of}
use Rattle.ls_aim.specs.Aims.{aimed, all_taken}
use Rattle.ls_aim.specs.Texts.{items}
use Rattle.ls_aim.proofs.aiming.aim.Given as goal

abbrev pub invariant-items : goal.invariant-items
invariant-items l = record {
  place : l.at + length l.rest ≡ length l.fn.targets;
  read : all_taken (names_of l.fn.names) l.steps (items l.at 0 l.rest) ≡ aimed (names_of l.fn.names) l.fn.targets;
}

abbrev pub decreases-items : goal.decreases-items
decreases-items l = length l.rest
