-- What the loop `choice` of `number_of` in src/choosing.rt keeps.

use Rattle.std.proofs.Common.{◌≡◌, take}
use Rattle.ls_families.specs.Choices.{number_of}
use Rattle.ls_families.proofs.choosing.number_of.Given as goal

abbrev pub invariant-loop-choice : goal.invariant-loop-choice
invariant-loop-choice l = l.number ≡ number_of l.out_of (take l.choice-index l.chosen)
