-- What the loop `place` of `are_placed` in src/renumbering.rt keeps.

use Rattle.std.proofs.Common.{drop}
use Rattle.ls_renaming.specs.Renumbered.{ArePlaced}
use Rattle.ls_renaming.proofs.renumbering.are_placed.Given as goal

abbrev pub invariant-loop-place : goal.invariant-loop-place
invariant-loop-place l = ArePlaced l.back l.place (drop l.place l.numbers) → ArePlaced l.back 0 l.numbers
