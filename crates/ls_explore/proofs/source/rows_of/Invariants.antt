-- What the loop `row` of `rows_of` in src/source.rt keeps.

use Rattle.std.proofs.Common.{◌≡◌, map, take}
use Rattle.ls_explore.specs.Sources.{told_of}
use Rattle.ls_explore.proofs.source.rows_of.Given as goal

abbrev pub invariant-loop-row : goal.invariant-loop-row
invariant-loop-row l = l.same.items ≡ map told_of (take l.row-index l.rows)
