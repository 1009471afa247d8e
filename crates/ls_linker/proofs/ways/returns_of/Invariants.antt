-- What the loop `way` of `returns_of` in src/ways.rt keeps.

use Rattle.std.proofs.Common.{◌≡◌, ◌+◌, ◌≤◌, drop}
use Rattle.std.specs.Prelude.{min}
use Rattle.ls_linker.specs.Costs.{returned}
use Rattle.ls_linker.proofs.ways.returns_of.Given as goal

abbrev pub invariant-loop-way : goal.invariant-loop-way
invariant-loop-way l = (min (l.all + returned (drop l.way-index l.ways)) 4097 ≡ min (returned l.ways) 4097) ×
    (l.all ≤ 4097)
